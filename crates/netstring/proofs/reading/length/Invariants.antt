-- The bytes before i are the digits of the value.
use Rattle.netstring.proofs.Scanned.{Read}
use Rattle.netstring.proofs.reading.length.Given as goal

abbrev pub invariant-loop-i : goal.invariant-loop-i
invariant-loop-i l = Read l.run l.i l.value
