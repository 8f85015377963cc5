use Rattle.std.proofs.Common.{◌≡◌, ◌++◌, take, drop}
use Rattle.hmac.specs.Hmac.{xored}
use Rattle.hmac.proofs.keyed.Given as goal

abbrev pub invariant-loop-b : goal.invariant-loop-b
invariant-loop-b l =
    l.b-items ≡ xored l.pad (take l.b-index l.initial.b-items) ++ drop l.b-index l.initial.b-items
