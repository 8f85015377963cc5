-- No name up to i is repeated.
use Rattle.std.proofs.Common.{◌≡◌, ℕ, List, length, drop}
use Rattle.names.specs.InnerSheet.{Sheet}
use Rattle.lines.specs.Lines.{lines_in}
use Rattle.lines.specs.Values.{repeated}
use Rattle.lines.specs.InnerNotes.{Notes}
use Rattle.lines.proofs.noting.repeats.Given as goal

abbrev pub invariant-loop-i : goal.invariant-loop-i
invariant-loop-i l = (ns : List (List ℕ)) (block : List ℕ) → Sheet l.sheet.known.now l.sheet.extra.now l.sheet.entries ns → length ns ≡ l.sheet.count → Notes block ns l.notes
    → repeated ns (lines_in block) ≡ repeated (drop l.i ns) (lines_in block)
