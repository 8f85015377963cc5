-- The lines up to at are noted, and the block is lines if what follows is.
use Rattle.std.proofs.Common.{◌≡◌, ◌-◌, ◌≤◌, ◌<◌, ℕ, List, [], length, get_or, drop}
use Rattle.names.specs.InnerSheet.{Sheet}
use Rattle.lines.specs.Lines.{good_block}
use Rattle.lines.specs.InnerNotes.{Apart}
use Rattle.lines.proofs.Marks.{Noting}
use Rattle.lines.proofs.noting.note_block.Given as goal

abbrev pub invariant-loop-line : goal.invariant-loop-line
invariant-loop-line l =
    (l.at ≤ length l.block)
    × (length l.notes ≡ 64)
    × (good_block l.block ≡ good_block (drop l.at l.block))
    × ((ns : List (List ℕ)) → Sheet l.sheet.known.now l.sheet.extra.now l.sheet.entries ns → Apart ns → (i : ℕ) → i < length ns
    → Noting l.block (get_or ns i []) l.at (get_or l.notes i 0))

abbrev pub decreases-loop-line : goal.decreases-loop-line
decreases-loop-line l = length l.block - l.at
