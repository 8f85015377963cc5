-- The new entry's bytes, and the others behind them.
use Rattle.std.proofs.Common.{◌≡◌, ap₂, ◌∙◌, ◌++◌, ◌-◌, length, arith}
use native.Mathlib.Nat.{div-one}
use Rattle.cells.specs.Numbers.{bytes_of}
use Rattle.index.proofs.Moves.{raised}
use Rattle.index.proofs.entries.open.Goals as goal

pub returns : goal.returns
unfolding bytes_of
returns c =
    let entry : c.copy_from_slice.new.self ≡ bytes_of 2 c.args.entry = c.copy_from_slice.ensures.after ∙ simp div-one c.to_be_bytes.ensures in
    ap₂ ◌++◌ entry (raised c.args.run.now _ (length c.args.run.now - 2) c.copy_within.ensures.after (omega arith) (omega arith))
