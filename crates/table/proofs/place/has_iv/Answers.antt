-- The mark and the IV stand at the front of a record.
use Rattle.std.proofs.Common.{ap, ap₂, sym, ◌∙◌, ℕ, Bool, List}
use Rattle.std.specs.Prelude.{◌&&◌}
use lib.Dec.{eqb}
use Rattle.cells.specs.Runs.{same}
use Rattle.table.proofs.Records.{used_at_lem, iv_at}
use Rattle.table.proofs.place.has_iv.Goals as goal

pub returns : goal.returns
returns c =
    let a = c.args in
    ap₂ (λ (u : ℕ) (b : Bool). eqb u 1 && b) (sym (used_at_lem a.table.now a.place c.requires))
    (c.same_iv.ensures ∙ ap (λ (l : List ℕ). same l a.iv.now) (sym (iv_at a.table.now a.place c.requires)))
