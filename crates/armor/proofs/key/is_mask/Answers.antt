-- `is_mask` meets its contract: what does not fit nine bytes is no mask.
-- Assumes nothing.
use mathlib.Core.Path.{sym, ap₂, ◌∙◌}
use mathlib.Core.Bool.{Bool, ◌&&◌}
use Prim.Native.Nat.{ℕ, ◌-◌}
use native.Mathlib.Omega.{arith}
use lib.Dec.{eqb}
use lib.ListN.{replicate}
use Rattle.armor.specs.Keys.{mask}
use Rattle.armor.proofs.Texts.{unfilled, filled, filled_within, mask_room, obeys_run, mask_none, mask_test}
use Rattle.armor.proofs.key.is_mask.Goals as goal

pub returns-in_default : goal.returns-in_default
returns-in_default c =
    let d = c.decode in
    sym (unfilled mask c.args.text.now (replicate 9 0) d.new.out d.result (λ b e. (mask_room b e).1) c.in_default.not-Ok d.ensures)

pub returns-then-n-eq0 : goal.returns-then-n-eq0
returns-then-n-eq0 c =
    let f = filled _ (replicate 9 0) c.decode.new.out c.in-Ok.n _ c.in-Ok.is c.decode.ensures in
    sym (obeys_run mask _ f.run f.is ∙ mask_none f.run _ f.size c.if-n-eq0.true)

pub slice_bounds-is_numeral-end : goal.slice_bounds-is_numeral-end
slice_bounds-is_numeral-end c =
    let f = filled _ (replicate 9 0) c.decode.new.out c.in-Ok.n _ c.in-Ok.is c.decode.ensures in
    omega (arith, filled_within f)

pub returns : goal.returns
returns c =
    let n = c.in-Ok.n in
    let f = filled _ (replicate 9 0) c.decode.new.out n _ c.in-Ok.is c.decode.ensures in
    ap₂ (λ (x : ℕ) (t : Bool). eqb x (n - 1) && t) c.from.ensures c.is_numeral.ensures
    ∙ sym (obeys_run mask _ f.run f.is ∙ mask_test f.run (replicate 9 0) _ f.front f.size c.if-n-eq0.false)
