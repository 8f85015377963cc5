-- `read_piece` meets its contract.
-- Assumes nothing.
use Rattle.std.proofs.Common.{rules, ℕ, not, eqb, ◌∙◌, arith, length-take}
use Rattle.armor.specs.Pieces.{colon}
use Rattle.armor.proofs.Pieces.{length_up_to}
use Rattle.armor.proofs.Scan.{colon_at, piece_is, read_as}
use Rattle.armor.proofs.scanning.read_piece.Goals as goal

pub overflow_add-colon : goal.overflow_add-colon
overflow_add-colon c =
    let at = colon_at _ _ (c.end-colon.ensures (λ (b : ℕ). not (eqb b colon)) (λ b r small e. search rules)) in
    record { fits = omega (arith, at, length_up_to colon c.args.text.now) }

pub slice_bounds-named-end : goal.slice_bounds-named-end
slice_bounds-named-end c =
    let at = colon_at _ _ (c.end-colon.ensures (λ (b : ℕ). not (eqb b colon)) (λ b r small e. search rules)) in
    omega (arith, at, length_up_to colon c.args.text.now, length-take c.end-colon.result c.args.text.now)

pub returns-then-not-good : goal.returns-then-not-good
returns-then-not-good c =
    let at = colon_at _ _ (c.end-colon.ensures (λ (b : ℕ). not (eqb b colon)) (λ b r small e. search rules)) in
    (piece_is _ _ _ _ _ at c.min-start.ensures c.named-key.ensures c.is_good.ensures).0 ∙ c.if-not-good.true

pub returns : goal.returns
returns c =
    let at = colon_at _ _ (c.end-colon.ensures (λ (b : ℕ). not (eqb b colon)) (λ b r small e. search rules)) in
    let is = piece_is _ _ _ _ _ at c.min-start.ensures c.named-key.ensures c.is_good.ensures in
    read_as _ _ _ at c.min-start.ensures (is.0 ∙ c.if-not-good.false) is.1
