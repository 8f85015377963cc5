-- Quotes are left out, and blanks become commas.
-- Assumes nothing.
use Rattle.std.proofs.Common.{refl, arith, [], ◌∷◌, ℕ, List, ◌≡◌, ◌∙◌, ◌<◌, length, get_or, drop}
use borrow.Author.Tests.{eq-eqb, ne_eqb}
use Rattle.structured.specs.Texts.{quote}
use Rattle.structured.specs.Reading.{unlisted}
use Rattle.structured.proofs.Steps.{unlisted_size, unlisted_skip, unlisted_keep, unlisted_past}
use Rattle.structured.proofs.Laying.{Laying, laying_none, laying_next, laying_more, laying_as, laying_all, laid_byte}
use Rattle.structured.proofs.reading.unlist.Goals as goal
use Rattle.structured.proofs.reading.unlist.Goals.{then-b-ne34, then-b-eq32, else-b-eq32, else-b-ne34}

pub loop-b-init : goal.loop-b-init
loop-b-init c = laying_none _ _ (omega (arith, unlisted_size c.args.text.now)) refl

-- a byte that is kept has room
room : {out₀ out : List ℕ} {end : ℕ} (text : List ℕ) (i : ℕ) → Laying out₀ out 0 end (unlisted text) (unlisted (drop i text)) → i < length text
    → (get_or text i 0 ≡ quote → ⊥) → end < length out
room text i l h n = omega (arith, laying_next l (_ ∷ []) _ (unlisted_keep text i h _ refl (ne_eqb _ _ n)))

pub bounds-out-end : goal.bounds-out-end
bounds-out-end c = room _ _ c.loop-b.invariant c.loop-b-test.true c.if-b-ne34.true

pub loop-b-preserved : goal.loop-b-preserved
loop-b-preserved c =
    let turn = c.loop-b in
    let text = c.args.text.now in
    let more = c.loop-b-test.true in
    elim c.if-b-ne34.branch [
      | then-b-ne34 w ↦ rw (w.out-is, w.end-is)
          (laying_more turn.invariant
          (unlisted_keep text turn.b-index more w.if-b-eq32.out
          (elim w.if-b-eq32.branch [
            | then-b-eq32 v ↦ v.out-is ∙ rw (eq-eqb _ _ v.if-b-eq32.true)
            | else-b-eq32 v ↦ v.out-is ∙ rw (ne_eqb _ _ v.if-b-eq32.false)
          ])
          (ne_eqb _ _ w.if-b-ne34.true))
          (laid_byte turn.out turn.end w.if-b-eq32.out (room text turn.b-index turn.invariant more w.if-b-ne34.true)))
      | else-b-ne34 w ↦ rw (w.out-is, w.end-is) (laying_as turn.invariant (unlisted_skip text turn.b-index more (eq-eqb _ _ w.if-b-ne34.false)))
    ]

pub returns : goal.returns
returns c = laying_all c.loop-b.invariant (unlisted_past _ c.loop-b.b-index c.loop-b-test.false)
