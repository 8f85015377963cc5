-- A \ is left out, and whatever stands after it is kept.
-- Assumes nothing.
use Rattle.std.proofs.Common.{refl, arith, [], ◌∷◌, ℕ, List, Bool, false, not, ◌&&◌, ◌≡◌, ◌<◌, length, get_or, drop}
use lib.Dec.{eqb}
use Rattle.structured.specs.Texts.{backslash}
use Rattle.structured.specs.Reading.{unescaped_after, unescaped}
use Rattle.structured.proofs.Steps.{unescaped_size, unescaped_skip, unescaped_keep, unescaped_past}
use Rattle.structured.proofs.Laying.{Laying, laying_none, laying_next, laying_more, laying_as, laying_all, laid_byte}
use Rattle.structured.proofs.reading.unescape.Goals as goal
use Rattle.structured.proofs.reading.unescape.Goals.{then-not-after, else-not-after}

pub loop-b-init : goal.loop-b-init
unfolding unescaped
loop-b-init c = laying_none _ _ (omega (arith, unescaped_size c.args.text.now)) refl

-- a byte that is kept has room
room : {out₀ out : List ℕ} {end : ℕ} (text : List ℕ) (i : ℕ) (after : Bool)
    → Laying out₀ out 0 end (unescaped text) (unescaped_after after (drop i text)) → i < length text
    → (eqb (get_or text i 0) backslash && not after) ≡ false → end < length out
room text i after l h n = omega (arith, laying_next l (_ ∷ []) _ (unescaped_keep text i h after n))

pub bounds-out-end : goal.bounds-out-end
bounds-out-end c = room _ _ _ c.loop-b.invariant c.loop-b-test.true c.if-not-after.true

pub loop-b-preserved : goal.loop-b-preserved
loop-b-preserved c =
    let turn = c.loop-b in
    let text = c.args.text.now in
    let more = c.loop-b-test.true in
    elim c.if-not-after.branch [
      | then-not-after w ↦ rw (w.out-is, w.end-is)
          (laying_more turn.invariant (unescaped_keep text turn.b-index more turn.after w.if-not-after.true)
          (laid_byte turn.out turn.end (get_or text turn.b-index 0) (room _ _ _ turn.invariant more w.if-not-after.true)))
      | else-not-after w ↦ rw (w.out-is, w.end-is) (laying_as turn.invariant (unescaped_skip text turn.b-index more turn.after w.if-not-after.false))
    ]

pub returns : goal.returns
returns c = laying_all c.loop-b.invariant (unescaped_past _ c.loop-b.b-index c.loop-b.after c.loop-b-test.false)
