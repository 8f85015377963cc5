-- The tests are those of the numbers, in their order.
-- Assumes nothing.
use Rattle.carrier.specs.Verify.{told_number}
use Rattle.carrier.proofs.verify.check_told.Goals as goal

pub returns-then-not-formed : goal.returns-then-not-formed
unfolding told_number
returns-then-not-formed c = simp (← c.good_input.ensures, ← c.good_signature.ensures, c.if-not-formed.true)

pub returns-then-not-asked_for : goal.returns-then-not-asked_for
unfolding told_number
returns-then-not-asked_for c =
    simp (
      ← c.good_input.ensures,
      ← c.good_signature.ensures,
      ← c.requires.label,
      ← c.same.ensures,
      ← c.label_of.ensures,
      ← c.same-2.ensures,
      ← c.requires.key_id,
      ← c.same-3.ensures,
      c.if-not-formed.false,
      c.if-not-asked_for.true,
    )

pub returns : goal.returns
unfolding told_number
returns c =
    simp (
      ← c.good_input.ensures,
      ← c.good_signature.ensures,
      ← c.requires.label,
      ← c.same.ensures,
      ← c.label_of.ensures,
      ← c.same-2.ensures,
      ← c.requires.key_id,
      ← c.same-3.ensures,
      c.if-not-formed.false,
      c.if-not-asked_for.false,
    )
