-- The tests are those of the numbers, in their order.
-- Assumes nothing.
use Rattle.carrier.specs.Asked.{well_formed, well_named, asked_number}
use Rattle.carrier.proofs.asked.Asked.check.Goals as goal

pub returns-then-not-formed : goal.returns-then-not-formed
unfolding asked_number well_formed
returns-then-not-formed c =
    simp (← c.good_message.ensures, ← c.all_components.ensures, ← c.look-looked.ensures.printable, c.if-not-formed.true)

pub returns-then-not-named : goal.returns-then-not-named
unfolding asked_number well_formed well_named
returns-then-not-named c =
    simp (
      ← c.good_message.ensures,
      ← c.all_components.ensures,
      ← c.look-looked.ensures.printable,
      ← c.is_key.ensures,
      ← c.all_between.ensures,
      c.if-not-formed.false,
      c.if-not-named.true,
    )

pub returns-then-looked : goal.returns-then-looked
unfolding asked_number well_formed well_named
returns-then-looked c =
    simp (
      ← c.good_message.ensures,
      ← c.all_components.ensures,
      ← c.look-looked.ensures.printable,
      ← c.is_key.ensures,
      ← c.all_between.ensures,
      ← c.look-looked.ensures.twice,
      c.if-not-formed.false,
      c.if-not-named.false,
      c.if-looked.true,
    )

pub returns-then-looked-2 : goal.returns-then-looked-2
unfolding asked_number well_formed well_named
returns-then-looked-2 c =
    simp (
      ← c.good_message.ensures,
      ← c.all_components.ensures,
      ← c.look-looked.ensures.printable,
      ← c.is_key.ensures,
      ← c.all_between.ensures,
      ← c.look-looked.ensures.twice,
      ← c.look-looked.ensures.missing,
      c.if-not-formed.false,
      c.if-not-named.false,
      c.if-looked.false,
      c.if-looked-2.true,
    )

pub returns : goal.returns
unfolding asked_number well_formed well_named
returns c =
    simp (
      ← c.good_message.ensures,
      ← c.all_components.ensures,
      ← c.look-looked.ensures.printable,
      ← c.is_key.ensures,
      ← c.all_between.ensures,
      ← c.look-looked.ensures.twice,
      ← c.look-looked.ensures.missing,
      c.if-not-formed.false,
      c.if-not-named.false,
      c.if-looked.false,
      c.if-looked-2.false,
    )
