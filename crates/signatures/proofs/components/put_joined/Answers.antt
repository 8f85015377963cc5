-- The value of a line is laid, and, where another line follows that bears its name, a comma and a blank.
-- Assumes nothing.
use Rattle.std.proofs.Common.{refl, ap, arith, length, [], ◌∷◌}
use Rattle.names.specs.Extra.{comma}
use Rattle.lines.specs.Values.{space}
use Rattle.lines.proofs.Joined.{stands_within}
use Rattle.structured.proofs.Laying.{laying_none, laying_next, laying_more, laying_all}
use Rattle.signatures.proofs.Values.{front_fits, front_last, front_then}
use Rattle.signatures.proofs.components.put_joined.Goals as goal

pub loop-next-init : goal.loop-next-init
loop-next-init c = record { stands = c.requires.0; laying = laying_none _ 0 (omega (arith, c.requires.1)) refl }

pub value_at-requires : goal.value_at-requires
value_at-requires c = omega (arith, stands_within _ _ c.loop-next.invariant.stands)

pub put_at-end-requires : goal.put_at-end-requires
put_at-end-requires c =
    omega (arith, front_fits c.loop-next.invariant.laying c.loop-next.invariant.stands, ap length c.value_at.ensures)

pub again-requires : goal.again-requires
again-requires c = c.loop-next.invariant.stands

pub returns-in_default : goal.returns-in_default
returns-in_default c =
    laying_all (front_last c.loop-next.invariant.laying c.value_at.ensures c.put_at-end.ensures c.in_default.ensures) refl

pub put_at-end-requires-in-loop-next : goal.put_at-end-requires-in-loop-next
put_at-end-requires-in-loop-next c =
    laying_next (front_then c.loop-next.invariant.laying c.value_at.ensures c.put_at-end.ensures c.in-Some.ensures) (comma ∷ space ∷ []) _ refl

pub loop-next-smaller : goal.loop-next-smaller
loop-next-smaller c =
    let found = c.in-Some.ensures.found in
    omega (arith, found.from, stands_within _ _ found.stands)

pub loop-next-preserved : goal.loop-next-preserved
loop-next-preserved c = record {
  stands = c.in-Some.ensures.found.stands;
  laying =
      laying_more (front_then c.loop-next.invariant.laying c.value_at.ensures c.put_at-end.ensures c.in-Some.ensures) refl
      c.put_at-end-in-loop-next.ensures;
}
