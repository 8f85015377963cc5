use Rattle.std.proofs.Common.{rules, ◌≡◌, ◌+◌, ◌/◌, ℕ, List, ◌∷◌, length, ap, ◌∙◌, arith}
use borrow.Author.Tests.{eq-eqb, ne_eqb}
use Rattle.names.specs.Extra.{extra_names}
use Rattle.names.specs.Covered.{chosen}
use Rattle.names.specs.InnerWalk.{names_left}
use Rattle.names.proofs.Walk.{chosen_set, chosen_clear, chosen_end, chosen_none}
use Rattle.names.proofs.Entering.{come_first, come_on, enters_then, enters_none}
use Rattle.names.proofs.sheet.enter.Goals as goal
use Rattle.names.proofs.sheet.enter.Goals.{then-left-eq1, else-left-eq1}

pub loop-name-init : goal.loop-name-init
loop-name-init c =
    let all : names_left c.into_iter-name-iterator.result ≡ extra_names c.args.run.now =
    ap names_left c.into_iter-name-iterator.ensures.into_iter_gives ∙ c.of-name-items.ensures in (
      search rules,
      rw all (come_first c.args.run.now c.args.base),
      ap (λ (ns : List (List ℕ)). c.args.count + length (chosen c.args.wanted ns)) all,
      λ after e. rw all at e,
    )

pub put-requires : goal.put-requires
put-requires c =
    let first : chosen c.loop-name.left (names_left c.loop-name.name-iterator) ≡ c.in-Some.name.now ∷ chosen (c.loop-name.left / 2) (names_left c.next.new.self) =
    ap (chosen c.loop-name.left) c.in-Some.ensures.steps ∙ chosen_set _ _ _ (eq-eqb _ _ c.if-left-eq1.true) in
    (search rules, omega (arith, ap length first, c.loop-name.invariant.2), omega (arith, c.loop-name.invariant.1.within))

pub loop-name-preserved : goal.loop-name-preserved
loop-name-preserved c =
    let inv = c.loop-name.invariant in
    let first = ap (chosen c.loop-name.left) c.in-Some.ensures.steps in
    let come = rw c.in-Some.ensures.steps at inv.1 in
    let on = come_on c.args.run.now c.in-Some.name.now (names_left c.next.new.self) c.args.base c.loop-name.start come in
    elim c.if-left-eq1.branch [
      | then-left-eq1 w ↦
          let fewer = first ∙ chosen_set _ _ _ (eq-eqb _ _ w.if-left-eq1.true) in (
            search rules,
            on,
            omega (arith, ap length fewer, w.entered-is, inv.2),
            λ after rest. inv.3 after (rw fewer (enters_then _ _ _ _ _ _ _ _ _ _ after come w.key.ensures (omega (arith, ap length fewer, inv.2))
                w.put.ensures (rw (w.entries-is, w.entered-is) at rest))),
          )
      | else-left-eq1 w ↦
          let same = first ∙ chosen_clear _ _ _ (ne_eqb _ _ w.if-left-eq1.false) in (
            search rules,
            on,
            omega (arith, ap length same, w.entered-is, inv.2),
            λ after rest. inv.3 after (rw same (rw (w.entries-is, w.entered-is) at rest)),
          )
    ]

pub returns-in-None : goal.returns-in-None
returns-in-None c =
    let inv = c.loop-name.invariant in
    let none = ap (chosen c.loop-name.left) c.in-None.ensures.steps.0 ∙ chosen_end c.loop-name.left in
    (omega (arith, ap length none, inv.2), inv.3 _ (rw none (enters_none _ _ _ _)))

pub returns-then-left-eq0 : goal.returns-then-left-eq0
returns-then-left-eq0 c =
    let inv = c.loop-name.invariant in
    let none = ap (λ (bits : ℕ). chosen bits (names_left c.loop-name.name-iterator)) c.if-left-eq0.true ∙ chosen_none (names_left c.loop-name.name-iterator) in
    (omega (arith, ap length none, inv.2), inv.3 _ (rw none (enters_none _ _ _ _)))
