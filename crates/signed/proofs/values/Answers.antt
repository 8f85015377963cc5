use Rattle.std.proofs.Common.{◌≡◌, length, arith}
use mathlib.Core.Logic.{⊎_elim}
use Rattle.signed.proofs.Going.{going_start, going_first, going_on, going_end}
use Rattle.signed.proofs.values.Goals as goal

pub loop-head-init : goal.loop-head-init
loop-head-init c =
    let heads : c.into_iter-head-iterator.result.a.rest.now ≡ c.args.in_head.now = cc (c.zip-head-items.ensures.first, c.iter.ensures.rest) in
    let asides : c.into_iter-head-iterator.result.b.rest.now ≡ c.args.in_aside.now = cc (c.zip-head-items.ensures.second.0) in
    going_start _ _ _ heads asides c.requires.0 c.requires.1 c.requires.2 c.requires.3

pub absorb_value-requires : goal.absorb_value-requires
absorb_value-requires c =
    let left = rw (c.in-Some.ensures.steps.0, c.in-Some.ensures.steps.1) at c.loop-head.invariant in going_first _ _ left

pub loop-head-preserved : goal.loop-head-preserved
loop-head-preserved c =
    let left = rw (c.in-Some.ensures.steps.0, c.in-Some.ensures.steps.1) at c.loop-head.invariant in going_on _ _ left c.absorb_value.ensures

pub returns : goal.returns
returns c =
    let none : length c.loop-head.head-iterator.a.rest.now ≡ 0 =
    ⊎_elim (λ a. a.1.0) (λ b. omega (arith, b.1.0, c.loop-head.invariant.even)) c.in-None.ensures.steps in
    going_end _ _ _ _ none c.loop-head.invariant
