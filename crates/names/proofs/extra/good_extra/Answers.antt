use Rattle.std.proofs.Common.{rules, ◌≡◌, ◌≤◌, ◌∙◌, length, ap, refl, arith}
use Rattle.std.proofs.lemmas.Iterator.Consumers.{YieldsList-from_first, count_from_yields_List}
use borrow.Author.Tests.{lt-leb, le-leb}
use Rattle.names.specs.Extra.{extra_names, good_extra}
use Rattle.names.specs.InnerWalk.{names_left}
use Rattle.names.proofs.Sizes.{few_extra}
use Rattle.names.proofs.extra.good_extra.Goals as goal

pub returns-then-extra-gt-MOST : goal.returns-then-extra-gt-MOST
unfolding good_extra
returns-then-extra-gt-MOST c = simp (lt-leb _ _ c.if-extra-gt-MOST.true)

pub count-requires-clause-fits : goal.count-requires-clause-fits
count-requires-clause-fits c =
    let few : length (names_left c.of-names.result) ≤ 129 = omega (arith, few_extra c.args.extra.now, ap length c.of-names.ensures, c.if-extra-gt-MOST.false) in
    search rules

pub returns : goal.returns
unfolding good_extra
returns c =
    let count : c.count.result ≡ length (extra_names c.args.extra.now) =
    count_from_yields_List _ _ c.count.ensures.ran (YieldsList-from_first (λ x. x.now) names_left _ refl) ∙ ap length c.of-names.ensures in
    simp (c.good_names.ensures, count, c.of-names.ensures, le-leb _ _ c.if-extra-gt-MOST.false)
