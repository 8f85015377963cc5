-- `fields_good` meets its contract: n is looked at only where the other keys are right.
-- Assumes nothing.
use Rattle.std.proofs.Common.{ℕ, ◌%◌, eqb, sym, ap, ap₂, ◌∙◌}
use Rattle.armor.specs.Numerals.{mask_of}
use Rattle.armor.specs.Value.{told}
use Rattle.armor.specs.Fields.{nonce_bit}
use Rattle.armor.proofs.Requests.{request_fields_lem, coverage_there}
use Rattle.armor.proofs.contents.fields_good.Goals as goal

pub returns-then-not-times_good : goal.returns-then-not-times_good
returns-then-not-times_good c =
    sym (request_fields_lem c.args.seen.now c.requires ∙ simp (sym c.times_good.ensures ∙ c.if-not-times_good.true))

pub mask_in-requires : goal.mask_in-requires
mask_in-requires c =
    let there = coverage_there c.args.seen.now c.requires (sym c.times_good.ensures ∙ c.if-not-times_good.false) in
    rw c.text.ensures (there.1, there.2)

pub returns : goal.returns
unfolding nonce_bit
returns c =
    let times = sym c.times_good.ensures ∙ c.if-not-times_good.false in
    let there = coverage_there c.args.seen.now c.requires times in
    ap₂ (λ (x y : ℕ). eqb x (y % 2)) (c.from.ensures ∙ c.count.ensures) (c.mask_in.ensures ∙ ap mask_of (ap told c.text.ensures ∙ there.0))
    ∙ sym (request_fields_lem c.args.seen.now c.requires ∙ simp times)
