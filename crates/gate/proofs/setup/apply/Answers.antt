-- Answers for `setup::apply`.
-- Assumes nothing.
use Rattle.std.proofs.Common.{ap, ◌∙◌, arith}
use Rattle.std.specs.Prelude.{Some}
use Rattle.names.proofs.Sizes.{short_extra}
use Rattle.hashes.proofs.Hashes.{mask_named}
use Rattle.table.specs.declared.session.Record.{Record}
use Rattle.table.specs.Record.{begun}
use Rattle.table.specs.Session.{with_record}
use Rattle.gate.specs.State.{outcome}
use Rattle.gate.specs.InnerStarts.{start_at}
use Rattle.gate.proofs.Judging.{left_indexed}
use Rattle.gate.proofs.Starting.{writes}
use Rattle.gate.proofs.setup.apply.Goals as goal

pub of-requires : goal.of-requires
of-requires c = (omega arith, short_extra _ c.args.covered.now.good)

pub returns : goal.returns
unfolding start_at
returns c =
    let a = c.args in
    let session = c.begin-session.ensures ∙ ap (begun a.lent.now.iv.now a.start.now.expiry.0) c.mask-2.ensures in
    ap (outcome _ _) (left_indexed (c.take.ensures.0 ∙ ap (λ (r : Record). with_record a.table.now (Some a.start.now.place) r) session) c.take.ensures.1)
    ∙ writes _ _ _ _ _ c.setup-len.ensures.0 c.setup-len.ensures.1
    ∙ simp (c.seal-sealed.ensures.text, c.seal-sealed.ensures.tag, c.mask.ensures, mask_named, c.of.ensures)
