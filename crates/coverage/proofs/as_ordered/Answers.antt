-- `as_ordered` meets its contract.
-- Assumes nothing.
use Rattle.std.proofs.Common.{ap, ◌∙◌}
use Rattle.hashes.specs.Hashes.{digest_size}
use Rattle.coverage.proofs.Ordered.{ordered, extra_told}
use Rattle.coverage.proofs.as_ordered.Goals as goal

pub returns : goal.returns
returns c =
    let a = c.args in
    let covered = c.extra_good.ensures ∙ extra_told a.value.now a.request.now c.requires.0 c.requires.1 a.extra.now (λ i. (c.type_inv.extra i).fits) in
    let size = c.size-size.ensures ∙ ap digest_size c.named.ensures in
    ordered a.value.now a.request.now c.requires.0 c.requires.1 a.hashes a.mask a.extra.now c.ranges.mask.fits c.requires.2 c.allowed_one.ensures size covered
