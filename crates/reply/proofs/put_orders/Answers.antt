-- `put_orders` meets its contract.
-- Assumes nothing.
use Rattle.std.proofs.Common.{[], ◌∷◌, arith}
use Rattle.cells.specs.Text.{codes}
use Rattle.hashes.specs.Hashes.{hash_mask}
use Rattle.armor.specs.Numerals.{mask_bytes}
use Rattle.armor.specs.Value.{field}
use Rattle.armor.proofs.Laying.{laid_following}
use Rattle.reply.specs.Replies.{extra_field}
use Rattle.reply.proofs.put_orders.Goals as goal

pub returns : goal.returns
unfolding codes
returns c =
    let a = c.args in
    let h = c.put_mask-after_h in
    let ah = c.put_mask-after_ah in
    let eah = c.put_extra in
    let hash = field (codes "h") (mask_bytes (hash_mask a.hash)) in
    let mask = field (codes "ah") (mask_bytes a.mask) in (
      omega (arith, h.ensures.0, ah.ensures.0, eah.ensures.0),
      laid_following (hash ∷ mask ∷ []) (extra_field a.extra.now)
          (laid_following (hash ∷ []) (mask ∷ []) (rw c.mask.ensures at h.ensures.1) ah.ensures.1 (omega (arith, c.requires, h.ensures.0, ah.ensures.0)))
          eah.ensures.1
          (omega (arith, c.requires, h.ensures.0, ah.ensures.0, eah.ensures.0)),
    )
