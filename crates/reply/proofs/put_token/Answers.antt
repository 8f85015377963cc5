-- `put_token` meets its contract: four fields are laid side by side.
-- Assumes nothing.
use Rattle.std.proofs.Common.{rules, ◌≡◌, [], ◌∷◌, ◌≤◌, length, ap, arith}
use Rattle.cells.specs.Text.{codes}
use Rattle.cells.proofs.Laid.{laid_more}
use Rattle.armor.specs.Value.{field}
use Rattle.armor.proofs.Laying.{laid_following}
use Rattle.reply.proofs.Lengths.{run_short}
use Rattle.reply.proofs.put_token.Goals as goal

pub returns : goal.returns
unfolding codes
returns c =
    let a = c.args.reply.now in
    let s = c.put_field-after_s in
    let iv = c.put_next-after_iv in
    let tag = c.put_next-after_tag in
    let kh = c.put_next in
    let iv_long : length a.iv ≡ 12 = search rules in
    let tag_long : length a.tag ≡ 16 = search rules in
    let key_long : length a.key ≡ 32 = search rules in
    let short = run_short a.s in
    let text = c.as_slice.ensures in
    let one : s.result ≤ 162 = omega (arith, s.ensures.0, ap length text, short) in
    let three : tag.result ≤ 211 = omega (arith, one, iv_long, tag_long, iv.ensures.0, tag.ensures.0) in
    let four : kh.result ≤ 259 = omega (arith, three, key_long, kh.ensures.0) in (
      four,
      laid_more (rw text at s.ensures.1)
          (laid_following (field (codes "iv") a.iv ∷ field (codes "tag") a.tag ∷ []) (field (codes "kh") a.key ∷ [])
          (laid_following (field (codes "iv") a.iv ∷ []) (field (codes "tag") a.tag ∷ []) iv.ensures.1 tag.ensures.1
          (omega (arith, c.requires, three, s.auto)))
          kh.ensures.1
          (omega (arith, c.requires, four, s.auto)))
          (omega (arith, c.requires, four)),
    )
