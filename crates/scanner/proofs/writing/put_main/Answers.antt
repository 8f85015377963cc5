-- Six fields are laid side by side.
-- Assumes nothing.
use Rattle.std.proofs.Common.{◌≤◌, arith, length, [], ◌∷◌}
use Rattle.cells.specs.Text.{codes}
use Rattle.cells.proofs.Laid.{laid_more}
use Rattle.armor.specs.Numerals.{number_bytes}
use Rattle.armor.specs.Value.{field}
use Rattle.armor.proofs.Laying.{laid_following}
use Rattle.scanner.proofs.writing.put_main.Goals as goal

pub put_next-after_iv-requires : goal.put_next-after_iv-requires
unfolding codes
put_next-after_iv-requires c =
    let k = c.args.session.now in
    omega (arith, k.iv_size, k.s_fits, c.put_field-after_s.ensures.0, c.put_next-after_c.ensures.0, c.put_number-after_t.ensures.0, c.put_number-after_lt.ensures.0)

pub put_next-requires : goal.put_next-requires
unfolding codes
put_next-requires c =
    let k = c.args.session.now in
    omega (
      arith,
      k.iv_size,
      k.tag_size,
      k.s_fits,
      c.put_field-after_s.ensures.0,
      c.put_next-after_c.ensures.0,
      c.put_number-after_t.ensures.0,
      c.put_number-after_lt.ensures.0,
      c.put_next-after_iv.ensures.0,
      c.put_field-after_s.auto.out,
      c.put_next-after_c.auto.out,
      c.put_number-after_t.auto.out,
      c.put_number-after_lt.auto.out,
      c.put_next-after_iv.auto.out,
    )

pub returns : goal.returns
unfolding codes
returns c =
    let k = c.args.session.now in
    let s = c.put_field-after_s in
    let code = c.put_next-after_c in
    let time = c.put_number-after_t in
    let last = c.put_number-after_lt in
    let iv = c.put_next-after_iv in
    let tag = c.put_next in
    let C = field (codes "c") c.args.c.now in
    let T = field (codes "t") (number_bytes c.args.clock.0) in
    let L = field (codes "lt") (number_bytes k.last.0) in
    let I = field (codes "iv") k.iv.now in
    let G = field (codes "tag") k.tag.now in
    let end_iv : iv.result ≤ 296 = omega (arith, k.iv_size, k.s_fits, s.ensures.0, code.ensures.0, time.ensures.0, last.ensures.0, iv.ensures.0) in
    let end : tag.result ≤ 325 = omega (arith, k.tag_size, tag.ensures.0) in
    let kept : 4096 ≤ length s.new.out = omega (arith, c.requires.0, s.auto.out) in
    let before_iv : last.result ≤ 325 = omega (arith, end, iv.ensures.0, tag.ensures.0) in
    let before_lt : time.result ≤ 325 = omega (arith, k.s_fits, s.ensures.0, code.ensures.0, time.ensures.0) in
    let two = laid_following (C ∷ []) (T ∷ []) code.ensures.1 time.ensures.1 (omega arith) in
    let three = laid_following (C ∷ T ∷ []) (L ∷ []) two last.ensures.1 (omega arith) in
    let four = laid_following (C ∷ T ∷ L ∷ []) (I ∷ []) three iv.ensures.1 (omega (arith, end_iv)) in
    (end, laid_more s.ensures.1 (laid_following (C ∷ T ∷ L ∷ I ∷ []) (G ∷ []) four tag.ensures.1 (omega arith)) (omega (arith, c.requires.0)))
