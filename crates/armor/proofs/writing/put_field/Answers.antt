-- `put_field` meets its contract: the key, the colon and the base64 are laid side by side.
-- Assumes nothing.
use Rattle.std.proofs.Common.{refl, length, arith}
use Rattle.base_64.specs.Encoding.{encoded}
use Rattle.base_64.proofs.Encoded.{length_encoded}
use Rattle.cells.proofs.Laid.{lent_rest}
use Rattle.armor.proofs.Laying.{laid_field}
use Rattle.armor.proofs.writing.put_field.Goals as goal

pub overflow_add-result : goal.overflow_add-result
overflow_add-result c = record { fits = omega (arith, c.requires, c.encode-len.ensures.0, length_encoded c.args.content.now) }

pub returns : goal.returns
returns c =
    let a = c.args in
    let one = c.put_at-colon in
    let two = c.put_at-text in
    let e = c.encode-len in
    let size = length_encoded a.content.now in (
      omega (arith, e.ensures.0, size, one.ensures.ends, two.ensures.ends),
      laid_field a.name.now a.content.now one.ensures two.ensures
          (lent_rest two.new.out (encoded a.content.now) two.result (length two.new.out) refl e.ensures.1)
          e.ensures.0
          (omega (arith, c.requires, e.ensures.0, size, one.ensures.ends, two.ensures.ends)),
    )
