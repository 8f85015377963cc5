-- `mask_bytes` meets its contract.
-- Assumes nothing.
use Rattle.std.proofs.Common.{◌≡◌, refl, ◌∙◌, ap}
use native.Mathlib.Nat.{div-one}
use Rattle.cells.specs.Numbers.{bytes_of}
use Rattle.armor.specs.Numerals.{shortest, number_bytes}
use Rattle.armor.proofs.Numerals.{mask_front}
use Rattle.armor.proofs.numeral.mask_bytes.Goals as goal

pub returns : goal.returns
unfolding bytes_of number_bytes
returns c =
    let bytes : c.to_be_bytes-eight.result ≡ bytes_of 8 c.args.m = simp div-one c.to_be_bytes-eight.ensures in
    let number : c.shortest-number.result.now ≡ number_bytes c.args.m = c.shortest-number.ensures.is ∙ ap shortest bytes in
    c.of.ensures ∙ mask_front c.args.m _ number refl c.put_at.ensures.is
