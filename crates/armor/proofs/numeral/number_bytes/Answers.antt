-- `number_bytes` meets its contract.
-- Assumes nothing.
use Rattle.std.proofs.Common.{◌≡◌, refl, sym, ◌∙◌, ap}
use native.Mathlib.Nat.{div-one}
use Rattle.cells.specs.Numbers.{bytes_of}
use Rattle.armor.specs.Numerals.{shortest}
use Rattle.armor.proofs.Numerals.{fitting}
use Rattle.armor.proofs.numeral.number_bytes.Goals as goal

pub returns : goal.returns
unfolding bytes_of
returns c =
    let bytes : c.to_be_bytes.result ≡ bytes_of 4 c.args.n = simp div-one c.to_be_bytes.ensures in
    c.of.ensures ∙ c.shortest.ensures.is ∙ ap shortest bytes ∙ sym (fitting 4 3 c.args.n refl c.ranges.n.fits)
