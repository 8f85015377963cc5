-- Document 01's cases 2 to 5: what four texts encode.
-- Assumes nothing.
use mathlib.Core.Path.{◌≡◌, refl}
use mathlib.Core.List.{[], ◌∷◌}
use Rattle.cells.specs.Numbers.{bytes_of, number}
use Rattle.base_64.specs.Alphabet.{counted, alphabet, place_in, six_bits}
use Rattle.base_64.specs.Decoding.{bytes, coded, full, one, two, ending, decoded}
use Rattle.armor.specs.Numerals.{shortest, number_bytes, mask_bytes, mask_of}

-- Kb+4 is 2736056
pub case_2 : (decoded (75 ∷ 98 ∷ 43 ∷ 52 ∷ []) ≡ bytes (number_bytes 2736056)) × (number (number_bytes 2736056) ≡ 2736056)
unfolding decoded full coded six_bits place_in alphabet counted number_bytes shortest bytes_of number
case_2 = (refl, refl)

-- AQQ= is the mask 4
pub case_3 : (decoded (65 ∷ 81 ∷ 81 ∷ 61 ∷ []) ≡ bytes (mask_bytes 4)) × (mask_of (mask_bytes 4) ≡ 4)
unfolding decoded full ending two coded six_bits place_in alphabet counted mask_bytes number_bytes shortest bytes_of mask_of number
case_3 = (refl, refl)

-- WcBGQw== is 1505773123
pub case_4 : (decoded (87 ∷ 99 ∷ 66 ∷ 71 ∷ 81 ∷ 119 ∷ 61 ∷ 61 ∷ []) ≡ bytes (number_bytes 1505773123)) × (number (number_bytes 1505773123) ≡ 1505773123)
unfolding decoded full ending one coded six_bits place_in alphabet counted number_bytes shortest bytes_of number
case_4 = (refl, refl)

-- Aw1z7w== is the mask with bytes 0D 73 EF
pub case_5 : (decoded (65 ∷ 119 ∷ 49 ∷ 122 ∷ 55 ∷ 119 ∷ 61 ∷ 61 ∷ []) ≡ bytes (3 ∷ 0x0d ∷ 0x73 ∷ 0xef ∷ [])) × (mask_bytes (mask_of (3 ∷ 0x0d ∷ 0x73 ∷ 0xef ∷ [])) ≡ 3 ∷ 0x0d ∷ 0x73 ∷ 0xef ∷ [])
unfolding decoded full ending one coded six_bits place_in alphabet counted mask_of number mask_bytes number_bytes shortest bytes_of
case_5 = (refl, refl)
