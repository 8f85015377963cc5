-- Document 01, case 12, with document 02's K3, a GET: ah 3, no extras, n 5, t 1000, lt 990, Host `a`, path `/`, no body.
-- Assumes nothing.
use mathlib.Core.Path.{◌≡◌, refl, ap, ◌∙◌}
use mathlib.Core.List.{List, [], ◌∷◌, ◌++◌, map}
use Prim.Native.Nat.{ℕ}
use Rattle.cells.specs.Numbers.{bytes_of}
use Rattle.cells.specs.Decimal.{decimal_to, decimal}
use Rattle.netstring.specs.Netstring.{netstring, netstrings}
use Rattle.hashes.specs.declared.Hash.TheVariants.{Sha512}
use Rattle.armor.specs.Numerals.{shortest, number_bytes, mask_bytes}
use Rattle.cells.specs.Text.{codes}
use Rattle.cells.specs.Spans.{all, leading}
use Rattle.names.specs.Names.{has_byte, token_byte, is_token, lower, same_name, header_names}
use Rattle.names.specs.Extra.{extra_names}
use Rattle.names.specs.Covered.{covered_names}
use Rattle.names.proofs.Walk.{chosen_set, chosen_none}
use Rattle.lines.specs.Lines.{Line, value_byte, good_line, line_text, lines_in}
use Rattle.lines.specs.Values.{trim_front, trim_end, trimmed, values_in, following, joined, covered_value}
use Rattle.lines.proofs.Lines.{lines_more, lines_none}
use Rattle.signed.specs.SignedText.{Signed, signed_parts, signed_text, nonce_of, covered_values, signed_of, request_text}

-- the head's one line, `Host:a`
abbrev host : List ℕ
host = codes "Host:a" ++ (13 ∷ 10 ∷ [])

-- the signed text, control bytes in hex
abbrev text : List ℕ
text =
    codes "3:GET,2:" ++ (0x01 ∷ 0x04 ∷ codes ",2:" ++ (0x01 ∷ 0x03 ∷ codes ",0:,1:" ++ (0x05 ∷ codes ",2:" ++ (0x03 ∷ 0xE8 ∷ codes ",2:" ++ (0x03 ∷ 0xDE ∷ codes ",1:a,1:/,0:,")))))

abbrev host_line : Line
host_line = record { name = codes "Host"; value = codes "a" }

host_lines : lines_in host ≡ host_line ∷ []
unfolding line_text codes good_line is_token all token_byte has_byte value_byte
host_lines = lines_more host_line [] refl ∙ ap (λ (ls : List Line). host_line ∷ ls) lines_none

host_covered : covered_names 3 [] ≡ codes "Host" ∷ []
unfolding covered_names header_names extra_names
host_covered =
    ap (λ (ns : List (List ℕ)). ns ++ []) (chosen_set 1 (codes "Host") _ refl ∙ ap (λ (ns : List (List ℕ)). codes "Host" ∷ ns) (chosen_none _))

host_value : covered_values 3 [] [] host ≡ codes "a" ∷ []
unfolding covered_values covered_value values_in joined following same_name lower trimmed trim_front trim_end leading codes
host_value =
    ap (map (covered_value (lines_in []) (lines_in host))) host_covered
    ∙ ap (λ (ls : List Line). covered_value ls (lines_in host) (codes "Host") ∷ []) lines_none
    ∙ ap (λ (ls : List Line). covered_value [] ls (codes "Host") ∷ []) host_lines

abbrev signing : List (List ℕ) → Signed
signing values =
    record { method = codes "GET"; h = mask_bytes 4; ah = mask_bytes 3; eah = []; n = nonce_of 3 5; t = number_bytes 1000; lt = number_bytes 990; values = values; path = codes "/"; body = [] }

computed : signed_text (signing (codes "a" ∷ [])) ≡ text
unfolding signed_text signed_parts nonce_of netstrings netstring decimal decimal_to number_bytes mask_bytes shortest bytes_of codes
computed = refl

pub case_12 : request_text (codes "GET") Sha512 3 [] 5 1000 990 [] host (codes "/") [] ≡ text
unfolding request_text signed_of
case_12 = ap (λ (values : List (List ℕ)). signed_text (signing values)) host_value ∙ computed
