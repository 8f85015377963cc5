-- The standard's example for HMAC, RFC 9421, B.2.5, computed from the definitions: what the theorems ask for holds of it.
-- Assumes nothing.
use mathlib.Core.Path.{◌≡◌, refl}
use mathlib.Core.List.{List, [], ◌∷◌, ◌++◌}
use Prim.Native.Nat.{ℕ}
use Rattle.cells.specs.Text.{codes}
use Rattle.cells.specs.Runs.{same}
use Rattle.cells.specs.Spans.{all, leading}
use Rattle.cells.specs.Numbers.{number, bytes_of}
use Rattle.cells.specs.Decimal.{decimal, decimal_to}
use Rattle.names.specs.Names.{has_byte, token_byte, is_token, lower, same_name, has_name}
use Rattle.names.specs.Extra.{names_in, extra_names}
use Rattle.lines.specs.Lines.{value_byte, good_line, line_text, text_of, front_line, starts_line, lines_up_to, lines_in, good_block}
use Rattle.lines.specs.Values.{trim_front, trim_end, trimmed, values_in, following, joined}
use Rattle.sha_2.specs.Word.{Ch, Maj, Σ0, Σ1, σ0, σ1}
use Rattle.sha_2.specs.Constants.{K, initial}
use Rattle.sha_2.specs.Block.{mix, schedule, T1, T2, round_of, rounds, sum_of, after_block}
use Rattle.sha_2.specs.Hash.{padding, after_blocks, digest, sha2}
use Rattle.hmac.specs.Hmac.{key_block, xored, hmac}
use Rattle.base_64.specs.Alphabet.{counted, alphabet, character}
use Rattle.base_64.specs.Encoding.{encoded}
use Rattle.structured.specs.Texts.{is_key, escaped, string, further, strings, inner_list}
use Rattle.structured.specs.Lists.{every}
use Rattle.signatures.specs.Components.{good_message, is_derived, is_field, is_component, values_of, value_of, missing, twice, all_components, all_printable}
use Rattle.signatures.specs.Base.{params, component_line, component_lines, last_line, base_with, base, code_of}
use Rattle.signatures.specs.Fields.{signature_text, signature_value}
use Rattle.carrier.specs.Asked.{Asked, asked_of, well_formed, well_named, asked_number}
use Rattle.carrier.specs.Sign.{signature_of}

abbrev ended : List ℕ → List ℕ
ended text = text ++ (13 ∷ 10 ∷ [])

-- what of its request is looked at
abbrev lines : List ℕ
lines = ended (codes "Host: example.com") ++ (ended (codes "Date: Tue, 20 Apr 2021 02:07:55 GMT") ++ ended (codes "Content-Type: application/json"))

abbrev key : List ℕ
key = bytes_of 64 0xbb3bc97c1e2edcdd09cb84fb359ef930355cafccd24c89de749b6481cbb8e985b85c1cb33498f105db635247493c1b5b9878480e2ea9725f23b1ab2395332d0d

unfoldable pub standard : Asked
standard =
    asked_of (codes "POST") (codes "example.com") (codes "/foo") lines (codes "date,@authority,content-type") (codes "sig-b25") (codes "test-shared-secret") key

-- nothing of it is refused
pub granted : asked_number standard ≡ 0
unfolding standard bytes_of codes asked_number well_formed well_named good_message is_token all token_byte has_byte good_block text_of lines_in lines_up_to starts_line front_line line_text good_line value_byte leading same names_in extra_names all_components every is_component is_derived is_field all_printable value_of values_of values_in joined following same_name lower trimmed trim_front trim_end is_key twice has_name missing
granted = refl

abbrev line : List ℕ → List ℕ
line text = text ++ (10 ∷ [])

abbrev quoted : List ℕ → List ℕ
quoted text = 34 ∷ (text ++ (34 ∷ []))

-- the base, and the value of Signature
unfoldable pub text : List ℕ
text =
    line (quoted (codes "date") ++ codes ": Tue, 20 Apr 2021 02:07:55 GMT")
    ++ (line (quoted (codes "@authority") ++ codes ": example.com")
    ++ (line (quoted (codes "content-type") ++ codes ": application/json")
    ++ (quoted (codes "@signature-params") ++ (codes ": (" ++ (quoted (codes "date") ++ (32 ∷ (quoted (codes "@authority") ++ (32 ∷ (quoted (codes "content-type")
    ++ (codes ");created=1618884473;keyid=" ++ quoted (codes "test-shared-secret")))))))))))

pub based : base standard.message standard.names 1618884473 standard.key_id ≡ text
unfolding standard codes text base base_with component_lines component_line last_line params inner_list strings further string escaped decimal decimal_to names_in extra_names value_of values_of same lines_in lines_up_to starts_line front_line line_text good_line value_byte is_token all token_byte has_byte leading values_in joined following same_name lower trimmed trim_front trim_end
based = refl

coded : encoded (code_of key text) ≡ codes "pxcQw6G3AjtMBQjwo8XzkZf/bws5LelbaMk5rGIGtE8="
unfolding text codes code_of Ch Maj Σ0 Σ1 σ0 σ1 K initial mix schedule T1 T2 round_of rounds sum_of after_block padding after_blocks digest sha2 number bytes_of key_block xored hmac encoded character alphabet counted
coded = refl

pub signed : signature_of standard 1618884473 ≡ codes "sig-b25=:pxcQw6G3AjtMBQjwo8XzkZf/bws5LelbaMk5rGIGtE8=:"
unfolding signature_of signature_value signature_text standard codes
signed = rw (based, coded) refl
