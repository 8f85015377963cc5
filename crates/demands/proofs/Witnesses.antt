-- Each number of documents 01 and 02 is given by some call, so no check is idle: here every number of a setup and of an ending, and 0 to 9, 8
-- against the record, 14 and 21 of a request. 0, the second 8, 14 and 21 are given to a client's request, by the theorems of Client, Chosen and
-- Age; the others after 9 need a token that opens, too, and the stored calls of tests/host give them.
-- Assumes nothing.
use mathlib.Core.Path.{◌≡◌, refl, sym, ap, ◌∙◌}
use mathlib.Core.Bool.{Bool, true, false, and-false}
use mathlib.Core.List.{List, [], ◌∷◌, ◌++◌}
use mathlib.Core.Option.{none}
use Prim.Native.Nat.{ℕ, ◌+◌, ◌≤◌, ◌<◌, ◌^◌}
use native.Mathlib.Omega.{arith}
use lib.ListN.{length, replicate, length-append}
use Rattle.hashes.specs.declared.Hash.TheVariants.{Sha256, Sha512}
use Rattle.hashes.specs.Hashes as Hashes
use Rattle.hashes.specs.Hashes.{hash_mask, named, allowed_one, in_common}
use Rattle.cells.specs.Runs.{same}
use Rattle.cells.specs.Numbers.{bytes_of, number}
use Rattle.gcm.specs.Gcm.{tag_of, crypted, given, opened}
use Rattle.gcm.proofs.Opening.{length_crypted}
use Rattle.base_64.specs.Alphabet.{counted, alphabet, place_in, six_bits}
use Rattle.base_64.specs.Decoding.{coded, full, two, one, ending, decoded}
use Rattle.cells.specs.Decimal.{decimal}
use Rattle.netstring.specs.Netstring.{netstring, netstrings}
use Rattle.armor.specs.Numerals.{shortest, plain, number_bytes, is_numeral, is_number, mask_bytes, is_mask, mask_of}
use Rattle.armor.specs.Keys.{obeys, keys, rank_of, key_number, rule_at, rule_of}
use Rattle.armor.specs.Pieces
use Rattle.armor.specs.Value
use Rattle.armor.specs.Fields.{contents, times, the, right_times, nonce_bit, request_fields, setup_fields}
use Rattle.cells.specs.Text.{codes}
use Rattle.cells.specs.Spans.{all, leading}
use Rattle.cells.proofs.Equality.{same_self}
use Rattle.cells.proofs.Numbers.{bytes_bytes_of}
use Rattle.cells.proofs.Tests.{both}
use Rattle.names.specs.Names.{has_byte, token_byte, is_token, lower, same_name, has_name, header_names}
use Rattle.names.specs.Lists.{list_names, is_list}
use Rattle.names.specs.Extra.{extra_names, good_names, good_extra}
use Rattle.names.specs.Covered.{chosen, covered_names}
use Rattle.orders.specs.Orders.{orders_good, limits_of, Orders, orders_of}
use Rattle.lines.specs.Lines.{CR, LF, value_byte, good_line, line_text, text_of, front_line, starts_line, lines_up_to, lines_in, good_block}
use Rattle.lines.specs.Values.{trim_front, trim_end, trimmed, values_in, repeated}
use Rattle.lines.proofs.Lines.{lines_none, good_none}
use Rattle.table.specs.Record.{size, record_bytes, record_of, begun}
use Rattle.table.specs.Table.{records, found, taken}
use Rattle.table.specs.Session.{place_of}
use Rattle.table.specs.WellFormed.{sound, fitting, well_formed}
use Rattle.coverage.specs.Coverage.{as_ordered}
use Rattle.token.specs.Token.{token_text, token_in, token_from, opened_token}
use Rattle.token.proofs.Text.{length_three}
use Rattle.token.proofs.Exactly.{no_token}
use Rattle.gate.specs.Calls.{Setup, setup_of}
use Rattle.stages.specs.Request.{Request, request_of}
use Rattle.stages.specs.Checks.{first}
use Rattle.gate.specs.State.{State, holding, indexed}
use Rattle.gate.specs.Sizes.{table_fits, state_fits, setup_fits, brought_fits, lent_fits, request_fits, end_fits}
use Rattle.gate.specs.Entry.{state_checks, entry_checks}
use Rattle.gate.specs.Setup as S
use Rattle.gate.specs.Setup.{offered, chosen_of, expiry_of, offer_part, lasting_part, room_part, setup_checks, set_up}
use Rattle.stages.specs.Parts.{fields_of, iv_of, time_of, opened_of, token_of, twice, reading_part, covering_part, token_part, signature_part, session_part, nonce_part}
use Rattle.gate.specs.Judge.{entry_part, request_checks, answered, judged}
use Rattle.gate.specs.End.{end_checks, ended}
use Rattle.gate.specs.Remake.{remake_checks, remade}
use Rattle.index.specs.Index as Index
use Rattle.gate.proofs.Numbers.{entry_passed}
use Rattle.demands.specs.History.{empty}
use Rattle.demands.specs.Client.{Message, client_code, client_fields, client_request, LentBytes, Fair}
use Rattle.demands.specs.Passing.{PassesOthers}
use Rattle.demands.proofs.Client.{client_accepted, client_passes, client_carries, Bears, client_bears}
use Rattle.demands.specs.Combined.{Combined, with_lines}
use Rattle.demands.proofs.Agreement.Joining.{head_text, two_lines as joining}
use Rattle.demands.proofs.Chosen.{talked_down}
use Rattle.demands.proofs.Shared.Others.{parts}
use Rattle.demands.proofs.Age.{by_default, as_named}

-- both hashes, limits by default, and no extra names
abbrev pub ordering : ℕ → Orders
ordering mask = orders_of mask 5 [] 0 0 0

abbrev pub zeros : ℕ → List ℕ
zeros n = replicate n 0

-- a setup with an IV of zeros
abbrev pub under : Orders → ℕ → List ℕ → Setup
under orders clock value = setup_of orders clock (zeros 32) (zeros 32) (zeros 12) (zeros 1) value (zeros 1024)

abbrev pub asking : ℕ → ℕ → List ℕ → Setup
asking mask = under (ordering mask)

-- a client's mask: SHA-512, SHA-256 alone, and both
abbrev pub offer : List ℕ
offer = codes "r:AQQ="

abbrev pub scanner : List ℕ
scanner = codes "r:AQE="

abbrev pub either : List ℕ
either = codes "r:AQU="

-- a setup at 0 with this value whose orders say this request life
abbrev pub living : List ℕ → ℕ → Setup
living value life = under (orders_of 2 5 [] life 0 0) 0 value

-- a table of one session, which has this IV and lasts until 1
abbrev pub session : List ℕ → State
session iv = indexed (record_bytes (begun iv 1 4))

-- a table with a mark that is neither 0 nor 1
abbrev pub marked : State
marked = holding (replicate size 2) (replicate 2 255)

-- a session beside an index that does not name it
abbrev pub unnamed : State
unnamed = holding (record_bytes (begun (zeros 12) 1 4)) (replicate 2 255)

-- a request with a method, a value and a head, and a GET
abbrev pub sending_by : List ℕ → ℕ → List ℕ → List ℕ → Request
sending_by method mask value head = request_of (ordering mask) 0 (zeros 32) value method head [] (codes "/") [] (zeros 1024)

abbrev pub sending : ℕ → List ℕ → List ℕ → Request
sending = sending_by (codes "GET")

-- a value with the right set of fields, whose ah covers Host
abbrev pub fields : List ℕ
fields =
    codes "s:AA==;c:" ++ (replicate 86 65 ++ codes "==;t:AA==;lt:AA==;h:AQQ=;ah:AQI=;iv:AAAAAAAAAAAAAAAA;tag:AAAAAAAAAAAAAAAAAAAAAA==")

-- a line of the head
abbrev pub host : List ℕ
host = codes "Host:a" ++ (CR ∷ LF ∷ [])

-- one of a list field
abbrev pub accepting : List ℕ
accepting = codes "Accept:a" ++ (CR ∷ LF ∷ [])

pub record SetupWitnesses : Type 0 where
  pub zero : (life : ℕ) → (set_up (living offer life) (empty 1)).number ≡ 0
  pub short : (life : ℕ) → (set_up (living scanner life) (empty 1)).number ≡ 0
  pub long : (life : ℕ) → (set_up (living either life) (empty 1)).number ≡ 0
  pub lists : (set_up (asking 8 0 offer) (empty 1)).number ≡ 0
  pub one : (set_up (asking 2 0 offer) (holding [] [])).number ≡ 1
  pub two : (set_up (asking (2 ^ 56) 0 offer) (empty 1)).number ≡ 2
  pub three : (set_up (asking 2 0 offer) marked).number ≡ 3
  pub twenty_two : (set_up (asking 2 0 offer) unnamed).number ≡ 22
  pub four : (set_up (asking 2 0 []) (empty 1)).number ≡ 4
  pub five : (set_up (asking 2 0 (codes "x:AQQ=")) (empty 1)).number ≡ 5
  pub seventeen : (set_up (asking 2 0 offer) (session (zeros 12))).number ≡ 17
  pub eighteen : (set_up (asking 2 0 offer) (session (replicate 12 1))).number ≡ 18
  pub nineteen : (set_up (asking 2 0 (codes "r:AQI=")) (empty 1)).number ≡ 19
  pub twenty : (set_up (asking 2 4294967295 offer) (empty 1)).number ≡ 20

pub setup_witnesses : SetupWitnesses
unfolding set_up setup_checks S.entry_part offer_part lasting_part room_part entry_checks state_checks setup_fits state_fits table_fits Index.index_of Index.ranked_to Index.among Index.precedes Index.coded orders_good good_extra extra_names good_names well_formed fitting sound same records record_of record_bytes bytes_of number codes Value.grammar Value.fields_in Value.field_of Value.piece_good Value.text_obeys Value.carried Pieces.pieces Pieces.up_to Pieces.after decoded full two one ending coded six_bits place_in alphabet counted obeys rule_of rule_at key_number rank_of keys is_mask is_numeral plain setup_fields times contents offered in_common the mask_of expiry_of limits_of found taken
setup_witnesses = record {
  zero = λ life. refl;
  short = λ life. refl;
  long = λ life. refl;
  lists = refl;
  one = refl;
  two = refl;
  three = refl;
  twenty_two = refl;
  four = refl;
  five = refl;
  seventeen = refl;
  eighteen = refl;
  nineteen = refl;
  twenty = refl;
}

pub record EndWitnesses : Type 0 where
  pub zero : (ended (zeros 12) (session (zeros 12))).number ≡ 0
  pub one : (ended (zeros 12) (holding [] [])).number ≡ 1
  pub three : (ended (zeros 12) marked).number ≡ 3
  pub twenty_two : (ended (zeros 12) unnamed).number ≡ 22
  pub twelve : (ended (zeros 12) (empty 1)).number ≡ 12

pub end_witnesses : EndWitnesses
unfolding ended end_checks state_checks end_fits state_fits table_fits Index.index_of Index.ranked_to Index.among Index.precedes Index.coded well_formed fitting sound same records record_of record_bytes bytes_of number found
end_witnesses = record { zero = refl; one = refl; three = refl; twenty_two = refl; twelve = refl }

pub record RemakeWitnesses : Type 0 where
  pub zero : remade unnamed ≡ record { number = 0; length = 0; reply = []; state = session (zeros 12) }
  pub one : (remade (holding [] [])).number ≡ 1
  pub three : (remade marked).number ≡ 3

pub remake_witnesses : RemakeWitnesses
unfolding remade remake_checks state_fits table_fits well_formed fitting sound same records record_of record_bytes bytes_of number
remake_witnesses = record { zero = refl; one = refl; three = refl }

-- one byte is no token, whatever it opens to
short_text : (text : List ℕ) → length text ≡ 1 → token_in text ≡ none
unfolding token_text netstrings netstring
short_text text e =
    no_token text
    (λ t f p.
    let long = ap length p ∙ length_three t.key t.id (decimal t.expiry) in
    absurd (omega (arith, simp length-append at long)))

unopened : (key iv tag : List ℕ) (b : ℕ) → opened_token key iv (b ∷ []) tag ≡ none
unfolding opened_token opened
unopened key iv tag b = by (same tag (tag_of key iv [] (b ∷ [])))
  where
    by : (t : Bool) → token_from (given t (crypted key iv (b ∷ []))) ≡ none
    by true = short_text (crypted key iv (b ∷ [])) (length_crypted key iv (b ∷ []))
    by false = refl

pub record RequestWitnesses : Type 0 where
  pub one : (judged (sending 2 fields []) (holding [] [])).number ≡ 1
  pub no_method : (judged (sending_by [] 2 fields []) (empty 1)).number ≡ 1
  pub long_method : (judged (sending_by (replicate 17 65) 2 fields []) (empty 1)).number ≡ 1
  pub two : (judged (sending (2 ^ 56) fields []) (empty 1)).number ≡ 2
  pub three : (judged (sending 2 fields []) marked).number ≡ 3
  pub twenty_two : (judged (sending 2 fields []) unnamed).number ≡ 22
  pub four : (judged (sending 2 [] []) (empty 1)).number ≡ 4
  pub five : (judged (sending 2 offer []) (empty 1)).number ≡ 5
  pub six : (judged (sending 2 fields (codes "Host")) (empty 1)).number ≡ 6
  pub method_no_token : (judged (sending_by (codes "GE T") 2 fields []) (empty 1)).number ≡ 6
  pub seven : (judged (sending 2 fields (host ++ host)) (empty 1)).number ≡ 7
  pub list_twice : (judged (sending 8 fields (accepting ++ accepting)) (empty 1)).number ≡ 8
  pub eight : (judged (sending 0 fields []) (empty 1)).number ≡ 8
  pub nine : (judged (sending 2 fields []) (empty 1)).number ≡ 9

pub request_witnesses : RequestWitnesses
unfolding judged answered request_checks entry_part reading_part covering_part token_part signature_part session_part nonce_part entry_checks state_checks request_fits lent_fits brought_fits state_fits table_fits Index.index_of Index.ranked_to Index.among Index.precedes Index.coded orders_good good_extra extra_names good_names well_formed fitting sound same records record_of record_bytes number codes Value.grammar Value.fields_in Value.field_of Value.piece_good Value.text_obeys Value.carried Pieces.pieces Pieces.up_to Pieces.after decoded full two one ending coded six_bits place_in alphabet counted obeys rule_of rule_at key_number rank_of keys is_mask is_numeral is_number plain request_fields right_times times contents nonce_bit the mask_of fields_of good_block lines_in lines_up_to starts_line front_line line_text text_of good_line value_byte is_token token_byte has_byte all leading twice repeated values_in is_list list_names has_name same_name lower covered_names chosen header_names as_ordered allowed_one named mask_bytes number_bytes shortest bytes_of opened_of iv_of
request_witnesses = record {
  one = refl;
  no_method = refl;
  long_method = refl;
  two = refl;
  three = refl;
  twenty_two = refl;
  four = refl;
  five = refl;
  six = refl;
  method_no_token = refl;
  seven = refl;
  list_twice = refl;
  eight = refl;
  nine = rw (unopened (zeros 32) (zeros 12) (zeros 16) 0);
}

-- a method, a head and a path, made at 100, and a nonce; and nothing in the head
abbrev pub saying_with : List ℕ → ℕ → Message
saying_with head n = record { method = codes "GET"; head = head; aside = []; path = codes "/"; body = []; time = 100; last_time = 0; nonce = n }

abbrev pub saying : ℕ → Message
saying = saying_with []

-- over no lines no name is repeated
unrepeated : (names : List (List ℕ)) → repeated names [] ≡ false
unfolding repeated values_in
unrepeated [] = refl
unrepeated (n ∷ ns) = rw and-false (unrepeated ns)

-- in time it is fair, where no name is repeated; with nothing in the head under any orders
fairly_with : (s : Setup) (head : List ℕ) (n clock : ℕ) → length head ≤ 16384 → good_block head ≡ true
    → repeated (covered_names s.orders.numbers.mask s.orders.extra) (lines_in head) ≡ false → n < 2 ^ 32
    → clock < expiry_of s → 100 ≤ (limits_of s.orders).idle → clock ≤ 100 + (limits_of s.orders).request_life → 100 ≤ clock + 30
    → Fair s (saying_with head n) clock (zeros 1024)
unfolding codes is_token all token_byte has_byte
fairly_with s head n clock short good once small lasts active timely near = record {
  method_fits = omega arith;
  head_fits = short;
  aside_fits = omega arith;
  path_some = omega arith;
  path_fits = omega arith;
  body_fits = omega arith;
  reply_room = omega arith;
  method_good = refl;
  lines = rw (good, good_none) refl;
  once = rw (once, lines_none, unrepeated (covered_names s.orders.numbers.mask s.orders.extra)) refl;
  time_fits = omega arith;
  last_time_fits = omega arith;
  nonce_fits = small;
  lasts = lasts;
  active = omega arith;
  timely = timely;
  near = near;
}

pub fairly : (s : Setup) (n clock : ℕ) → n < 2 ^ 32
    → clock < expiry_of s → 100 ≤ (limits_of s.orders).idle → clock ≤ 100 + (limits_of s.orders).request_life → 100 ≤ clock + 30
    → Fair s (saying n) clock (zeros 1024)
fairly s n clock = fairly_with s [] n clock (omega arith) good_none (rw lines_none (unrepeated (covered_names s.orders.numbers.mask s.orders.extra)))

lent_zeros : (mask : ℕ) (value : List ℕ) (life : ℕ) → LentBytes (under (orders_of mask 5 [] life 0 0) 0 value)
unfolding bytes_of
lent_zeros mask value life = record {
  server_key = bytes_bytes_of 32 0;
  session_key = bytes_bytes_of 32 0;
  iv = bytes_bytes_of 12 0;
  session_id = bytes_bytes_of 1 0;
  extra = bytes_bytes_of 0 0;
}

fair : (value : List ℕ) (life clock : ℕ) → clock < 1209600 → clock ≤ 100 + (limits_of (living value life).orders).request_life → 100 ≤ clock + 30
    → Fair (living value life) (saying 0) clock (zeros 1024)
unfolding expiry_of limits_of
fair value life clock lasts timely near = fairly (living value life) 0 clock (omega arith) lasts (omega arith) timely near

-- a client's request, made at 100, that comes at a time, and the table that its setup left
abbrev pub sent : List ℕ → ℕ → ℕ → Request
sent value life clock = client_request (living value life) (saying 0) clock (zeros 1024)

abbrev pub left : List ℕ → ℕ → State
left value life = (set_up (living value life) (empty 1)).state

-- a request of this age at a request life that the orders leave at 0, and at one of 300 that they name, and one so far ahead
pub record AgeWitnesses : Type 0 where
  pub sixty : (judged (sent offer 0 160) (left offer 0)).number ≡ 0
  pub sixty_one : (judged (sent offer 0 161) (left offer 0)).number ≡ 14
  pub three_hundred : (judged (sent offer 300 400) (left offer 300)).number ≡ 0
  pub three_hundred_one : (judged (sent offer 300 401) (left offer 300)).number ≡ 14
  pub thirty_ahead : (judged (sent offer 0 70) (left offer 0)).number ≡ 0
  pub thirty_one_ahead : (judged (sent offer 0 69) (left offer 0)).number ≡ 21

module _ (value : List ℕ) (life : ℕ) (done : (set_up (living value life) (empty 1)).number ≡ 0) where
  accepted : (clock : ℕ) → clock < 1209600 → clock ≤ 100 + (limits_of (living value life).orders).request_life → 100 ≤ clock + 30
      → (judged (sent value life clock) (left value life)).number ≡ 0
  accepted clock lasts timely near =
      client_accepted (living value life) (empty 1) (saying 0) clock (zeros 1024) (lent_zeros 2 value life) done (fair value life clock lasts timely near)

  at_once : Fair (living value life) (saying 0) 100 (zeros 1024)
  at_once = fair value life 100 (omega arith) (omega arith) (omega arith)

  passes : PassesOthers (sent value life 100) (left value life)
  passes = (client_passes (living value life) (empty 1) (saying 0) 100 (zeros 1024) (lent_zeros 2 value life) done at_once).0

  carries : (time_of (sent value life 100) ≡ 100) × ((token_of (sent value life 100)).expiry ≡ 1209600)
  unfolding expiry_of limits_of
  carries = client_carries (living value life) (empty 1) (saying 0) 100 (zeros 1024) (lent_zeros 2 value life) done at_once

  bears : Bears (living value life) (sent value life 100) (left value life)
  bears = client_bears (living value life) (empty 1) (saying 0) 100 (zeros 1024) (lent_zeros 2 value life) done at_once

pub age_witnesses : AgeWitnesses
unfolding limits_of client_request
age_witnesses =
    let zero = setup_witnesses.zero in
    let usual = by_default (sent offer 0 100) (left offer 0) (passes offer 0 (zero 0)) refl in
    let named = as_named (sent offer 300 100) (left offer 300) (passes offer 300 (zero 300)) refl in
    let at = carries offer 0 (zero 0) in
    let at_named = carries offer 300 (zero 300) in
    record {
      sixty = accepted offer 0 (zero 0) 160 (omega arith) (omega arith) (omega arith);
      sixty_one = usual.refused 161 (omega (arith, at.1)) (omega (arith, at.0));
      three_hundred = accepted offer 300 (zero 300) 400 (omega arith) (omega arith) (omega arith);
      three_hundred_one = named.refused 401 (omega (arith, at_named.1)) (omega (arith, at_named.0));
      thirty_ahead = accepted offer 0 (zero 0) 70 (omega arith) (omega arith) (omega arith);
      thirty_one_ahead = usual.too_far_ahead 69 (omega (arith, at.1)) (omega (arith, at.0));
    }

-- a session of each hash with a request that is taken, and the request of the shorter one in a session of the longer: the same IV, key,
-- token and table otherwise
pub record HashWitnesses : Type 0 where
  pub chosen_short : chosen_of (living scanner 0) ≡ Sha256
  pub taken_short : (judged (sent scanner 0 100) (left scanner 0)).number ≡ 0
  pub chosen_long : chosen_of (living either 0) ≡ Sha512
  pub taken_long : (judged (sent either 0 100) (left either 0)).number ≡ 0
  pub down : (judged (sent scanner 0 100) (left either 0)).number ≡ 8

picks : (chosen_of (living scanner 0) ≡ Sha256) × (chosen_of (living either 0) ≡ Sha512)
unfolding chosen_of Hashes.chosen offered the contents key_number rank_of keys same mask_of number codes Value.grammar Value.fields_in Value.field_of Value.piece_good Value.text_obeys Value.carried Pieces.pieces Pieces.up_to Pieces.after decoded full two one ending coded six_bits place_in alphabet counted obeys rule_of rule_at is_mask is_numeral plain
picks = (refl, refl)

-- the request is lent as in its own session, and the table is the other's
exchanged : first (entry_part (sent scanner 0 100) (left either 0)) ≡ 0
unfolding entry_part entry_checks state_checks request_fits
exchanged =
    let own = entry_passed _ _ _ (parts (sent scanner 0 100) (left scanner 0) (passes scanner 0 (setup_witnesses.short 0))).entry in
    let other = entry_passed _ _ _ (parts (sent either 0 100) (left either 0) (passes either 0 (setup_witnesses.long 0))).entry in
    let lent : lent_fits (sent scanner 0 100) ≡ true = (both (lent_fits (sent scanner 0 100)) (state_fits (left scanner 0)) own.sizes).0 in
    let room : state_fits (left either 0) ≡ true = (both (lent_fits (sent either 0 100)) (state_fits (left either 0)) other.sizes).1 in
    let fits = ap (same (left either 0).index) (sym other.index) ∙ same_self (left either 0).index in
    rw (lent, room, own.orders, other.formed, fits) refl

pub hash_witnesses : HashWitnesses
unfolding limits_of
hash_witnesses =
    let short = setup_witnesses.short 0 in
    let long = setup_witnesses.long 0 in
    let read = parts (sent scanner 0 100) (left scanner 0) (passes scanner 0 short) in
    let low = bears scanner 0 short in
    let high = bears either 0 long in
    record {
      chosen_short = picks.0;
      taken_short = accepted scanner 0 short 100 (omega arith) (omega arith) (omega arith);
      chosen_long = picks.1;
      taken_long = accepted either 0 long 100 (omega arith) (omega arith) (omega arith);
      down =
          talked_down (sent scanner 0 100) (left either 0) high.place exchanged read.reading read.vouching
          (ap (place_of (left either 0).table) low.iv ∙ high.at)
          (λ e.
          let masks : hash_mask Sha512 ≡ hash_mask Sha256 =
          sym (high.keeps ∙ ap hash_mask picks.1) ∙ e ∙ ap hash_mask (low.hash ∙ picks.0)
          in
          omega arith);
    }

-- a head of two lines of a list field, and of the one that they make
abbrev pub two_lines : List ℕ
two_lines = accepting ++ (codes "Accept:b" ++ (CR ∷ LF ∷ []))

abbrev pub one_line : List ℕ
one_line = codes "Accept:a, b" ++ (CR ∷ LF ∷ [])

-- a request signed with the one is taken with the other
abbrev pub listing : List ℕ → Request
listing head = client_request (asking 8 0 offer) (saying_with head 0) 100 (zeros 1024)

pub record CombinedWitnesses : Type 0 where
  pub combined : Combined (lines_in two_lines) (lines_in one_line)
  pub apart : (judged (listing two_lines) (set_up (asking 8 0 offer) (empty 1)).state).number ≡ 0
  pub together : (judged (with_lines (listing two_lines) one_line []) (set_up (asking 8 0 offer) (empty 1)).state).number ≡ 0

combining : Combined (lines_in two_lines) (lines_in one_line)
unfolding codes lines_in lines_up_to starts_line front_line line_text good_line is_token all token_byte has_byte value_byte same leading trimmed trim_front trim_end values_in
combining = joining [] [] [] (codes "Accept") (codes "a") (codes "b") refl refl refl (omega arith)

-- signing two lines signs one
same_value : with_lines (listing two_lines) one_line [] ≡ listing one_line
unfolding client_request client_fields client_code
same_value = rw (head_text (codes "GET") (chosen_of (asking 8 0 offer)) 8 [] 0 100 0 [] two_lines one_line (codes "/") [] combining) refl

pub combined_witnesses : CombinedWitnesses
unfolding codes expiry_of limits_of good_block text_of lines_in lines_up_to starts_line front_line line_text good_line is_token all token_byte has_byte value_byte same leading repeated values_in is_list list_names has_name same_name lower covered_names chosen header_names extra_names
combined_witnesses =
    let taken : (head : List ℕ) → Fair (asking 8 0 offer) (saying_with head 0) 100 (zeros 1024) → (judged (listing head) (set_up (asking 8 0 offer) (empty 1)).state).number ≡ 0 =
    λ head. client_accepted (asking 8 0 offer) (empty 1) (saying_with head 0) 100 (zeros 1024) (lent_zeros 8 offer 0) setup_witnesses.lists in
    record {
      combined = combining;
      apart = taken two_lines (fairly_with (asking 8 0 offer) two_lines 0 100 (omega arith) refl refl (omega arith) (omega arith) (omega arith) (omega arith) (omega arith));
      together = rw same_value (taken one_line (fairly_with (asking 8 0 offer) one_line 0 100 (omega arith) refl refl (omega arith) (omega arith) (omega arith) (omega arith) (omega arith)));
    }
