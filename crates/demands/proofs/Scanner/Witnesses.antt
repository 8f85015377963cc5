-- What is asked of a scanner and its gate can be met: two requests with another call between them, with nonces and without, each accepted.
-- Assumes nothing.
use mathlib.Core.Path.{◌≡◌, refl, sym, ap, subst, ◌∙◌}
use mathlib.Core.Bool.{false, not}
use mathlib.Core.List.{List, [], ◌∷◌}
use Prim.Native.Nat.{ℕ, ◌≤◌, ◌<◌}
use native.Mathlib.Omega.{arith}
use lib.Dec.{lit<}
use lib.ListN.{length-replicate}
use Rattle.cells.specs.Runs.{Bytes, same, spliced}
use Rattle.cells.specs.Numbers.{bytes_of, number}
use Rattle.cells.specs.Text.{codes}
use Rattle.cells.proofs.Numbers.{bytes_bytes_of}
use Rattle.cells.proofs.Tests.{tested}
use Rattle.hashes.specs.Hashes.{in_common}
use Rattle.hashes.specs.Hashes as Hashes
use Rattle.base_64.specs.Alphabet.{counted, alphabet, place_in, six_bits}
use Rattle.base_64.specs.Decoding as Decoding
use Rattle.base_64.specs.Decoding.{coded, full, two, one, decoded}
use Rattle.armor.specs.Numerals.{plain as plain_numeral, is_numeral, is_mask, mask_of}
use Rattle.armor.specs.Keys.{obeys, keys, rank_of, key_number, rule_at, rule_of}
use Rattle.armor.specs.Pieces
use Rattle.armor.specs.Value
use Rattle.armor.specs.Fields.{contents, times, the, setup_fields}
use Rattle.names.specs.Extra.{extra_names, good_names, good_extra}
use Rattle.names.specs.Covered.{covered_names}
use Rattle.lines.proofs.Lines.{lines_none, good_none}
use Rattle.lines.proofs.Notes.{unrepeated}
use Rattle.orders.specs.Orders.{orders_good, limits_of}
use Rattle.signed.specs.SignedText.{orders_nonce}
use Rattle.table.specs.declared.session.Record.{Record}
use Rattle.table.specs.Record.{record_bytes, record_of}
use Rattle.table.specs.Table.{records, is_used, found, taken}
use Rattle.table.specs.Session.{place_of}
use Rattle.table.specs.WellFormed.{sound, fitting, well_formed}
use Rattle.table.proofs.Meaning.{well_formed_is}
use Rattle.index.specs.Index as Index
use Rattle.index.proofs.Held.{fits_one}
use Rattle.scanner.specs.State.{state_size, Session, no_session}
use Rattle.scanner.specs.Sign.{advanced}
use Rattle.scanner.proofs.Calls.{Kept, kept_signed}
use Rattle.stages.specs.Checks.{nowhere}
use Rattle.gate.specs.Calls.{Setup}
use Rattle.gate.specs.State.{State}
use Rattle.gate.specs.Sizes.{table_fits, state_fits, setup_fits}
use Rattle.gate.specs.Entry.{state_checks, entry_checks}
use Rattle.gate.specs.Setup as S
use Rattle.gate.specs.Setup.{offered, chosen_of, expiry_of, offer_part, lasting_part, room_part, setup_checks, with_session, set_up}
use Rattle.demands.specs.History.{Call, judging, making_index, empty}
use Rattle.demands.specs.Struck.{Lendable, bears}
use Rattle.demands.specs.Client.{LentBytes}
use Rattle.demands.specs.Scanner.{grant_of, World, world_of, Arrival, Event, sending, calling, happening, world_after, Proper, AllInOrder, AllTaken}
use Rattle.demands.proofs.Witnesses.{zeros, scanner, living, setup_witnesses}
use Rattle.demands.proofs.Struck.Kept.{NoSetup, undisturbed}
use Rattle.demands.proofs.Struck.Compared.{unused}
use Rattle.demands.proofs.Struck.Steps.{ours, theirs, setting, set_up_lem, sent, us, them, bears_own}
use Rattle.demands.proofs.Struck.Witnesses.{our_table, table_witnesses}
use Rattle.demands.proofs.Scanner.{begun_kept, Agree, first_agrees, own_agrees, stands_after, every_accepted}
use Rattle.demands.proofs.Scanner.Client.{session_new}
use Rattle.demands.proofs.Scanner.States.{plain, buffer, plain_made}

-- a request comes at its clock, with nothing set aside
abbrev at : ℕ → Arrival
at clock = record { clock = clock; head = []; aside = []; reply = zeros 1024 }

-- latest first
abbrev pub day : Call → List Event
day between = sending (plain 130) buffer (at 130) ∷ calling between ∷ sending (plain 100) buffer (at 100) ∷ []

-- it is in order after a setup at 0, and so its requests are accepted
abbrev pub Met : Setup → State → Call → Type 0
Met s before between = let start = world_of s before 0 no_session in AllInOrder s start (day between) × AllTaken s start (day between)

-- a setup at 0 whose limits leave time, and a call that does not bear its IV
module _ (s : Setup) (before : State) (lendable : Lendable before) (lent : LentBytes s) (ok : (set_up s before).number ≡ 0)
    (idle : 130 ≤ (limits_of s.orders).idle) (lasts : 130 < expiry_of s) (between : Call) (later : NoSetup between) (other : bears s.iv between ≡ false) where
  abbrev start : World
  start = world_of s before 0 no_session

  proper : (k : Session) (w : World) → Kept k w.scanner → k.next ≤ 4294967295 → nowhere (place_of w.gate.table s.iv) ≡ false
      → (clock : ℕ) → clock ≤ 130 → Proper s (plain clock) buffer (at clock) w
  proper k w kept left stands clock soon = record {
    made = plain_made kept left clock;
    as_signed = refl;
    head_fits = omega arith;
    aside_fits = omega arith;
    reply_room = omega arith;
    lines = rw good_none refl;
    once = rw (lines_none, unrepeated (covered_names s.orders.numbers.mask s.orders.extra)) refl;
    active = omega arith;
    timely = omega arith;
    near = omega arith;
    lasts = omega arith;
    stands = stands;
  }

  agreed : Agree s start
  agreed = first_agrees s before 0 no_session lendable lent ok (omega arith) (length-replicate {A = ℕ} state_size 0)

  kept : Kept (record { grant = grant_of s; last_time = 0; next = 0 }) start.scanner
  kept = begun_kept s before 0 no_session lent ok (omega arith) (length-replicate {A = ℕ} state_size 0)

  first : Proper s (plain 100) buffer (at 100) start
  first = proper _ start kept (omega arith) (unused s.iv start.gate.table ∙ ap (λ (r : Record). not (is_used r)) (session_new s before lent ok)) 100 (omega arith)

  abbrev middle : World
  middle = happening s (calling between) (happening s (sending (plain 100) buffer (at 100)) start)

  second : Proper s (plain 130) buffer (at 130) middle
  unfolding advanced
  second =
      let asked = own_agrees s before lent ok start agreed (plain 100) buffer (at 100) (omega arith) first in
      let still = stands_after s before lent ok start agreed (plain 100) buffer (at 100) (omega arith) first in
      proper _ middle (kept_signed kept (plain 100) buffer (omega arith) first.made)
      (tested (orders_nonce s.orders.numbers.mask) (λ o. rw o (omega arith)) (λ o. rw o (omega arith)))
      (ap nowhere (undisturbed _ asked.ready s.iv between later other).place ∙ still) 130 (omega arith)

  in_order : AllInOrder s start (day between)
  unfolding world_after
  in_order = ((omega arith, second), (other, ((omega arith, first), tt)))

  met : Met s before between
  met = (in_order, every_accepted s before 0 no_session lendable lent ok (omega arith) (length-replicate {A = ℕ} state_size 0) (day between) in_order)

-- with nonces, and another session's request between; and without, on a table of one record whose index is made anew between
pub record Witnesses : Type 0 where
  pub ordered : Met (setting theirs) (set_up (setting ours) (empty 2)).state (judging (sent ours 1))
  pub unordered : Met (living scanner 0) (empty 1) making_index

one_lendable : Lendable (empty 1)
unfolding state_fits table_fits Index.index_of Index.ranked_to Index.among Index.precedes Index.coded well_formed fitting sound same records record_of bytes_of number
one_lendable =
    let well = well_formed_is (records (empty 1).table) refl in
    record { sizes = refl; bytes = bytes_bytes_of 31 0; well = well; index = fits_one (records (empty 1).table) well }

-- what the setups are lent
lent_scanner : LentBytes (living scanner 0)
unfolding bytes_of
lent_scanner = record {
  server_key = bytes_bytes_of 32 0;
  session_key = bytes_bytes_of 32 0;
  iv = bytes_bytes_of 12 0;
  session_id = bytes_bytes_of 1 0;
  extra = bytes_bytes_of 0 0;
}

lent_bytes : (iv : List ℕ) → Bytes iv → LentBytes (setting iv)
unfolding bytes_of
lent_bytes iv b = record {
  server_key = bytes_bytes_of 32 0;
  session_key = bytes_bytes_of 32 0;
  iv = b;
  session_id = bytes_bytes_of 1 0;
  extra = bytes_bytes_of 0 0;
}

-- our setup leaves our table
between_setups : (set_up (setting ours) (empty 2)).state ≡ our_table
unfolding set_up setup_checks S.entry_part offer_part lasting_part room_part entry_checks state_checks setup_fits state_fits table_fits Index.index_of Index.ranked_to Index.among Index.precedes Index.coded orders_good good_extra extra_names good_names well_formed fitting sound same records record_of record_bytes bytes_of number codes Value.grammar Value.fields_in Value.field_of Value.piece_good Value.text_obeys Value.carried Pieces.pieces Pieces.up_to Pieces.after decoded full two one Decoding.ending coded six_bits place_in alphabet counted obeys rule_of rule_at key_number rank_of keys is_mask is_numeral plain_numeral setup_fields times contents offered in_common the mask_of expiry_of limits_of found taken with_session spliced chosen_of Hashes.chosen
between_setups = refl

-- ours is not theirs
unowned : bears theirs (judging (sent ours 1)) ≡ false
unfolding same
unowned = rw (bears_own us 1 (lit< tt)) refl

pub witnesses : Witnesses
unfolding limits_of expiry_of
witnesses =
    let two = subst (λ (state : State). Lendable state) (sym between_setups) table_witnesses.our_lendable in
    record {
      ordered = met (setting theirs) _ two (lent_bytes theirs them.bytes) set_up_lem.second (omega arith) (omega arith) (judging (sent ours 1)) tt unowned;
      unordered = met (living scanner 0) (empty 1) one_lendable lent_scanner (setup_witnesses.short 0) (omega arith) (omega arith) making_index tt refl;
    }
