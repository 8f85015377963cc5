-- What a request has passed whose token opens, and what a setup and an ending have passed that return 0.
-- Assumes nothing.
use mathlib.Core.Path.{◌≡◌, refl, sym}
use mathlib.Core.Bool.{true, false, true≢false, ◌&&◌, ◌||◌}
use mathlib.Core.List.{List, ◌++◌, append_assoc}
use mathlib.Core.Option.{Option, none, some}
use Prim.Native.Nat.{ℕ, ◌<◌, ◌^◌}
use native.Mathlib.Omega.{arith}
use borrow.Author.Tests.{not-false, ltb-false}
use lib.ListN.{length}
use Rattle.hashes.specs.Hashes.{in_common}
use Rattle.armor.specs.Value.{Field, grammar, carried}
use Rattle.armor.specs.Fields.{request_fields}
use Rattle.armor.specs.InnerAnswers.{request_answer}
use Rattle.armor.proofs.Scan.{kept_is}
use Rattle.armor.proofs.Requests.{request_by}
use Rattle.orders.specs.Orders.{orders_good}
use Rattle.names.specs.Names.{is_token}
use Rattle.lines.specs.Lines.{good_block}
use Rattle.std.specs.Prelude.{Option as Maybe, Some, None, Ok}
use Rattle.table.specs.Table.{records, taken}
use Rattle.table.specs.WellFormed.{WellFormed}
use Rattle.table.proofs.Meaning.{well_formed_is}
use Rattle.index.specs.Index.{index_of}
use Rattle.coverage.specs.Coverage.{as_ordered}
use Rattle.token.specs.Token.{has_token}
use Rattle.gate.specs.Calls.{Setup}
use Rattle.gate.specs.State.{State}
use Rattle.stages.specs.Request.{Request}
use Rattle.gate.specs.Sizes.{setup_fits, request_fits}
use Rattle.stages.specs.Checks.{first, missing, nowhere}
use Rattle.gate.specs.Entry.{state_checks, entry_checks}
use Rattle.table.specs.Session.{place_of}
use Rattle.gate.specs.Setup as S
use Rattle.gate.specs.Setup.{expiry_of, offer_part, lasting_part, room_part, setup_checks}
use Rattle.gate.specs.End.{end_checks}
use Rattle.stages.specs.Parts.{fields_of, opened_of, twice, reading_part, covering_part, signature_part, admitting_part}
use Rattle.gate.specs.Judge.{entry_part, request_checks}
use Rattle.stages.proofs.Checks.{lacks, passed_at}
use Rattle.gate.proofs.Numbers.{entry_passed, setup_numbered, end_numbered}
use Rattle.gate.proofs.Starting.{lent}
use Rattle.stages.proofs.Parts.{reading_numbered}
use Rattle.demands.proofs.Shared.Checks.{read_through, opens}
use Rattle.demands.proofs.Shared.Named.{placed}

-- none of the checks 1, 2, 3, 22 and 4 to 9 holds
pub record Passed (q : Request) (state : State) : Type 0 where
  pub sizes : request_fits q state ≡ true
  pub orders : orders_good q.orders ≡ true
  pub well : WellFormed (records state.table)
  pub index : state.index ≡ index_of (records state.table)
  pub value : request_answer q.value ≡ Ok tt
  pub lines : (is_token q.method && (good_block q.head && good_block q.aside)) ≡ true
  pub once : (twice q q.head || twice q q.aside) ≡ false
  pub covers : as_ordered q.orders.numbers.hashes q.orders.numbers.mask q.orders.extra (fields_of q) ≡ true
  pub opened : has_token (opened_of q) ≡ true

value_good : (v : List ℕ) (o : Option (List Field)) → grammar v ≡ o → missing o ≡ false → request_fields (carried v) ≡ true
    → request_answer v ≡ Ok tt
value_good v none p m f = absurd (true≢false m)
value_good v (some fs) p m f = request_by v true (kept_is v fs p) f

pub all_passed : (q : Request) (state : State) → first (entry_part q state) ≡ 0 → first (reading_part q) ≡ 0 → has_token (opened_of q) ≡ true → Passed q state
unfolding entry_part reading_part covering_part fields_of
all_passed q state entry reading opened =
    let entered = entry_passed (request_fits q state) q.orders state entry in
    let past = passed_at (reading_part q) (reading_numbered q) reading in
    record {
      sizes = entered.sizes;
      orders = entered.orders;
      well = well_formed_is (records state.table) entered.formed;
      index = entered.index;
      value = value_good q.value (grammar q.value) refl (past 4) (not-false _ (past 5));
      lines = not-false _ (past 6);
      once = past 7;
      covers = not-false _ (past 8);
      opened = opened;
    }

-- a request with one of these numbers has passed them
pub passed : (q : Request) (state : State) (n : ℕ) → lacks n (entry_part q state) ≡ true → lacks n (reading_part q) ≡ true → (n ≡ 9 → ⊥)
    → first (request_checks q state) ≡ n → Passed q state
passed q state n a b nine e =
    let read = read_through q state n a b e in
    all_passed q state read.entry read.reading (opens q (signature_part q ++ admitting_part q state.table) n (simp append_assoc at read.later) nine)

pub accepted_passed : (q : Request) (state : State) → first (request_checks q state) ≡ 0 → Passed q state
unfolding entry_part reading_part covering_part entry_checks state_checks
accepted_passed q state e = passed q state 0 refl refl (λ z. omega arith) e

unplaced : (p : Maybe ℕ) → nowhere p ≡ true → p ≡ None
unplaced (Some i) e = absurd (true≢false (sym e))
unplaced None e = refl

-- a setup of which no check holds takes a record, its IV is in no used record, its IV and expiry fit in one, and both sides have a hash
pub record Takes (s : Setup) (state : State) : Type 0 where
  pub place : ℕ
  pub takes : taken (records state.table) s.clock ≡ Some place
  pub unused : place_of state.table s.iv ≡ None
  pub long : length s.iv ≡ 12
  pub small : expiry_of s < 2 ^ 32
  pub common : in_common (S.offered s) s.orders.numbers.hashes ≡ true

pub setup_takes : (s : Setup) (state : State) → first (setup_checks s state) ≡ 0 → Takes s state
unfolding setup_checks S.entry_part offer_part lasting_part room_part entry_checks state_checks
setup_takes s state e =
    let past = passed_at (setup_checks s state) (setup_numbered s state) e in
    let place = placed (taken (records state.table) s.clock) (past 18) in
    record {
      place = place.0;
      takes = place.1;
      unused = unplaced (place_of state.table s.iv) (not-false _ (past 17));
      long = (lent s state (not-false (setup_fits s state) (past 1))).iv;
      small = omega (arith, ltb-false 4294967295 (expiry_of s) (past 20));
      common = not-false _ (past 19);
    }

-- an ending of which no check holds
module _ (iv : List ℕ) (state : State) (none : first (end_checks iv state) ≡ 0) where
  pub table_passed : WellFormed (records state.table)
  unfolding end_checks state_checks
  table_passed = well_formed_is (records state.table) (not-false _ (passed_at (end_checks iv state) (end_numbered iv state) none 3))

  pub session_passed : nowhere (place_of state.table iv) ≡ false
  unfolding end_checks state_checks
  session_passed = passed_at (end_checks iv state) (end_numbered iv state) none 12
