-- The numbers of the calls' checks, what the first of them let through, and a number and a length that one answer holds: document 01, 'The numbers
-- a call returns'.
-- Assumes nothing.
use mathlib.Core.Path.{◌≡◌, refl, sym, ap, ap₂, ◌∙◌}
use mathlib.Core.Bool.{Bool, true, false, cond, not, ◌&&◌}
use mathlib.Core.List.{List, [], ◌∷◌}
use Prim.Native.Nat.{ℕ, ◌+◌, ◌-◌, ◌*◌, ◌%◌, ◌≤◌, ◌<◌}
use native.Mathlib.Omega.{arith}
use borrow.Author.Tests.{leb-true, eqb-true}
use lib.Dec.{eqb, leb}
use lib.ListN.{length, get_or}
use Rattle.cells.specs.Runs.{same}
use Rattle.cells.proofs.Tests.{both}
use Rattle.cells.proofs.Equality.{same_equal, same_self}
use Rattle.orders.specs.Orders.{Orders, orders_good}
use Rattle.table.specs.Record.{size}
use Rattle.table.specs.Table.{places, records}
use Rattle.table.specs.WellFormed.{well_formed}
use Rattle.index.specs.Index.{index_of, Indexed}
use Rattle.stages.specs.declared.refusal.Refusal.{Refusal}
use Rattle.stages.specs.declared.refusal.Refusal.TheVariants as R
use Rattle.stages.specs.InnerRefusals.{number_of}
use Rattle.stages.specs.Request.{Request}
use Rattle.stages.specs.Checks.{first}
use Rattle.stages.specs.Parts.{reading_part, covering_part, token_part, signature_part, session_part, nonce_part}
use Rattle.stages.proofs.Checks.{numbered, lacks, small}
use Rattle.stages.proofs.Refusals.{some_number}
use Rattle.gate.specs.State.{State, indexed, outcome}
use Rattle.gate.specs.Calls.{Setup}
use Rattle.gate.specs.Sizes.{long_from, exactly, table_fits, state_fits, lent_fits, request_fits, end_fits}
use Rattle.gate.specs.Entry.{state_checks, entry_checks}
use Rattle.gate.specs.Setup as S
use Rattle.gate.specs.Setup.{offer_part, lasting_part, room_part, setup_checks}
use Rattle.gate.specs.Judge.{entry_part, request_checks}
use Rattle.gate.specs.End.{end_checks}

-- the checks of the calls
pub setup_numbered : (s : Setup) (state : State) → numbered (setup_checks s state) ≡ true
unfolding setup_checks S.entry_part offer_part lasting_part room_part entry_checks state_checks
setup_numbered s state = refl

pub setup_small : (s : Setup) (state : State) → small (setup_checks s state) ≡ true
unfolding setup_checks S.entry_part offer_part lasting_part room_part entry_checks state_checks
setup_small s state = refl

pub request_numbered : (q : Request) (state : State) → numbered (request_checks q state) ≡ true
unfolding request_checks entry_part reading_part covering_part token_part signature_part session_part nonce_part entry_checks state_checks
request_numbered q state = refl

pub request_small : (q : Request) (state : State) → small (request_checks q state) ≡ true
unfolding request_checks entry_part reading_part covering_part token_part signature_part session_part nonce_part entry_checks state_checks
request_small q state = refl

pub end_numbered : (iv : List ℕ) (state : State) → numbered (end_checks iv state) ≡ true
unfolding end_checks state_checks
end_numbered iv state = refl

pub entry_numbered : (fits : Bool) (o : Orders) (state : State) → numbered (entry_checks fits o state) ≡ true
unfolding entry_checks state_checks
entry_numbered fits o state = refl

pub entry_ten : (fits : Bool) (o : Orders) (state : State) → lacks 10 (entry_checks fits o state) ≡ true
unfolding entry_checks state_checks
entry_ten fits o state = refl

pub entry_thirteen : (fits : Bool) (o : Orders) (state : State) → lacks 13 (entry_checks fits o state) ≡ true
unfolding entry_checks state_checks
entry_thirteen fits o state = refl

-- what 1, 2, 3 and 22 let through
pub record Entered (fits : Bool) (o : Orders) (state : State) : Type 0 where
  pub sizes : fits ≡ true
  pub orders : orders_good o ≡ true
  pub formed : well_formed (records state.table) ≡ true
  pub index : state.index ≡ index_of (records state.table)

pub entry_passed : (fits : Bool) (o : Orders) (state : State) → first (entry_checks fits o state) ≡ 0 → Entered fits o state
unfolding entry_checks state_checks
entry_passed fits o state e = by fits (orders_good o) (well_formed (records state.table)) (same state.index (index_of (records state.table))) refl refl refl refl e
  where
    by : (a b c d : Bool) → fits ≡ a → orders_good o ≡ b → well_formed (records state.table) ≡ c → same state.index (index_of (records state.table)) ≡ d
        → ◌≡◌ {A = ℕ} (cond (not a) 1 (cond (not b) 2 (cond (not c) 3 (cond (not d) 22 0)))) 0 → Entered fits o state
    by true true true true p q r t z = record { sizes = p; orders = q; formed = r; index = same_equal state.index (index_of (records state.table)) t }
    by true true true false p q r t z = absurd (omega arith)
    by true true false d p q r t z = absurd (omega arith)
    by true false c d p q r t z = absurd (omega arith)
    by false b c d p q r t z = absurd (omega arith)

-- 3 and 22 by what the table and its index are
module _ (state : State) where
  abbrev fitting : Bool
  fitting = well_formed (records state.table) && same state.index (index_of (records state.table))

  pub state_good : fitting ≡ true → first (state_checks state) ≡ 0
  unfolding state_checks
  state_good e = let parts = both (well_formed (records state.table)) (same state.index (index_of (records state.table))) e in rw (parts.0, parts.1)

  pub state_unindexed : well_formed (records state.table) ≡ true → fitting ≡ false → first (state_checks state) ≡ 22
  unfolding state_checks
  state_unindexed w e = rw (w, rw w at e)

  pub state_unformed : well_formed (records state.table) ≡ false → first (state_checks state) ≡ 3
  unfolding state_checks
  state_unformed w = rw w

  pub state_passed : first (state_checks state) ≡ 0 → fitting ≡ true
  unfolding state_checks
  state_passed = by (well_formed (records state.table)) (same state.index (index_of (records state.table)))
    where
      by : (a b : Bool) → ◌≡◌ {A = ℕ} (cond (not a) 3 (cond (not b) 22 0)) 0 → (a && b) ≡ true
      by true true z = refl
      by true false z = absurd (omega arith)
      by false b z = absurd (omega arith)

-- a table beside the index that fits it is at most not well formed
pub state_indexed : (table : List ℕ) → first (state_checks (indexed table)) ≡ cond (well_formed (records table)) 0 3
unfolding state_checks
state_indexed table = rw (same_self (index_of (records table))) (by (well_formed (records table)))
  where
    by : (t : Bool) → ◌≡◌ {A = ℕ} (cond (not t) 3 0) (cond t 0 3)
    by true = refl
    by false = refl

-- the sizes of table and index
pub record Stated (state : State) : Type 0 where
  pub few : places state.table ≤ 4096
  pub long : length state.index ≡ 2 * places state.table

pub stated : (state : State) → state_fits state ≡ true → Stated state
unfolding state_fits table_fits
stated state e =
    let parts = both (table_fits state.table) (exactly (2 * places state.table) state.index) e in
    let most : length state.table ≤ 4096 * size = leb-true _ _ (both (leb size (length state.table)) (leb (length state.table) (4096 * size)) (both (eqb (length state.table % size) 0) (long_from size (4096 * size) state.table) parts.0).1).1 in
    record { few = omega arith; long = eqb-true _ _ parts.1 }

-- and what they say with 3 and 22 passed
pub indexed_by : (state : State) → state_fits state ≡ true → well_formed (records state.table) ≡ true → state.index ≡ index_of (records state.table)
    → Indexed state.table state.index
indexed_by state e w i =
    let size = stated state e in
    record { few = omega (arith, size.few); formed = w; fits = i }

pub passed_indexed : (state : State) → state_fits state ≡ true → first (state_checks state) ≡ 0 → Indexed state.table state.index
passed_indexed state e passed =
    let told = both (well_formed (records state.table)) (same state.index (index_of (records state.table))) (state_passed state passed) in
    indexed_by state e told.0 (same_equal _ _ told.1)

pub request_stated : (q : Request) (state : State) → request_fits q state ≡ true → state_fits state ≡ true
unfolding request_fits
request_stated q state e = (both (lent_fits q) (state_fits state) e).1

pub end_stated : (iv : List ℕ) (state : State) → end_fits iv state ≡ true → state_fits state ≡ true
unfolding end_fits
end_stated iv state e = (both (exactly 12 iv) (state_fits state) e).1

pub offer_numbered : (s : Setup) → numbered (offer_part s) ≡ true
unfolding offer_part lasting_part
offer_numbered s = refl

-- an answer holds a call's number and its reply's length
pub answered : (n l : ℕ) (reply : List ℕ) (state : State) → n < 256
    → outcome (n + 256 * l) reply state ≡ record { number = n; length = l; reply = reply; state = state }
answered n l reply state h = ap₂ (λ (m k : ℕ). record { number = m; length = k; reply = reply; state = state }) (omega arith) (omega arith)

pub answer_is : (answer n l : ℕ) (reply : List ℕ) (state : State) → answer ≡ n + 256 * l → n < 256
    → outcome answer reply state ≡ record { number = n; length = l; reply = reply; state = state }
answer_is answer n l reply state e h = rw e (answered n l reply state h)

-- 1, 2, and 3 or 22, by what is lent
module _ (fits : Bool) (o : Orders) (state : State) where
  pub sizes_refuse : fits ≡ false → first (entry_checks fits o state) ≡ 1
  unfolding entry_checks
  sizes_refuse e = rw e

  pub orders_refuse : fits ≡ true → orders_good o ≡ false → first (entry_checks fits o state) ≡ 2
  unfolding entry_checks
  orders_refuse e f = rw (e, f)

  pub state_decides : fits ≡ true → orders_good o ≡ true → first (entry_checks fits o state) ≡ first (state_checks state)
  unfolding entry_checks
  state_decides e f = rw (e, f)

-- a refusal's number is not 0, and no two have one
pub never_zero : (e : Refusal) → number_of e ≡ 0 → ⊥
never_zero e z = absurd (omega (arith, some_number e))

unfoldable all_refusals : List Refusal
all_refusals = R.WrongSize ∷ R.BadOrders ∷ R.BadTable ∷ R.BadGrammar ∷ R.WrongFields ∷ R.BadLines ∷ R.NameTwice ∷ R.NotAsOrdered ∷ R.BadToken ∷ R.Expired ∷ R.WrongSignature ∷ R.NoSession ∷ R.Idle ∷ R.TooOld ∷ R.NonceTooLow ∷ R.NonceSeen ∷ R.IvInUse ∷ R.TableFull ∷ R.NoCommonHash ∷ R.ExpiryTooLate ∷ R.TooFarAhead ∷ R.BadIndex ∷ R.BadReply ∷ []

named_by : (e : Refusal) → get_or all_refusals (number_of e - 1) R.BadReply ≡ e
unfolding all_refusals
named_by R.WrongSize = refl
named_by R.BadOrders = refl
named_by R.BadTable = refl
named_by R.BadGrammar = refl
named_by R.WrongFields = refl
named_by R.BadLines = refl
named_by R.NameTwice = refl
named_by R.NotAsOrdered = refl
named_by R.BadToken = refl
named_by R.Expired = refl
named_by R.WrongSignature = refl
named_by R.NoSession = refl
named_by R.Idle = refl
named_by R.TooOld = refl
named_by R.NonceTooLow = refl
named_by R.NonceSeen = refl
named_by R.IvInUse = refl
named_by R.TableFull = refl
named_by R.NoCommonHash = refl
named_by R.ExpiryTooLate = refl
named_by R.TooFarAhead = refl
named_by R.BadIndex = refl
named_by R.BadReply = refl

pub one_number : (d e : Refusal) → number_of d ≡ number_of e → d ≡ e
one_number d e p = sym (named_by d) ∙ ap (λ (n : ℕ). get_or all_refusals (n - 1) R.BadReply) p ∙ named_by e
