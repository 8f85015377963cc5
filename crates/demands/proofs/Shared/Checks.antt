-- Laws of a request's checks in their parts, and of a number for which no check holds.
-- Assumes nothing.
use mathlib.Core.Path.{◌≡◌, refl, sym, ap, ◌∙◌}
use mathlib.Core.Bool.{Bool, true, false, true≢false, cond, ◌&&◌, ◌||◌, or-true}
use mathlib.Core.List.{List, [], ◌∷◌, ◌++◌, append_assoc}
use Prim.Native.Nat.{ℕ}
use borrow.Author.Tests.{eq-eqb, not-false}
use lib.Dec.{eqb}
use lib.ListN.{get_or}
use Rattle.token.specs.Token.{has_token}
use Rattle.gate.specs.State.{State}
use Rattle.stages.specs.Request.{Request}
use Rattle.stages.specs.Checks.{Check, first, nowhere}
use Rattle.gate.specs.Entry.{state_checks, entry_checks}
use Rattle.table.specs.Session.{place_of}
use Rattle.stages.specs.Parts.{iv_of, opened_of, reading_part, covering_part, token_part, signature_part, vouching_part, session_part, nonce_part, admitting_part}
use Rattle.gate.specs.Judge.{entry_part, request_checks}
use Rattle.stages.proofs.Checks.{numbered, lacks, comes_later, none_holds, passed_by}
use Rattle.stages.proofs.Parts.{reading_numbered, vouching_numbered}
use Rattle.demands.specs.Order.{unchecked}
use Rattle.demands.specs.Passing.{other_checks, PassesOthers, before_signature, Reaches}

module _ (q : Request) (state : State) where
  others_then_nonce : request_checks q state ≡ other_checks q state ++ nonce_part q state.table
  unfolding request_checks
  others_then_nonce = simp append_assoc

  before_then_signature : request_checks q state ≡ before_signature q state ++ (signature_part q ++ admitting_part q state.table)
  unfolding request_checks
  before_then_signature = simp append_assoc

  entry_numbered : numbered (entry_part q state) ≡ true
  unfolding entry_part entry_checks state_checks
  entry_numbered = refl

  others_numbered : numbered (other_checks q state) ≡ true
  unfolding entry_part reading_part covering_part token_part signature_part session_part entry_checks state_checks
  others_numbered = refl

  before_numbered : numbered (before_signature q state) ≡ true
  unfolding entry_part reading_part covering_part token_part entry_checks state_checks
  before_numbered = refl

  -- a request that is answered 0 passes the checks other than those of its nonce
  pub accepted_passes : first (request_checks q state) ≡ 0 → PassesOthers q state
  accepted_passes e =
      (none_holds (other_checks q state) (nonce_part q state.table) others_numbered (sym (ap first others_then_nonce) ∙ e)).none

  -- and those before that of its signature
  pub accepted_reaches : first (request_checks q state) ≡ 0 → Reaches q state
  accepted_reaches e = (none_holds (before_signature q state) _ before_numbered (sym (ap first before_then_signature) ∙ e)).none

  -- one that passes them is decided by those of its nonce
  pub nonce_decides : PassesOthers q state → first (request_checks q state) ≡ first (nonce_part q state.table)
  nonce_decides e = ap first others_then_nonce ∙ passed_by (other_checks q state) (nonce_part q state.table) others_numbered e

  -- one that reaches the signature check is decided from there on
  pub signature_decides : Reaches q state → first (request_checks q state) ≡ first (signature_part q ++ admitting_part q state.table)
  signature_decides e = ap first before_then_signature ∙ passed_by (before_signature q state) _ before_numbered e

  -- one that passes the checks up to that of its signature is decided by those after it
  pub vouched_decides : (later : List Check) → first (entry_part q state) ≡ 0 → first (reading_part q) ≡ 0 → first (vouching_part q) ≡ 0
      → first (entry_part q state ++ (reading_part q ++ (vouching_part q ++ later))) ≡ first later
  vouched_decides later entry reading vouching =
      passed_by (entry_part q state) (reading_part q ++ (vouching_part q ++ later)) entry_numbered entry
      ∙ passed_by (reading_part q) (vouching_part q ++ later) (reading_numbered q) reading
      ∙ passed_by (vouching_part q) later (vouching_numbered q) vouching

  -- what a request has passed whose number is of none of the checks 1 to 8
  pub record Read (n : ℕ) : Type 0 where
    pub entry : first (entry_part q state) ≡ 0
    pub reading : first (reading_part q) ≡ 0
    pub later : first (vouching_part q ++ admitting_part q state.table) ≡ n

  pub read_through : (n : ℕ) → lacks n (entry_part q state) ≡ true → lacks n (reading_part q) ≡ true → first (request_checks q state) ≡ n → Read n
  unfolding request_checks
  read_through n a b e =
      let read = comes_later (entry_part q state) (reading_part q ++ (vouching_part q ++ admitting_part q state.table)) n entry_numbered a e in
      let vouched = comes_later (reading_part q) (vouching_part q ++ admitting_part q state.table) n (reading_numbered q) b read.later in
      record { entry = read.none; reading = vouched.none; later = vouched.later }

-- the check that stands first does not hold if its number is not given
not_first : (cs : List Check) (n : ℕ) → first cs ≡ n → (n ≡ (get_or cs 0 unchecked).number → ⊥) → (get_or cs 0 unchecked).holds ≡ false
not_first [] n e other = refl
not_first (c ∷ cs) n e other = by c.holds refl e
  where
    by : (t : Bool) → c.holds ≡ t → cond t c.number (first cs) ≡ n → c.holds ≡ false
    by true p f = absurd (other (sym f))
    by false p f = p

-- the token opens, unless 9 is given
pub opens : (q : Request) (later : List Check) (n : ℕ) → first (token_part q ++ later) ≡ n → (n ≡ 9 → ⊥) → has_token (opened_of q) ≡ true
unfolding token_part
opens q later n e nine = not-false _ (not_first (token_part q ++ later) n e nine)

-- the session is found, unless 12 is given
pub finds : (q : Request) (state : State) (later : List Check) (n : ℕ) → first (session_part q state.table ++ later) ≡ n → (n ≡ 12 → ⊥)
    → nowhere (place_of state.table (iv_of q)) ≡ false
unfolding session_part
finds q state later n e twelve = not_first (session_part q state.table ++ later) n e twelve

-- whether a check for this number holds
abbrev pub holds_for : ℕ → List Check → Bool
holds_for n [] = false
holds_for n (c ∷ cs) = (eqb c.number n && c.holds) || holds_for n cs

given_holds : (n : ℕ) (cs : List Check) → (n ≡ 0 → ⊥) → first cs ≡ n → holds_for n cs ≡ true
given_holds n [] nz e = absurd (nz (sym e))
given_holds n (c ∷ cs) nz e = by c.holds e (given_holds n cs nz)
  where
    by : (t : Bool) → cond t c.number (first cs) ≡ n → (first cs ≡ n → holds_for n cs ≡ true)
        → ((eqb c.number n && t) || holds_for n cs) ≡ true
    by true f later = rw (eq-eqb c.number n f)
    by false f later = rw (later f) (or-true (eqb c.number n && false))

-- where no check for a number holds, the number is not given
pub never_given : (n : ℕ) (cs : List Check) → (n ≡ 0 → ⊥) → holds_for n cs ≡ false → first cs ≡ n → ⊥
never_given n cs nz h e = true≢false (sym (given_holds n cs nz e) ∙ h)
