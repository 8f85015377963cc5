-- What judging reads of a request that reached the signature check: the rest of the checks, and the outcome, follow from it.
-- Assumes nothing.
use mathlib.Core.Path.{◌≡◌, refl, sym, ap, ap₂, subst, ◌∙◌}
use mathlib.Core.Bool.{Bool, true, false, cond}
use mathlib.Core.List.{List, ◌++◌}
use Prim.Native.Nat.{ℕ}
use lib.Dec.{eqb}
use lib.ListN.{length, drop}
use lib.Seq.{take-append_seam}
use Rattle.hashes.specs.declared.Hash.{Hash}
use Rattle.cells.specs.Runs.{fronted}
use Rattle.token.specs.Token.{Token}
use Rattle.reply.specs.Replies.{invalidation}
use Rattle.stages.specs.Request.{Request}
use Rattle.gate.specs.State.{State, untouched, replied}
use Rattle.stages.specs.Checks.{first}
use Rattle.table.specs.Session.{place_of}
use Rattle.stages.specs.Parts.{hash_of, keeps_hash, iv_of, nonce_of, time_of, last_time_of, signature_of, token_of, limits, text_of, code_of, ordered, stepped, next_of, signature_part, session_part, nonce_part, admitting_part, invalidates}
use Rattle.gate.specs.Judge.{request_checks, state_after, answered, outcome_at, judged}
use Rattle.demands.specs.Passing.{Reaches}
use Rattle.demands.proofs.Shared.Checks.{signature_decides}
use Rattle.demands.specs.Agreement.{Alike}

-- two requests of which judging reads the same
pub record ReadAlike (p q : Request) : Type 0 where
  pub orders : p.orders ≡ q.orders
  pub clock : p.clock ≡ q.clock
  pub iv : iv_of p ≡ iv_of q
  pub nonce : nonce_of p ≡ nonce_of q
  pub time : time_of p ≡ time_of q
  pub last_time : last_time_of p ≡ last_time_of q
  pub hash : hash_of p ≡ hash_of q
  pub signature : signature_of p ≡ signature_of q
  pub token : token_of p ≡ token_of q
  pub text : text_of p ≡ text_of q

replied_alike : (n : ℕ) {text other : List ℕ} (buffer lent : List ℕ) {after later : State} → text ≡ other → after ≡ later
    → Alike (replied n text buffer after) (replied n other lent later)
unfolding fronted
replied_alike n {text} {other} buffer lent e f = record {
  number = refl;
  long = ap length e;
  reply = take-append_seam text (drop (length text) buffer) ∙ e ∙ sym (take-append_seam other (drop (length other) lent));
  state = f;
}

module _ (p q : Request) (state : State) (same : ReadAlike p q) where
  -- what a number leaves
  abbrev left : ℕ → Request → State
  left n r = state_after n (ordered r) (place_of state.table (iv_of r)) (next_of r state.table) state

  step_same : stepped p state.table ≡ stepped q state.table
  unfolding stepped
  step_same = rw (same.iv, same.nonce)

  limits_same : limits p ≡ limits q
  unfolding limits
  limits_same = rw same.orders

  code_same : code_of p ≡ code_of q
  unfolding code_of
  code_same = rw (same.hash, same.token, same.text)

  next_same : next_of p state.table ≡ next_of q state.table
  unfolding next_of
  next_same = rw (same.iv, step_same)

  keeps_same : keeps_hash p state.table ≡ keeps_hash q state.table
  unfolding keeps_hash
  keeps_same = rw (same.iv, same.hash)

  left_same : (n : ℕ) → left n p ≡ left n q
  left_same n = rw (same.iv, next_same, same.orders)

  rest_same : signature_part p ++ admitting_part p state.table ≡ signature_part q ++ admitting_part q state.table
  unfolding signature_part session_part nonce_part
  rest_same = rw (same.signature, code_same, keeps_same, same.iv, same.time, same.last_time, limits_same, step_same, same.orders, same.clock)

  number_same : Reaches p state → Reaches q state → first (request_checks p state) ≡ first (request_checks q state)
  number_same rp rq = signature_decides p state rp ∙ ap first rest_same ∙ sym (signature_decides q state rq)

  outcome_alike : (n : ℕ) → Alike (outcome_at n p state) (outcome_at n q state)
  unfolding answered
  outcome_alike n = by (eqb n 0) (invalidates n)
    where
      by : (t u : Bool)
          → Alike (cond t (replied 0 (token_of p).id p.reply (left n p)) (cond u (replied n (invalidation (hash_of p) (token_of p).key) p.reply (left n p)) (untouched n p.reply (left n p))))
          (cond t (replied 0 (token_of q).id q.reply (left n q)) (cond u (replied n (invalidation (hash_of q) (token_of q).key) q.reply (left n q)) (untouched n q.reply (left n q))))
      by true u = replied_alike 0 p.reply q.reply (ap (λ (t : Token). t.id) same.token) (left_same n)
      by false true = replied_alike n p.reply q.reply (ap₂ (λ (h : Hash) (t : Token). invalidation h t.key) same.hash same.token) (left_same n)
      by false false = record { number = refl; long = refl; reply = refl; state = left_same n }

  -- they get the same verdict, reply, table and index after
  pub judged_alike : Reaches p state → Reaches q state → Alike (judged p state) (judged q state)
  unfolding judged
  judged_alike rp rq =
      subst (λ (n : ℕ). Alike (outcome_at n p state) (judged q state)) (sym (number_same rp rq)) (outcome_alike (first (request_checks q state)))

  outcome_same : (n : ℕ) → p.reply ≡ q.reply → outcome_at n p state ≡ outcome_at n q state
  outcome_same n e = rw (same.hash, same.token, same.iv, next_same, e, same.orders)

  -- and in equal reply buffers every byte is the same
  pub judged_same : Reaches p state → Reaches q state → p.reply ≡ q.reply → judged p state ≡ judged q state
  unfolding judged
  judged_same rp rq e = ap (λ (n : ℕ). outcome_at n p state) (number_same rp rq) ∙ outcome_same (first (request_checks q state)) e
