-- Document 01, 'How far each contract reaches': 'Every public function has a contract that determines result, reply buffer and table for all
-- inputs, refusals too; that any two results allowed by it are equal is proved'. Here for the calls that are exported to C, gate_setup,
-- gate_judge, gate_end, gate_index, gate_judge_one and gate_fits, and for the primitives: over everything that can be lent to a call, two results that its contract
-- allows are one; the state is the table and its index (document 02, K7). docs/CONTRACTS.md goes through the functions that are not exported: most have an equation for a contract, which leaves no choice.
-- Assumes nothing.
use mathlib.Core.Path.{◌≡◌, sym, ap, ◌∙◌}
use mathlib.Core.List.{List, []}
use Prim.Native.Nat.{ℕ, ◌+◌, ◌*◌, ◌/◌, ◌%◌}
use native.Mathlib.Omega.{arith}
use Rattle.hashes.specs.declared.Hash.{Hash}
use Rattle.table.specs.declared.session.Record.{Record}
use Rattle.table.specs.Record.{record_bytes, record_of, Fits}
use Rattle.table.proofs.Records.{record_of_bytes}
use Rattle.gate.specs.Calls.{Setup}
use Rattle.stages.specs.Request.{Request}
use Rattle.gate.specs.State.{State, indexed, Outcome, outcome}
use Rattle.gate.specs.Setup.{set_up}
use Rattle.gate.specs.Judge.{judged}
use Rattle.gate.specs.End.{ended}
use Rattle.gate.specs.Remake.{remade}
use Rattle.gate.specs.Trial.{Trial, tried}
use Rattle.primitives.specs.Answer.{Answer, answer}
use Rattle.primitives.specs.Digests.{digest_call, hmac_call}
use Rattle.primitives.specs.Sealing.{SealAnswer, seal_answer, seal_call, open_call}

-- what gate_setup and gate_judge leave: the answer, the reply buffer and the state
pub record Result : Type 0 where
  pub answer : ℕ
  pub reply : List ℕ
  pub state : State

-- a contract that asks for an outcome allows a result
abbrev pub Allows : Outcome → Result → Type 0
Allows o r = outcome r.answer r.reply r.state ≡ o

-- the one result that an outcome leaves: its number and its length are the answer's
abbrev result_of : Outcome → Result
result_of o = record { answer = 256 * o.length + o.number; reply = o.reply; state = o.state }

allowed : {o : Outcome} (r : Result) → Allows o r → r ≡ result_of o
allowed r e =
    let answer : r.answer ≡ 256 * (r.answer / 256) + r.answer % 256 = omega arith in
    ap (λ (n : ℕ). record { answer = n; reply = r.reply; state = r.state }) answer ∙ ap result_of e

one_result : {o : Outcome} (a b : Result) → Allows o a → Allows o b → a ≡ b
one_result a b p q = allowed a p ∙ sym (allowed b q)

pub setup_determined : (s : Setup) (before : State) (a b : Result) → Allows (set_up s before) a → Allows (set_up s before) b → a ≡ b
setup_determined s before = one_result

pub judge_determined : (q : Request) (before : State) (a b : Result) → Allows (judged q before) a → Allows (judged q before) b → a ≡ b
judge_determined q before = one_result

-- gate_end and gate_index are lent no reply buffer
pub record EndResult : Type 0 where
  pub answer : ℕ
  pub state : State

abbrev pub AllowsEnd : Outcome → EndResult → Type 0
AllowsEnd o r = outcome r.answer [] r.state ≡ o

one_end : {o : Outcome} (a b : EndResult) → AllowsEnd o a → AllowsEnd o b → a ≡ b
one_end a b p q =
    let whole : EndResult → Result = λ r. record { answer = r.answer; reply = []; state = r.state } in
    ap (λ (r : Result). record { answer = r.answer; state = r.state }) (one_result (whole a) (whole b) p q)

pub end_determined : (iv : List ℕ) (before : State) (a b : EndResult) → AllowsEnd (ended iv before) a → AllowsEnd (ended iv before) b → a ≡ b
end_determined iv before = one_end

pub remake_determined : (before : State) (a b : EndResult) → AllowsEnd (remade before) a → AllowsEnd (remade before) b → a ≡ b
remake_determined before = one_end

-- gate_judge_one is lent one session's record and leaves it there: its outcome is that of a table of the record's bytes, beside its index
pub record OneResult : Type 0 where
  pub answer : ℕ
  pub reply : List ℕ
  pub session : Record

abbrev pub AllowsOne : Outcome → OneResult → Type 0
AllowsOne o r = outcome r.answer r.reply (indexed (record_bytes r.session)) ≡ o

-- a record's fields fit their types, so its bytes leave no choice of it
pub judge_one_determined : (q : Request) (before : Record) (a b : OneResult) → Fits a.session → Fits b.session
    → AllowsOne (judged q (indexed (record_bytes before))) a → AllowsOne (judged q (indexed (record_bytes before))) b → a ≡ b
judge_one_determined request before a b f g p q =
    read a f ∙ ap one (one_result (whole a) (whole b) p q) ∙ sym (read b g)
  where
    whole : OneResult → Result
    whole r = record { answer = r.answer; reply = r.reply; state = indexed (record_bytes r.session) }

    one : Result → OneResult
    one r = record { answer = r.answer; reply = r.reply; session = record_of r.state.table }

    read : (r : OneResult) → Fits r.session → r ≡ one (whole r)
    read r f =
        ap (λ (s : Record). record { answer = r.answer; reply = r.reply; session = s }) (sym (record_of_bytes r.session f))

-- gate_fits is lent nothing that it could write to
pub fits_determined : (t : Trial) (a b : ℕ) → a ≡ tried t → b ≡ tried t → a ≡ b
fits_determined t a b p q = p ∙ sym q

-- what a primitive leaves, its number and its buffer, is an answer; sealing leaves two buffers
pub digest_determined : (h : Hash) (text out : List ℕ) (a b : Answer)
    → answer a.number a.out ≡ digest_call h text out → answer b.number b.out ≡ digest_call h text out → a ≡ b
digest_determined h text out a b p q = p ∙ sym q

pub hmac_determined : (h : Hash) (key text out : List ℕ) (a b : Answer)
    → answer a.number a.out ≡ hmac_call h key text out → answer b.number b.out ≡ hmac_call h key text out → a ≡ b
hmac_determined h key text out a b p q = p ∙ sym q

pub seal_determined : (key iv text out tag : List ℕ) (a b : SealAnswer)
    → seal_answer a.number a.out a.tag ≡ seal_call key iv text out tag
    → seal_answer b.number b.out b.tag ≡ seal_call key iv text out tag → a ≡ b
seal_determined key iv text out tag a b p q = p ∙ sym q

pub open_determined : (key iv text tag out : List ℕ) (a b : Answer)
    → answer a.number a.out ≡ open_call key iv text tag out → answer b.number b.out ≡ open_call key iv text tag out → a ≡ b
open_determined key iv text tag out a b p q = p ∙ sym q
