-- Demand 1: 'A bad request gets its number from our list, by the order given there. Only the refusals 10 and 13 alter the table, by freeing
-- that session's record, and only they write a reply; the others touch nothing.' For each of the calls, over everything that can be lent, the
-- index included (document 02, K7).
-- Assumes nothing.
pub mod Setups
pub mod Requests
pub mod Endings
pub mod Indexes
use mathlib.Core.Path.{◌≡◌, sym, ap, ◌∙◌}
use mathlib.Core.List.{List, []}
use mathlib.Core.Logic.{inl, inr}
use borrow.Author.Tests.{ne_eqb}
use Prim.Native.Nat.{ℕ, ◌*◌, ◌≤◌}
use Rattle.table.specs.declared.session.Record.{Record}
use Rattle.table.specs.Record.{size, record_bytes, record_of, Fits}
use Rattle.table.proofs.Records.{record_of_bytes}
use Rattle.gate.specs.Calls.{Setup}
use Rattle.stages.specs.Request.{Request}
use Rattle.gate.specs.State.{State, holding, indexed}
use Rattle.gate.specs.Setup.{set_up}
use Rattle.gate.specs.Judge.{judged}
use Rattle.gate.specs.End.{ended}
use Rattle.gate.specs.Remake.{remade}
use Rattle.demands.specs.History.{Call, setting_up, judging, judging_one, ending, making_index, taken_out, put_back, caught_up, judged_at, answer}
use Rattle.demands.specs.Effects.{TenOrThirteen, Kept, SetupEffects, JudgeEffects, EndEffects, RemakeEffects}
use Rattle.demands.proofs.Shared.Stored.{respliced}
use Rattle.demands.proofs.Untouched.Setups.{setup_effects, setup_length}
use Rattle.demands.proofs.Untouched.Requests.{judge_effects}
use Rattle.demands.proofs.Untouched.Endings.{end_effects}
use Rattle.demands.proofs.Untouched.Indexes.{remake_effects}

-- each call's number is one that documents 01 and 02 give it, by the order given there, and what it does follows from the number
pub setup : (s : Setup) (state : State) → SetupEffects s state (set_up s state)
setup = setup_effects

pub judge : (q : Request) (state : State) → JudgeEffects q state (judged q state)
judge = judge_effects

pub end : (iv : List ℕ) (state : State) → EndEffects iv state (ended iv state)
end = end_effects

pub remake : (state : State) → RemakeEffects state (remade state)
remake = remake_effects

-- a setup's reply is never longer than 459 bytes
pub reply_short : (s : Setup) (state : State) → (set_up s state).length ≤ 459
reply_short = setup_length

-- what is lent to a call for its reply; no buffer is lent to an ending, nor to the making of an index
abbrev pub buffer_of : Call → List ℕ
buffer_of (setting_up s) = s.reply
buffer_of (judging q) = q.reply
buffer_of (judging_one place q) = q.reply
buffer_of (ending iv) = []
buffer_of making_index = []

-- 10 and 13 of a request
abbrev pub Freeing : Call → ℕ → Type 0
Freeing (setting_up s) n = ⊥
Freeing (judging q) n = TenOrThirteen n
Freeing (judging_one place q) n = TenOrThirteen n
Freeing (ending iv) n = ⊥
Freeing making_index n = ⊥

-- a record that is put back as it was
one_kept : (place : ℕ) (q : Request) (state : State) → (TenOrThirteen (judged_at place q state).number → ⊥)
    → Kept q.reply (taken_out place state) (judged q (taken_out place state)) → Kept q.reply state (judged_at place q state)
one_kept place q state other k = record {
  long = k.long;
  reply = k.reply;
  state =
      caught_up_lem (judged q (taken_out place state)).number (put_back place state (judged q (taken_out place state)).state) other
      ∙ ap (put_back place state) k.state
      ∙ ap (λ (t : List ℕ). holding t state.index) (respliced state.table (size * place) size);
}
  where
    caught_up_lem : (n : ℕ) (s : State) → (TenOrThirteen n → ⊥) → caught_up n s ≡ s
    caught_up_lem n s no-two =
        rw (ne_eqb n 10 (λ e. no-two (inl e)), ne_eqb n 13 (λ e. no-two (inr e)))

-- THE THEOREM: only the refusals 10 and 13 alter the table, and only they write a reply; the others touch nothing
pub untouched_else : (c : Call) (state : State) → 1 ≤ (answer c state).number → (Freeing c (answer c state).number → ⊥)
    → Kept (buffer_of c) state (answer c state)
untouched_else (setting_up s) state h f = (setup s state).refused h
untouched_else (judging q) state h f = (judge q state).refused h f
untouched_else (judging_one place q) state h f = one_kept place q state f ((judge q (taken_out place state)).refused h f)
untouched_else (ending iv) state h f =
    record { long = (end iv state).no_reply.0; reply = (end iv state).no_reply.1; state = (end iv state).refused h }
untouched_else making_index state h f =
    record { long = (remake state).no_reply.0; reply = (remake state).no_reply.1; state = (remake state).refused h }

-- the thin entry leaves the record that a table of it alone would hold: what holds of that table is said by `judge`, and of the record
-- itself, that a refusal other than 10 and 13 keeps every field
pub one_untouched : (q : Request) (before after : Record) → Fits before → Fits after → (judged q (indexed (record_bytes before))).state ≡ indexed (record_bytes after)
    → 1 ≤ (judged q (indexed (record_bytes before))).number → (TenOrThirteen (judged q (indexed (record_bytes before))).number → ⊥) → after ≡ before
one_untouched q before after f g left h t =
    let kept = ((judge q (indexed (record_bytes before))).refused h t).state in
    sym (record_of_bytes after g) ∙ ap (λ (s : State). record_of s.table) (sym left ∙ kept) ∙ record_of_bytes before f
