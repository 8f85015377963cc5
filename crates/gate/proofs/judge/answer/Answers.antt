-- Answers for `judge::answer`.
-- Assumes nothing.
use Rattle.std.specs.Prelude.{Result, Err}
use Rattle.std.proofs.Common.{◌≡◌, ◌≤◌, length, sym, ap, ◌∙◌, arith}
use Rattle.hashes.specs.declared.Hash.{Hash}
use Rattle.hashes.specs.declared.Hash.TheVariants.{Sha256, Sha512}
use Rattle.cells.specs.InnerRun.{run_of}
use Rattle.reply.specs.Replies.{invalidation, invalidation_size}
use Rattle.reply.proofs.Lengths.{length_invalidation}
use Rattle.stages.specs.declared.refusal.Refusal.{Refusal}
use Rattle.stages.specs.InnerRefusals.{number_of, number_in}
use Rattle.stages.proofs.Refusals.{small_number}
use Rattle.gate.proofs.Numbers.{answer_is, never_zero}
use Rattle.gate.proofs.Judging.{answered_zero, answered_freed, answered_kept}
use Rattle.gate.proofs.judge.answer.Goals as goal
use Rattle.gate.proofs.judge.answer.Goals.{After-number}

same_err : {A : Type 0} {d e : Refusal} → ◌≡◌ {A = Result A Refusal} (Err d) (Err e) → d ≡ e
same_err p = cc

-- an invalidation is so short that 256 times its length fits 32 bits
short : (c : After-number) → c.invalidate-len.result ≤ 90
short c = rw (c.invalidate-len.ensures.0, length_invalidation) (sizes c.args.decision.now.hash)
  where
    sizes : (h : Hash) → invalidation_size h ≤ 90
    sizes Sha256 = omega arith
    sizes Sha512 = omega arith

pub overflow_cast-result-in-Err : goal.overflow_cast-result-in-Err
overflow_cast-result-in-Err c = omega (arith, short c)

pub overflow_mul-result-in-Err : goal.overflow_mul-result-in-Err
overflow_mul-result-in-Err c = omega (arith, short c)

pub overflow_add-result : goal.overflow_add-result
overflow_add-result c = omega (arith, short c, c.number.ensures, small_number c.in-Err.refusal)

pub returns-in-Ok : goal.returns-in-Ok
returns-in-Ok c s =
    let d = c.args.decision.now in
    answer_is _ 0 (length (run_of d.token.id)) _ s (omega (arith, ap length c.as_slice-id.ensures)) (omega arith)
    ∙ sym (answered_zero _ _ _ _ _ s (ap number_in c.in-Ok.is) ∙ simp (c.put_front.ensures, c.as_slice-id.ensures))

pub returns-in-Err : goal.returns-in-Err
returns-in-Err c s =
    let d = c.args.decision.now in
    let e : number_in d.outcome ≡ number_of c.in-Err.refusal = ap number_in c.in-Err.is in
    answer_is _ (number_of c.in-Err.refusal) (length (invalidation d.hash d.token.key)) _ s (omega (arith, c.invalidate-len.ensures.0, c.number.ensures)) (small_number _)
    ∙ sym (rw e (answered_freed _ _ _ _ _ s (sym c.invalidates.ensures ∙ c.if-invalidates.true) ∙ simp (sym c.invalidate-len.ensures.1)))

pub returns-in-Err-2 : goal.returns-in-Err-2
returns-in-Err-2 c s =
    let d = c.args.decision.now in
    let e : number_in d.outcome ≡ number_of c.in-Err.refusal = ap number_in c.in-Err.is in
    answer_is _ (number_of c.in-Err.refusal) 0 _ s (omega (arith, c.number-in-Err-2.ensures, ap number_of (same_err (sym c.in-Err-2.is ∙ c.in-Err.is)))) (small_number _)
    ∙ sym (rw e (answered_kept _ _ _ _ _ s (never_zero _) (sym c.invalidates.ensures ∙ c.if-invalidates.false)))
