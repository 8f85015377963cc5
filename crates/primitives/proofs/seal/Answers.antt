use Rattle.std.proofs.Common.{length, ◌∙◌, ap₂}
use Rattle.primitives.specs.Sealing.{seal_answer, seal_call}
use Rattle.primitives.proofs.Sealing.{Fit, fits, unfit, too_long, size_number}
use Rattle.primitives.proofs.seal.Goals as goal
use Rattle.primitives.proofs.seal.Goals.{then-text-gt-LONGEST-via-then-text-gt-LONGEST, then-text-gt-LONGEST-via-else-text-gt-LONGEST+then-tag-ne16, then-text-gt-LONGEST-via-else-text-gt-LONGEST+else-tag-ne16+then-out-text}

pub returns-in_err-key : goal.returns-in_err-key
unfolding seal_call
returns-in_err-key c =
    rw (unfit _ _ _ _ _ (λ f. c.in_err-key.ensures.1 f.key_size), size_number c.from_residual.result c.from_residual.ensures.1)

pub returns-in_err-iv : goal.returns-in_err-iv
unfolding seal_call
returns-in_err-iv c =
    rw (unfit _ _ _ _ _ (λ f. c.in_err-iv.ensures.1 f.iv_size), size_number c.from_residual-in_err-iv.result c.from_residual-in_err-iv.ensures.1)

pub returns-then-text-gt-LONGEST : goal.returns-then-text-gt-LONGEST
unfolding seal_call
returns-then-text-gt-LONGEST c =
    elim c.then-text-gt-LONGEST.branch [
      | then-text-gt-LONGEST-via-then-text-gt-LONGEST w ↦ rw (unfit _ _ _ _ _ (λ f. too_long w.if-text-gt-LONGEST.true f.text_size))
      | then-text-gt-LONGEST-via-else-text-gt-LONGEST+then-tag-ne16 w ↦ rw (unfit _ _ _ _ _ (λ f. w.if-tag-ne16.true f.tag_size))
      | then-text-gt-LONGEST-via-else-text-gt-LONGEST+else-tag-ne16+then-out-text w ↦ rw (unfit _ _ _ _ _ (λ f. w.if-out-text.true f.out_size))
    ]

pub returns : goal.returns
unfolding seal_call
returns c =
    let lent = c.args in
    let key = c.in_ok-key.ensures.1 in
    let iv = c.in_ok-iv.ensures.1 in
    let sizes : Fit (length lent.key.now) (length lent.iv.now) (length lent.text.now) (length lent.tag.now) (length lent.out.now) =
    record { key_size = key.long; iv_size = iv.long; text_size = c.if-text-gt-LONGEST.false; tag_size = c.if-tag-ne16.false; out_size = c.if-out-text.false }
    in
    rw (fits _ _ _ _ _ sizes)
    (ap₂ (seal_answer 0) (rw (key.same, iv.same) at c.seal.ensures.0) (c.copy_from_slice.ensures.after ∙ (rw (key.same, iv.same) at c.seal.ensures.1)))
