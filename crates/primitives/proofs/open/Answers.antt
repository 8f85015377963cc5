use Rattle.std.proofs.Common.{[], length, sym, ◌∙◌}
use Rattle.gcm.specs.Gcm.{opened}
use Rattle.primitives.specs.Sealing.{open_call}
use Rattle.primitives.proofs.Sealing.{Fit, fits, unfit, too_long, size_number, opened_text, opened_wrong, wrong_number}
use Rattle.primitives.proofs.open.Goals as goal
use Rattle.primitives.proofs.open.Goals.{then-text-gt-LONGEST-via-then-text-gt-LONGEST, then-text-gt-LONGEST-via-else-text-gt-LONGEST+then-out-text}

pub returns-in_err-key : goal.returns-in_err-key
unfolding open_call
returns-in_err-key c =
    rw (unfit _ _ _ _ _ (λ f. c.in_err-key.ensures.1 f.key_size), size_number c.from_residual.result c.from_residual.ensures.1)

pub returns-in_err-iv : goal.returns-in_err-iv
unfolding open_call
returns-in_err-iv c =
    rw (unfit _ _ _ _ _ (λ f. c.in_err-iv.ensures.1 f.iv_size), size_number c.from_residual-in_err-iv.result c.from_residual-in_err-iv.ensures.1)

pub returns-in_err-tag : goal.returns-in_err-tag
unfolding open_call
returns-in_err-tag c =
    rw (unfit _ _ _ _ _ (λ f. c.in_err-tag.ensures.1 f.tag_size), size_number c.from_residual-in_err-tag.result c.from_residual-in_err-tag.ensures.1)

pub returns-then-text-gt-LONGEST : goal.returns-then-text-gt-LONGEST
unfolding open_call
returns-then-text-gt-LONGEST c =
    elim c.then-text-gt-LONGEST.branch [
      | then-text-gt-LONGEST-via-then-text-gt-LONGEST w ↦ rw (unfit _ _ _ _ _ (λ f. too_long w.if-text-gt-LONGEST.true f.text_size))
      | then-text-gt-LONGEST-via-else-text-gt-LONGEST+then-out-text w ↦ rw (unfit _ _ _ _ _ (λ f. w.if-out-text.true f.out_size))
    ]

pub returns-in_err-unseal : goal.returns-in_err-unseal
unfolding open_call
returns-in_err-unseal c =
    let lent = c.args in
    let key = c.in_ok-key.ensures.1 in
    let iv = c.in_ok-iv.ensures.1 in
    let tag = c.in_ok-tag.ensures.1 in
    let sizes : Fit (length lent.key.now) (length lent.iv.now) (length lent.text.now) (length lent.tag.now) (length lent.out.now) =
    record { key_size = key.long; iv_size = iv.long; text_size = c.if-text-gt-LONGEST.false; tag_size = tag.long; out_size = c.if-out-text.false }
    in
    rw (fits _ _ _ _ _ sizes, wrong_number c.from_residual-in_err-unseal.result c.from_residual-in_err-unseal.ensures.1)
    (opened_wrong (opened lent.key.now lent.iv.now [] lent.text.now lent.tag.now) lent.out.now _
    (sym c.in_err-unseal.was ∙ (rw (key.same, iv.same, tag.same) at c.unseal.ensures.0))
    (rw (key.same, iv.same, tag.same) at c.unseal.ensures.1))

pub returns : goal.returns
unfolding open_call
returns c =
    let lent = c.args in
    let key = c.in_ok-key.ensures.1 in
    let iv = c.in_ok-iv.ensures.1 in
    let tag = c.in_ok-tag.ensures.1 in
    let sizes : Fit (length lent.key.now) (length lent.iv.now) (length lent.text.now) (length lent.tag.now) (length lent.out.now) =
    record { key_size = key.long; iv_size = iv.long; text_size = c.if-text-gt-LONGEST.false; tag_size = tag.long; out_size = c.if-out-text.false }
    in
    rw (fits _ _ _ _ _ sizes)
    (opened_text (opened lent.key.now lent.iv.now [] lent.text.now lent.tag.now) lent.out.now _
    (sym c.in_ok-unseal.was ∙ (rw (key.same, iv.same, tag.same) at c.unseal.ensures.0))
    (rw (key.same, iv.same, tag.same) at c.unseal.ensures.1))
