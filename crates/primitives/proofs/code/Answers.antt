use Rattle.std.proofs.Common.{◌≡◌, length, take, ap, ◌∙◌, eq-eqb, ne_eqb, lt-ltb, le-ltb}
use Rattle.hashes.specs.Hashes.{digest_size}
use Rattle.primitives.specs.Answer.{answer}
use Rattle.primitives.specs.Digests.{hmac_call}
use Rattle.primitives.proofs.code.Goals as goal
use Rattle.primitives.proofs.code.Goals.{then-out-size-via-then-out-size, then-out-size-via-else-out-size+then-key-ge-LIMIT, then-out-size-via-else-out-size+else-key-ge-LIMIT+then-text-ge-LIMIT}

pub returns-then-out-size : goal.returns-then-out-size
unfolding hmac_call
returns-then-out-size c =
    elim c.then-out-size.branch [
      | then-out-size-via-then-out-size w ↦ simp (← c.size.ensures, ne_eqb _ _ w.if-out-size.true)
      | then-out-size-via-else-out-size+then-key-ge-LIMIT w ↦
          simp (← c.size.ensures, eq-eqb _ _ w.if-out-size.false, le-ltb _ _ w.if-key-ge-LIMIT.true)
      | then-out-size-via-else-out-size+else-key-ge-LIMIT+then-text-ge-LIMIT w ↦
          simp (← c.size.ensures, eq-eqb _ _ w.if-out-size.false, lt-ltb _ _ w.if-key-ge-LIMIT.false, le-ltb _ _ w.if-text-ge-LIMIT.true)
    ]

pub returns : goal.returns
unfolding hmac_call
returns c =
    let h = c.args.hash in
    let size : length c.args.out.now ≡ digest_size h = c.if-out-size.false ∙ c.size.ensures in
    simp (eq-eqb _ _ size, lt-ltb _ _ c.if-key-ge-LIMIT.false, lt-ltb _ _ c.if-text-ge-LIMIT.false)
    (ap (answer 0)
    (c.copy_from_slice.ensures.after ∙ ap (λ n. take n c.finish.result) c.size-2.ensures
    ∙ c.finish.ensures h _ (c.absorb.ensures.appended h _ c.begin-state.ensures.1)))
