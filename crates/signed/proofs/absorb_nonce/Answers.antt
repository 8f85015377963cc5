-- The nonce is carried or not.
use borrow.Author.Tests.{eq-eqb, ne_eqb}
use Rattle.signed.specs.SignedText.{nonce_of}
use Rattle.signed.proofs.Streaming.{took_none}
use Rattle.signed.proofs.absorb_nonce.Goals as goal

pub absorb_number-requires : goal.absorb_number-requires
unfolding nonce_of
absorb_number-requires c = simp (eq-eqb _ 1 c.if-mask-eq1.true) at c.requires

pub returns-then-mask-eq1 : goal.returns-then-mask-eq1
unfolding nonce_of
returns-then-mask-eq1 c = simp (eq-eqb _ 1 c.if-mask-eq1.true) c.absorb_number.ensures

pub returns-else-mask-eq1 : goal.returns-else-mask-eq1
unfolding nonce_of
returns-else-mask-eq1 c = simp (ne_eqb _ 1 c.if-mask-eq1.false) (took_none c.args.state.now)
