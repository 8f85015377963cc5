-- Five pieces are laid one after the other, and the code is that of the parameters among them.
-- Assumes nothing.
use Rattle.std.proofs.Common.{refl, sym, ap, arith, List, ℕ, [], ◌∷◌, ◌++◌, length, take, length-append}
use lib.Seq.{length-take-le}
use Rattle.cells.specs.Text.{codes}
use Rattle.structured.proofs.Laying.{laying_none, laying_more, laying_all}
use Rattle.signatures.specs.Fields.{input_value, field_lines}
use Rattle.carrier.specs.Sign.{input_of, sign_text}
use Rattle.carrier.specs.InnerSteps.{asked_in}
use Rattle.carrier.proofs.Parts.{granted, components}
use Rattle.carrier.proofs.Writing.{params_short, text_short, text_size, signature_length, may_be, laid_past, coded}
use Rattle.carrier.proofs.sign.write.Goals as goal

pub put_input-end-requires : goal.put_input-end-requires
put_input-end-requires c =
    omega (arith, text_size (asked_in c.args.asked.now) c.args.created, text_short (may_be c.args.asked.now c.args.created c.args.out.now c.requires))

pub slice_bounds-code-count : goal.slice_bounds-code-count
unfolding input_value
slice_bounds-code-count c = omega (arith, c.put_input-end.ensures.ends, length-append {A = ℕ})

pub slice_bounds-code-start : goal.slice_bounds-code-start
unfolding input_value
slice_bounds-code-start c = (laid_past c.put_at-start.new.out c.args.asked.now.label.now _ (omega (arith, c.requires.1)) c.put_input-end.ensures).0

pub slice_bounds-code-end : goal.slice_bounds-code-end
slice_bounds-code-end c =
    omega (arith, text_size (asked_in c.args.asked.now) c.args.created, text_short (may_be c.args.asked.now c.args.created c.args.out.now c.requires))

pub code-code-requires : goal.code-code-requires
unfolding input_value
code-code-requires c =
    let w = may_be c.args.asked.now c.args.created c.args.out.now c.requires in
    let past = laid_past c.put_at-start.new.out c.args.asked.now.label.now _ (omega (arith, c.requires.1)) c.put_input-end.ensures in
    (w.sized.names, components (granted (asked_in c.args.asked.now) c.requires.2), omega (arith, ap length past.1, params_short w), w.sized.key)

pub put_at-next-requires : goal.put_at-next-requires
put_at-next-requires c =
    omega (arith, text_size (asked_in c.args.asked.now) c.args.created, text_short (may_be c.args.asked.now c.args.created c.args.out.now c.requires))

pub put_code-last-requires : goal.put_code-last-requires
put_code-last-requires c =
    omega (
      arith,
      text_size (asked_in c.args.asked.now) c.args.created,
      text_short (may_be c.args.asked.now c.args.created c.args.out.now c.requires),
      signature_length c.args.asked.now.label.now (take 32 c.code-code.result) (length-take-le 32 c.code-code.result (omega arith)),
    )

pub put_at-requires : goal.put_at-requires
put_at-requires c =
    omega (
      arith,
      text_size (asked_in c.args.asked.now) c.args.created,
      text_short (may_be c.args.asked.now c.args.created c.args.out.now c.requires),
      signature_length c.args.asked.now.label.now (take 32 c.code-code.result) (length-take-le 32 c.code-code.result (omega arith)),
    )

pub returns : goal.returns
unfolding sign_text field_lines input_of codes
returns c =
    let a = asked_in c.args.asked.now in
    let w = may_be c.args.asked.now c.args.created c.args.out.now c.requires in
    let code = coded a c.args.created c.put_at-start.new.out c.code-code.result (omega (arith, c.requires.1)) c.put_input-end.ensures c.code-code.ensures in
    laying_all (laying_more (laying_more (laying_more (laying_more (laying_more
    (laying_none c.args.out.now 0 (omega (arith, text_short w, c.requires.1)) refl) refl c.put_at-start.ensures) refl c.put_input-end.ensures)
    refl c.put_at-next.ensures) (ap (λ (l : List ℕ). l ++ (13 ∷ 10 ∷ [])) (sym code)) c.put_code-last.ensures) refl c.put_at.ensures) refl
