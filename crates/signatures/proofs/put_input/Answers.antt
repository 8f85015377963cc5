-- Seven pieces are laid one after the other.
-- Assumes nothing.
use Rattle.std.proofs.Common.{refl, sym, ap, ◌∙◌, arith, length}
use mathlib.Core.List.{append-nil}
use Rattle.cells.specs.Text.{codes}
use Rattle.structured.proofs.Laying.{laying_none, laying_more, laying_all}
use Rattle.signatures.specs.Base.{params}
use Rattle.signatures.specs.Fields.{input_value}
use Rattle.signatures.proofs.Pieces.{input_size}
use Rattle.signatures.proofs.put_input.Goals as goal

pub put_at-end-requires : goal.put_at-end-requires
put_at-end-requires c = omega (arith, input_size c.args.input.now)

pub put_at-end-requires-2 : goal.put_at-end-requires-2
put_at-end-requires-2 c = omega (arith, input_size c.args.input.now)

pub put_list-end-requires : goal.put_list-end-requires
put_list-end-requires c = omega (arith, input_size c.args.input.now)

pub put_at-end-requires-3 : goal.put_at-end-requires-3
put_at-end-requires-3 c = omega (arith, input_size c.args.input.now)

pub put_at-end-requires-4 : goal.put_at-end-requires-4
put_at-end-requires-4 c = omega (arith, input_size c.args.input.now, ap length (c.as_slice.ensures ∙ c.digits.ensures))

pub put_at-end-requires-5 : goal.put_at-end-requires-5
put_at-end-requires-5 c = omega (arith, input_size c.args.input.now, ap length (c.as_slice.ensures ∙ c.digits.ensures))

pub put_string-requires : goal.put_string-requires
put_string-requires c = omega (arith, input_size c.args.input.now, ap length (c.as_slice.ensures ∙ c.digits.ensures))

pub returns : goal.returns
unfolding input_value params codes
returns c =
    laying_all (laying_more (laying_more (laying_more (laying_more (laying_more (laying_more (laying_more (laying_none _ _ c.requires refl)
    refl c.put_at-end.ensures) refl c.put_at-end-2.ensures) refl c.put_list-end.ensures) refl c.put_at-end-3.ensures)
    refl (rw (c.as_slice.ensures ∙ c.digits.ensures) at c.put_at-end-4.ensures)) refl c.put_at-end-5.ensures) (sym (append-nil _)) c.put_string.ensures) refl
