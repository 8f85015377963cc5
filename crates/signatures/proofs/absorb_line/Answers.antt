-- The line is taken in by its five pieces.
-- Assumes nothing.
use Rattle.std.proofs.Common.{sym, subst, arith, List, [], ◌∷◌, ℕ}
use Rattle.sha_2.specs.InnerTaken.{TookIn}
use Rattle.sha_2.proofs.Streaming.{took_in_turn}
use Rattle.signatures.proofs.Pieces.{line_pieces, line_size}
use Rattle.signatures.proofs.absorb_line.Goals as goal

pub absorb-requires : goal.absorb-requires
absorb-requires c = omega (arith, line_size c.args.name.now c.args.value.now c.requires.0)

pub absorb-requires-2 : goal.absorb-requires-2
absorb-requires-2 c = omega (arith, line_size c.args.name.now c.args.value.now c.requires.0, c.absorb.ensures.counted)

pub absorb-requires-3 : goal.absorb-requires-3
absorb-requires-3 c = omega (arith, line_size c.args.name.now c.args.value.now c.requires.0)

pub absorb-requires-4 : goal.absorb-requires-4
absorb-requires-4 c = omega (arith, line_size c.args.name.now c.args.value.now c.requires.0)

pub absorb-requires-5 : goal.absorb-requires-5
absorb-requires-5 c = omega (arith, line_size c.args.name.now c.args.value.now c.requires.0)

pub returns : goal.returns
returns c =
    subst (λ (l : List ℕ). TookIn c.args.state.now l c.absorb-5.new.self) (sym (line_pieces c.args.name.now c.args.value.now c.requires.0))
    (took_in_turn _ _ _ (34 ∷ []) _ c.absorb.ensures
    (took_in_turn _ _ _ c.args.name.now _ c.absorb-2.ensures
    (took_in_turn _ _ _ (34 ∷ 58 ∷ 32 ∷ []) _ c.absorb-3.ensures
    (took_in_turn _ _ _ c.args.value.now (10 ∷ []) c.absorb-4.ensures c.absorb-5.ensures))))
