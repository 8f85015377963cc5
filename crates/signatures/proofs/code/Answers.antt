-- The state takes in the components' lines and the parameters'.
-- Assumes nothing.
use Rattle.std.proofs.Common.{sym, ap, subst, arith, List, ℕ, ◌++◌}
use Rattle.cells.specs.Text.{codes}
use Rattle.names.specs.Extra.{extra_names as listed}
use Rattle.hashes.specs.declared.Hash.TheVariants.{Sha256}
use Rattle.sha_2.specs.Hash.{block_size, sha2}
use Rattle.sha_2.specs.InnerTaken.{Taken}
use Rattle.sha_2.proofs.Streaming.{took_in_turn}
use Rattle.hmac.specs.Hmac.{inner_key}
use Rattle.signatures.specs.Base.{component_lines, base_with, code_of}
use Rattle.signatures.specs.InnerAnswers.{message_in}
use Rattle.signatures.proofs.Pieces.{base_short, short_of, opening, last_pieces}
use Rattle.signatures.proofs.code.Goals as goal

pub begin-state-requires : goal.begin-state-requires
begin-state-requires c = omega arith

pub absorb_lines-requires : goal.absorb_lines-requires
absorb_lines-requires c =
    (c.requires.1, omega (arith, base_short _ (short_of c.args.message.now) c.args.names.now c.requires.0 c.requires.1, c.begin-state.ensures.0))

pub absorb-requires : goal.absorb-requires
absorb-requires c =
    omega (arith, base_short _ (short_of c.args.message.now) c.args.names.now c.requires.0 c.requires.1, c.begin-state.ensures.0)

pub absorb-requires-2 : goal.absorb-requires-2
absorb-requires-2 c =
    omega (arith, base_short _ (short_of c.args.message.now) c.args.names.now c.requires.0 c.requires.1, c.begin-state.ensures.0)

pub finish-requires : goal.finish-requires
finish-requires c = (
  omega arith,
  omega (arith, base_short _ (short_of c.args.message.now) c.args.names.now c.requires.0 c.requires.1, c.begin-state.ensures.0),
)

pub returns : goal.returns
unfolding code_of base_with codes
returns c =
    let ps = c.args.params.now in
    let lines = component_lines (message_in c.args.message.now) (listed c.args.names.now) in
    let took = took_in_turn _ _ _ lines (opening ++ ps) c.absorb_lines.ensures (took_in_turn _ _ _ opening ps c.absorb.ensures c.absorb-2.ensures) in
    c.finish.ensures Sha256 _
    (subst (λ (l : List ℕ). Taken Sha256 c.absorb-2.new.self (inner_key (sha2 Sha256) (block_size Sha256) c.args.key.now ++ l))
    (ap (λ (l : List ℕ). lines ++ l) (sym (last_pieces ps))) (took.appended Sha256 _ c.begin-state.ensures.1))
