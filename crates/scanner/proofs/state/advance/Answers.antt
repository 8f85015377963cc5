-- Last time and next nonce stand in front of the rest.
-- Assumes nothing.
use Rattle.std.proofs.Common.{ap, ◌∙◌, arith, List, ℕ, length}
use Rattle.cells.specs.Runs.{spliced}
use Rattle.cells.specs.Numbers.{bytes_of}
use Rattle.scanner.specs.State.{session_in}
use Rattle.scanner.proofs.States.{tells, rewritten}
use Rattle.scanner.proofs.state.advance.Goals as goal

pub put32-requires : goal.put32-requires
put32-requires c = omega (arith, (tells c.args.state.now c.requires).long)

pub put64-requires : goal.put64-requires
put64-requires c = omega (arith, (tells c.args.state.now c.requires).long)

pub returns : goal.returns
returns c =
    let t = tells c.args.state.now c.requires in
    c.put64.ensures ∙ ap (λ (s : List ℕ). spliced s 4 (bytes_of 8 c.args.next)) c.put32.ensures
    ∙ ap (λ (s : List ℕ). spliced (spliced s 0 (bytes_of 4 c.args.last.0)) 4 (bytes_of 8 c.args.next)) t.written
    ∙ rewritten (session_in c.args.state.now) c.args.last.0 c.args.next (omega (arith, t.long, ap length t.written))
