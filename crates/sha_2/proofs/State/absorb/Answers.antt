use Rattle.std.proofs.Common.{ℕ, ◌-◌, List, take, take-append-drop}
use Rattle.sha_2.proofs.Streaming.{rest_of, took_in_turn}
use Rattle.sha_2.proofs.State.absorb.Goals as goal

pub returns : goal.returns
returns c =
    let part : List ℕ = c.args.part.now in
    let missing = c.block_size.result - c.begun-begun.result in
    rw (rest_of part missing, take-append-drop missing part) at
    (took_in_turn c.args.self.now c.complete.new.self c.whole-2.new.self (take missing part) _ c.complete.ensures c.whole-2.ensures)
