use Rattle.std.proofs.Common.{arith, map}
use Rattle.std.proofs.lemmas.List.{map-set}
use Rattle.sha_2.specs.Numbers.{numbers}
use Rattle.sha_2.proofs.Rounds.{early, first_turned}
use Rattle.sha_2.proofs.block.first_turn.Goals as goal

pub returns : goal.returns
returns g c v0 before =
    let value = g.W.Word.value in
    let w = c.args.w.now in
    let t = c.args.t in
    rw map-set
    (first_turned g.W.Word.hash c.args.block.now v0 t (numbers value c.args.v) (numbers value c.round.result) (map value w) (value c.constant.result) (value c.load-x.result) before
    c.constant.ensures
    c.round.ensures
    (early g.W.Word.hash (omega arith))
    c.requires.0
    (rw c.width.ensures at c.load-x.ensures))
