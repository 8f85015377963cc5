use Rattle.std.proofs.Common.{◌≡◌, ℕ, ◌-◌, ◌%◌, ◌<◌, List, length, map, get_or, sym, arith}
use Rattle.std.proofs.lemmas.List.{length-map, map-set, get_or-map}
use Rattle.sha_2.specs.Numbers.{numbers}
use Rattle.sha_2.proofs.Rounds.{later_turned}
use Rattle.sha_2.proofs.block.turn.Goals as goal

-- the number of a word that is read
read : {W : Type 0} (value : W → ℕ) (w : List W) (i : ℕ) (x : W) → length (map value w) ≡ 16 → i < 16 → value (get_or w i x) ≡ get_or (map value w) i 0
read value w i x long below = sym (get_or-map value w i x 0 (omega (arith, long, length-map w value)))

pub returns : goal.returns
returns g c block v0 before =
    let value = g.W.Word.value in
    let w = c.args.w.now in
    let t = c.args.t in
    let a = read value w ((t - 2) % 16) c.index-w-t.result before.long (omega arith) in
    let b = read value w ((t - 7) % 16) c.index-w-t-2.result before.long (omega arith) in
    let d = read value w ((t - 15) % 16) c.index-w-t-3.result before.long (omega arith) in
    let e = read value w ((t - 16) % 16) c.index-w-t-4.result before.long (omega arith) in
    rw map-set
    (later_turned g.W.Word.hash block v0 t (numbers value c.args.v) (numbers value c.round.result) (map value w) (value c.constant.result) (value c.mix-x.result) before
    c.constant.ensures
    c.round.ensures
    c.requires.1
    c.requires.0
    (rw (a, b, d, e) at c.mix-x.ensures))
