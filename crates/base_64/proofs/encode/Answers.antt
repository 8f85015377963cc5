-- `encode` meets its contract.
-- Assumes nothing.
use Rattle.std.proofs.Common.{◌≡◌, ◌*◌, ◌++◌, length, ap₂, arith, drop, List, ℕ, length-take}
use Rattle.cells.specs.Runs.{fronted}
use Rattle.base_64.specs.Encoding.{encoded}
use Rattle.base_64.proofs.Encoded.{length_encoded}
use Rattle.base_64.proofs.encode.Goals as goal

pub spell-requires : goal.spell-requires
spell-requires c = omega (arith, length_encoded c.args.bytes.now, length-take {A = ℕ})

pub returns : goal.returns
unfolding fronted
returns c =
    let size : c.div_ceil-n.result * 4 ≡ length (encoded c.args.bytes.now) = omega (arith, length_encoded c.args.bytes.now) in
    (size, ap₂ (λ (l : List ℕ) (n : ℕ). l ++ drop n c.args.out.now) c.spell.ensures size)
