use Rattle.std.proofs.Common.{◌≡◌, ℕ, ◌*◌, List, ap, ◌∙◌, arith}
use Rattle.cells.specs.Runs.{spliced}
use Rattle.sha_2.specs.Word.{width}
use Rattle.sha_2.specs.Hash.{digest}
use Rattle.sha_2.specs.Numbers.{numbers}
use Rattle.sha_2.proofs.Output.{laid_out_lem}
use Rattle.sha_2.proofs.block.digest.Goals as goal

-- a word that is put at a place which is its number times its width
placed : (o bytes : List ℕ) {out : List ℕ} (at place : ℕ) → out ≡ spliced o at bytes → at ≡ place → out ≡ spliced o place bytes
placed o bytes at place e p = e ∙ ap (λ x. spliced o x bytes) p

pub returns : goal.returns
returns g c fits =
    let h = g.W.Word.hash in
    laid_out_lem h (numbers g.W.Word.value c.narrowed-x.result)
    (placed _ _ _ (width h * 0) c.put.ensures (omega arith))
    (placed _ _ _ (width h * 1) c.put-2.ensures (omega (arith, c.width-size.ensures)))
    (placed _ _ _ (width h * 2) c.put-3.ensures (omega (arith, c.width-size.ensures)))
    (placed _ _ _ (width h * 3) c.put-4.ensures (omega (arith, c.width-size.ensures)))
    (placed _ _ _ (width h * 4) c.put-5.ensures (omega (arith, c.width-size.ensures)))
    (placed _ _ _ (width h * 5) c.put-6.ensures (omega (arith, c.width-size.ensures)))
    (placed _ _ _ (width h * 6) c.put-7.ensures (omega (arith, c.width-size.ensures)))
    (placed _ _ _ (width h * 7) c.put-8.ensures (omega (arith, c.width-size.ensures)))
    ∙ ap (digest h) (c.narrowed-x.ensures fits)
