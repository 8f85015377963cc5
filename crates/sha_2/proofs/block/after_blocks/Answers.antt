use Rattle.std.proofs.Common.{ℕ, List, length, sym, refl, ap, ◌∙◌, ap₂, add-one, arith}
use Rattle.std.proofs.lemmas.List.{length_push}
use Rattle.std.specs.Slice.Iter.{chunks_exact_rest, chunks_exact_size}
use Rattle.sha_2.specs.Block.{after_block}
use Rattle.sha_2.specs.Hash.{after_blocks}
use Rattle.sha_2.specs.Numbers.{Numbers}
use Rattle.sha_2.proofs.Blocks.{all_left, block_wide, next, done}
use Rattle.sha_2.proofs.block.after_blocks.Goals as goal

pub loop-block-init : goal.loop-block-init
unfolding after_blocks
loop-block-init g c =
    let made = c.into_iter-block-iterator.ensures.into_iter_gives in
    record {
      within = omega arith;
      size = ap chunks_exact_size made ∙ c.chunks_exact-block-items.ensures.size ∙ block_wide g.W.Word.hash _ c.width-size.ensures;
      rest = ap chunks_exact_rest made ∙ c.chunks_exact-block-items.ensures.rest ∙ all_left g.W.Word.hash c.args.m.now c.args.n _ c.width-size.ensures;
      value = refl;
    }

pub loop-block-preserved : goal.loop-block-preserved
unfolding after_blocks
loop-block-preserved g c =
    let h = g.W.Word.hash in
    let inv = c.loop-block.invariant in
    let steps = c.in-Some.ensures.steps in
    let more = next h c.args.m.now c.args.n (length c.loop-block.yielded) c.in-Some.block.now _ c.requires inv.within (sym inv.rest ∙ steps.1.0) (steps.1.1 ∙ inv.size) in
    rw length_push
    (record {
      within = omega (arith, more.below);
      size = steps.0 ∙ inv.size;
      rest = more.rests;
      value = rw add-one (c.after_block-x.ensures ∙ ap₂ (after_block h) inv.value more.is);
    })

pub returns : goal.returns
returns g c fits =
    let h = g.W.Word.hash in
    let m : List ℕ = c.args.m.now in
    let inv = c.loop-block.invariant in
    let all = done h m c.args.n (length c.loop-block.yielded) c.requires inv.within (rw (inv.rest, inv.size) at c.in-None.ensures.steps.1.0) in
    c.widened.ensures ∙ inv.value ∙ ap₂ (λ (v : Numbers) (i : ℕ). after_blocks h v m i) (c.narrowed-x.ensures fits) all
