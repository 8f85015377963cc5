use Rattle.std.proofs.Common.{◌≡◌, ℕ, List, [], length, get_or, take, refl, ap, ◌∙◌, subst, arith, rules}
use Rattle.std.specs.Int.Bits.{bit_xor}
use Rattle.std.proofs.lemmas.List.{get_or_default, length-take}
use Rattle.std.proofs.lemmas.List.Edits.{map_over_more}
use Rattle.sha_2.specs.Hash.{block_size, sha2}
use Rattle.sha_2.specs.InnerTaken.{Taken}
use Rattle.hmac.specs.Hmac.{key_block, xored}
use Rattle.hmac.proofs.KeyBlock.{front_xored, xored_all}
use Rattle.hmac.proofs.keyed.Goals as goal

pub loop-b-init : goal.loop-b-init
unfolding xored
loop-b-init c = refl

pub loop-b-preserved : goal.loop-b-preserved
unfolding xored
loop-b-preserved c =
    let long : length c.key_block-block.result ≡ 128 = search rules in
    let kept : length c.loop-b.b-items ≡ 128 = search rules in
    map_over_more (λ b. bit_xor b c.args.pad) c.key_block-block.result c.loop-b.b-items c.loop-b.b-index (get_or c.loop-b.b-items c.loop-b.b-index 0) (omega arith) c.loop-b.invariant
    (get_or_default c.loop-b.b-items c.loop-b.b-index 0 _ (omega arith))

pub returns : goal.returns
returns c =
    let h = c.args.hash in
    let block : List ℕ = c.key_block-block.result in
    let long : length block ≡ 128 = search rules in
    let fresh = c.new-state.ensures in
    let done : c.loop-b.b-items ≡ xored c.args.pad block = c.loop-b.invariant ∙ xored_all c.args.pad block c.loop-b.b-index (omega arith) in
    let first : take c.block_size.result c.loop-b.b-items ≡ xored c.args.pad (key_block (sha2 h) (block_size h) c.args.key.now) =
    rw (c.block_size.ensures, done) (front_xored c.args.pad (block_size h) block ∙ ap (xored c.args.pad) c.key_block-block.ensures)
    in (
      omega (arith, c.absorb.ensures.counted, fresh.0, c.loop-b-test.array_long, length-take c.block_size.result c.loop-b.b-items),
      subst (Taken h c.absorb.new.self) first (c.absorb.ensures.appended h [] fresh.1),
    )
