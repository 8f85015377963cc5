use Rattle.std.proofs.Common.{◌≡◌, ◌<◌, ◌≤◌, ℕ, List, [], length, take, ap, ◌∙◌, arith, lt-ltb, le-ltb}
use Rattle.sha_2.specs.Hash.{block_size, sha2}
use Rattle.sha_2.proofs.Output.{length_sha2}
use Rattle.sha_2.proofs.Streaming.{counts}
use Rattle.hmac.specs.Hmac.{key_block}
use Rattle.hmac.proofs.KeyBlock.{front_filled, digest_within}
use Rattle.hmac.proofs.key_block.Goals as goal

pub returns-then-block_size-key : goal.returns-then-block_size-key
unfolding key_block
returns-then-block_size-key c =
    let h = c.args.hash in
    let key : List ℕ = c.args.key.now in
    let hashed : take c.size.result c.finish.result ≡ sha2 h key =
    ap (λ (n : ℕ). take n c.finish.result) c.size.ensures ∙ c.finish.ensures h key (c.absorb.ensures.appended h [] c.new-state.ensures.1)
    in
    let long : block_size h < length key = omega (arith, c.block_size.ensures) in
    rw (c.put_front.ensures, hashed, lt-ltb (block_size h) (length key) long)
    (front_filled (block_size h) 128 (sha2 h key) (omega (arith, length_sha2 h key, digest_within h)) (counts h 0 0).fits)

pub returns-else-block_size-key : goal.returns-else-block_size-key
unfolding key_block
returns-else-block_size-key c =
    let h = c.args.hash in
    let key : List ℕ = c.args.key.now in
    let short : length key ≤ block_size h = omega (arith, c.block_size.ensures) in
    rw (c.put_front-else-block_size-key.ensures, le-ltb (block_size h) (length key) short) (front_filled (block_size h) 128 key short (counts h 0 0).fits)
