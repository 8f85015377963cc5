use Rattle.std.proofs.Common.{◌≡◌, ℕ, List, ◌++◌, take, ap, ◌∙◌}
use Rattle.hashes.specs.Hashes.{digest_size}
use Rattle.sha_2.specs.Hash.{block_size, sha2}
use Rattle.hmac.specs.Hmac.{outer_key, hmac}
use Rattle.hmac.proofs.finish.Goals as goal

pub returns : goal.returns
unfolding hmac
returns c h text taken =
    let key : List ℕ = c.args.key.now in
    let hashed : take c.size.result c.finish-inner.result ≡ sha2 h _ =
    ap (λ n. take n c.finish-inner.result) (c.size.ensures ∙ ap digest_size taken.is) ∙ c.finish-inner.ensures h _ taken
    in
    c.finish.ensures h _ (c.absorb.ensures.appended h _ (rw taken.is at c.keyed-outer.ensures.1))
    ∙ ap (λ l. sha2 h (outer_key (sha2 h) (block_size h) key ++ l)) hashed
