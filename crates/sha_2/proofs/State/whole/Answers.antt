use Rattle.std.proofs.Common.{◌≡◌, ℕ, ◌*◌, ◌/◌, ◌≤◌, List, length, drop, refl, ap, ◌∙◌, ap₂, rules}
use Rattle.cells.specs.Runs.{spliced}
use Rattle.hashes.specs.declared.Hash.{Hash}
use Rattle.sha_2.specs.Hash.{block_size, after_blocks}
use Rattle.sha_2.proofs.Streaming.{counts, rest_of, took_whole}
use Rattle.sha_2.proofs.State.whole.Goals as goal

-- the whole blocks' bytes, as the code counts them
counted : (h : Hash) (n size blocks : ℕ) → size ≡ block_size h → blocks ≡ n / block_size h → size * blocks ≤ n
counted h n size blocks e f = rw (e, f) (counts h n 0).whole

pub returns : goal.returns
returns c =
    let self = c.args.self.now in
    let part : List ℕ = c.args.part.now in
    let full : length self.tail ≡ 128 = search rules in
    took_whole self _ part full refl refl c.requires.0
    (λ fit. c.after_blocks-self.ensures fit ∙ ap (after_blocks self.hash self.value part) c.blocks_in-n.ensures)
    (c.put_at.ensures.is
    ∙ ap (spliced self.tail 0) (rest_of part _)
    ∙ ap₂ (λ (x y : ℕ). spliced self.tail 0 (drop (x * y) part)) c.block_size.ensures c.blocks_in-n.ensures)
