use Rattle.std.proofs.Common.{◌≡◌, ℕ, length, refl, ap, ◌∙◌, rules}
use Rattle.cells.specs.Runs.{spliced}
use Rattle.sha_2.proofs.Streaming.{took_complete}
use Rattle.sha_2.proofs.State.complete.Goals as goal

pub returns : goal.returns
returns c =
    let self = c.args.self.now in
    let full : length self.tail ≡ 128 = search rules in
    took_complete self _ c.args.part.now full refl refl c.requires.0
    (c.put_at.ensures.is ∙ ap (λ (x : ℕ). spliced self.tail x c.args.part.now) c.begun-begun.ensures)
    c.after_blocks-self.ensures
