-- Three texts side by side are the netstring.
use Rattle.std.proofs.Common.{◌≡◌, ap, subst, ◌∙◌, List, [], ◌∷◌, ◌++◌, length, ◌+◌, ◌≤◌, ℕ, arith}
use Rattle.cells.proofs.Laid.{laid_more}
use Rattle.cells.specs.InnerLaid.{Laid}
use Rattle.netstring.specs.Netstring.{comma, netstring}
use Rattle.netstring.specs.InnerOpening.{opening}
use Rattle.netstring.proofs.Laid.{netstring_pieces, length_pieces}
use Rattle.netstring.proofs.write.Goals as goal

-- the pieces have room
room : (part : List ℕ) {piece : List ℕ} (at room : ℕ) → piece ≡ opening (length part) → at + length (netstring part) ≤ room
    → at + length piece + length part + 1 ≤ room
room part at n e h = omega (arith, length_pieces part e)

pub put_at-contents-requires : goal.put_at-contents-requires
put_at-contents-requires c = omega (arith, room c.args.part.now c.args.at _ (c.as_slice.ensures ∙ c.opening.ensures) c.requires)

pub put_at-end-requires : goal.put_at-end-requires
put_at-end-requires c = omega (arith, room c.args.part.now c.args.at _ (c.as_slice.ensures ∙ c.opening.ensures) c.requires)

pub put_at-requires : goal.put_at-requires
put_at-requires c = omega (arith, room c.args.part.now c.args.at _ (c.as_slice.ensures ∙ c.opening.ensures) c.requires)

pub returns : goal.returns
returns c =
    let part = c.args.part.now in
    let piece = c.as_slice.ensures ∙ c.opening.ensures in
    let h = room part c.args.at _ piece c.requires in
    subst (Laid _ _ _ _) (ap (λ (l : List ℕ). (l ++ part) ++ (comma ∷ [])) piece ∙ netstring_pieces part)
    (laid_more (laid_more c.put_at-contents.ensures c.put_at-end.ensures (omega arith)) c.put_at.ensures (omega arith))
