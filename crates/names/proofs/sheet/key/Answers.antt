-- Only what is left of the length by 64 counts.
use Rattle.std.proofs.Common.{◌≡◌, ◌+◌, ◌*◌, ◌%◌, ℕ, List, [], ◌∷◌, length, get_or, refl, arith, ◌∙◌}
use Rattle.names.specs.Names.{lower}
use Rattle.names.specs.InnerSheet.{key_of}
use Rattle.names.proofs.Same.{lower_is}
use Rattle.names.proofs.sheet.key.Goals as goal

no_bytes : (name : List ℕ) → length name ≡ 0 → 0 ≡ key_of name
unfolding key_of
no_bytes [] h = refl
no_bytes (b ∷ bs) h = absurd (omega arith)

some_bytes : (name : List ℕ) → (length name ≡ 0 → ⊥) → (length name % 64 + 20 * lower (get_or name 0 0)) % 64 ≡ key_of name
unfolding key_of
some_bytes [] h = absurd (h refl)
some_bytes (b ∷ bs) h = omega arith

pub returns-then-name-eq0 : goal.returns-then-name-eq0
returns-then-name-eq0 c = (no_bytes _ c.if-name-eq0.true, omega arith)

pub returns : goal.returns
returns c =
    let low : c.to_ascii_lowercase.result ≡ lower (get_or c.args.name.now 0 0) = c.to_ascii_lowercase.ensures.value ∙ lower_is _ in
    (rw low (some_bytes c.args.name.now c.if-name-eq0.false), omega arith)
