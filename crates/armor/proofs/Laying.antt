-- Fields laid one after the other.
-- Assumes nothing.
use mathlib.Core.Path.{◌≡◌, refl, sym, ap, subst, ◌∙◌}
use mathlib.Core.List.{List, [], ◌∷◌, ◌++◌, append_assoc, append-nil}
use Prim.Native.Nat.{ℕ, ◌+◌, ◌≤◌}
use native.Mathlib.Omega.{arith}
use lib.ListN.{length}
use Rattle.cells.specs.Runs.{spliced}
use Rattle.cells.specs.InnerLaid.{Laid}
use Rattle.cells.proofs.Laid.{laid_more}
use Rattle.base_64.specs.Encoding.{encoded}
use Rattle.armor.specs.Pieces.{colon, semicolon}
use Rattle.armor.specs.Value.{Field, field, field_text, joined, texts_of, following}

-- a field's key, colon and base64
pub laid_field : {out one two left : List ℕ} {at next text len : ℕ} (name content : List ℕ) → Laid out one at next name → Laid one two next text (colon ∷ [])
    → left ≡ spliced two text (encoded content) → len ≡ length (encoded content) → text + len ≤ length out
    → Laid out left at (text + len) (field_text (field name content))
unfolding field_text
laid_field {out = out} {left = left} {at = at} {text = text} {len = len} name content p q r e room =
    subst (λ (run : List ℕ). Laid out left at (text + len) run) (append_assoc name (colon ∷ []) (encoded content))
    (laid_more (laid_more p q (omega arith)) (record { is = r; ends = ap (λ (n : ℕ). text + n) e }) room)

-- ; and a field
pub laid_next : {out one left : List ℕ} {at next end : ℕ} (f : Field) → Laid out one at next (semicolon ∷ []) → Laid one left next end (field_text f)
    → end ≤ length out → Laid out left at end (following (f ∷ []))
unfolding following
laid_next {out = out} {left = left} {at = at} {end = end} f p q room =
    subst (λ (text : List ℕ). Laid out left at end (semicolon ∷ text)) (sym (append-nil (field_text f))) (laid_more p q room)

pub following_more : (fs gs : List Field) → following fs ++ following gs ≡ following (fs ++ gs)
unfolding following
following_more [] gs = refl
following_more (f ∷ fs) gs =
    ap (λ (l : List ℕ). semicolon ∷ l)
    (append_assoc (field_text f) (following fs) (following gs) ∙ ap (λ (l : List ℕ). field_text f ++ l) (following_more fs gs))

pub laid_following : {out mid left : List ℕ} {at next end : ℕ} (fs gs : List Field) → Laid out mid at next (following fs)
    → Laid mid left next end (following gs) → end ≤ length out → Laid out left at end (following (fs ++ gs))
laid_following {out = out} {left = left} {at = at} {end = end} fs gs p q room =
    subst (λ (text : List ℕ). Laid out left at end text) (following_more fs gs) (laid_more p q room)

-- fields with ; between them: the first, and those that stand after it
pub joined_fields : (f : Field) (fs : List Field) → joined (texts_of (f ∷ fs)) ≡ field_text f ++ following fs
unfolding joined texts_of following
joined_fields f [] = sym (append-nil (field_text f))
joined_fields f (g ∷ fs) = ap (λ (l : List ℕ). field_text f ++ semicolon ∷ l) (joined_fields g fs)
