-- The two halves of a setup's reply, laid one after the other.
-- Assumes nothing.
use mathlib.Core.Path.{◌≡◌, refl, sym, ap, subst, ◌∙◌}
use mathlib.Core.List.{List, [], ◌∷◌, ◌++◌, append_assoc}
use Prim.Native.Nat.{ℕ, ◌≤◌}
use native.Mathlib.Omega.{arith}
use lib.ListN.{length}
use Rattle.cells.specs.InnerLaid.{Laid}
use Rattle.cells.specs.Text.{codes}
use Rattle.cells.proofs.Laid.{laid_more}
use Rattle.hashes.specs.declared.Hash.{Hash}
use Rattle.armor.specs.Value.{field, field_text, following}
use Rattle.armor.proofs.Laying.{following_more, joined_fields}
use Rattle.reply.specs.Replies.{extra_field, token_fields, order_fields, reply_fields, setup_reply}

-- eah, if there are extra names
pub no_extra : (extra : List ℕ) → length extra ≡ 0 → following (extra_field extra) ≡ []
unfolding following
no_extra [] e = refl
no_extra (b ∷ bs) e = absurd (omega arith)

pub some_extra : (extra : List ℕ) → (length extra ≡ 0 → ⊥) → extra_field extra ≡ field (codes "eah") extra ∷ []
some_extra [] more = absurd (more refl)
some_extra (b ∷ bs) more = refl

-- s, and the fields that stand after it
pub setup_fields_lem : (s iv tag key : List ℕ) (hash : Hash) (mask : ℕ) (extra : List ℕ)
    → setup_reply s iv tag key hash mask extra ≡ field_text (field (codes "s") s) ++ following (token_fields iv tag key ++ order_fields hash mask extra)
unfolding setup_reply reply_fields
setup_fields_lem s iv tag key hash mask extra = joined_fields (field (codes "s") s) (token_fields iv tag key ++ order_fields hash mask extra)

-- s and the token's other fields, and then the orders', are the reply
pub laid_setup : {out mid left : List ℕ} {next end : ℕ} (s iv tag key : List ℕ) (hash : Hash) (mask : ℕ) (extra : List ℕ)
    → Laid out mid 0 next (field_text (field (codes "s") s) ++ following (token_fields iv tag key)) → Laid mid left next end (following (order_fields hash mask extra))
    → end ≤ length out → Laid out left 0 end (setup_reply s iv tag key hash mask extra)
laid_setup {out = out} {left = left} {end = end} s iv tag key hash mask extra p q room =
    let first = field_text (field (codes "s") s) in
    subst (λ (text : List ℕ). Laid out left 0 end text)
    (append_assoc first (following (token_fields iv tag key)) (following (order_fields hash mask extra))
    ∙ ap (λ (l : List ℕ). first ++ l) (following_more (token_fields iv tag key) (order_fields hash mask extra))
    ∙ sym (setup_fields_lem s iv tag key hash mask extra))
    (laid_more p q room)
