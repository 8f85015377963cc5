-- A request's value, laid field by field.
-- Assumes nothing.
use mathlib.Core.Path.{◌≡◌, sym, ap, subst, ◌∙◌}
use mathlib.Core.List.{List, [], ◌∷◌, ◌++◌, append_assoc}
use Prim.Native.Nat.{ℕ, ◌≤◌}
use lib.ListN.{length}
use Rattle.cells.specs.Text.{codes}
use Rattle.cells.specs.InnerLaid.{Laid}
use Rattle.cells.proofs.Laid.{laid_more}
use Rattle.armor.specs.Numerals.{number_bytes}
use Rattle.armor.specs.Value.{Field, field, field_text, following}
use Rattle.armor.proofs.Laying.{following_more, joined_fields}
use Rattle.reply.specs.Replies.{order_fields}
use Rattle.signed.specs.SignedText.{orders_nonce}
use Rattle.scanner.specs.Requests.{Grant, Message, nonce_field, client_code, client_fields, client_value}

-- the fields after s that come before those of the orders
abbrev later : Grant → List ℕ → ℕ → ℕ → List Field
later g code time last_time =
    field (codes "c") code
    ∷ field (codes "t") (number_bytes time)
    ∷ field (codes "lt") (number_bytes last_time)
    ∷ field (codes "iv") g.iv
    ∷ field (codes "tag") g.tag
    ∷ []

module _ (g : Grant) (m : Message) (code : List ℕ) (nonce time last_time : ℕ) (en : m.nonce ≡ nonce) (et : m.time ≡ time) (el : m.last_time ≡ last_time)
    (ec : client_code g m ≡ code) where
  -- s, and the fields that stand after it
  value_fields : client_value g m
      ≡ field_text (field (codes "s") g.s)
      ++ following (later g code time last_time ++ (order_fields g.hash g.mask g.extra ++ nonce_field (orders_nonce g.mask) nonce))
  unfolding client_value client_fields
  value_fields = rw (ec, et, el, en) (joined_fields (field (codes "s") g.s) _)

  pub laid_value : {out one two left : List ℕ} {next after end : ℕ}
      → Laid out one 0 next (field_text (field (codes "s") g.s) ++ following (later g code time last_time))
      → Laid one two next after (following (order_fields g.hash g.mask g.extra))
      → Laid two left after end (following (nonce_field (orders_nonce g.mask) nonce)) → after ≤ length out → end ≤ length out
      → Laid out left 0 end (client_value g m)
  laid_value {out = out} {left = left} {end = end} p q r room room' =
      let first = field_text (field (codes "s") g.s) in
      let main = later g code time last_time in
      let orders = order_fields g.hash g.mask g.extra in
      let last = nonce_field (orders_nonce g.mask) nonce in
      subst (λ (text : List ℕ). Laid out left 0 end text)
      (append_assoc (first ++ following main) (following orders) (following last)
      ∙ append_assoc first (following main) (following orders ++ following last)
      ∙ ap (λ (l : List ℕ). first ++ (following main ++ l)) (following_more orders last)
      ∙ ap (λ (l : List ℕ). first ++ l) (following_more main (orders ++ last))
      ∙ sym value_fields)
      (laid_more (laid_more p q room) r room')
