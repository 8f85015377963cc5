-- Three netstrings side by side.
use Rattle.std.proofs.Common.{◌≡◌, ◌≤◌, ◌<◌, ◌^◌, ℕ, refl, sym, ap, ◌∙◌, List, length, arith, rules}
use lib.Seq.{length-take-le}
use Rattle.cells.specs.Decimal.{decimal}
use Rattle.netstring.specs.Netstring.{netstring}
use Rattle.token.proofs.Text.{Sized, short, laid_text}
use Rattle.token.proofs.text_of.Goals as goal

sized : {key id : List ℕ} {expiry : ℕ} → length key ≡ 32 → (1 ≤ length id) × (length id ≤ 64) → expiry < 2 ^ 32 → Sized key id expiry
sized key id expiry = record { key_size = key; id_some = id.0; id_fits = id.1; in_range = expiry }

pub write-key_end-requires : goal.write-key_end-requires
write-key_end-requires c = omega (arith, short c.args.key.now c.args.id.now c.args.expiry.0 (sized c.told-key c.requires (search rules)))

pub write-id_end-requires : goal.write-id_end-requires
write-id_end-requires c = omega (arith, short c.args.key.now c.args.id.now c.args.expiry.0 (sized c.told-key c.requires (search rules)))

pub write-end-requires : goal.write-end-requires
write-end-requires c =
    let shown : c.as_slice.result.now ≡ decimal c.args.expiry.0 = search rules in
    omega (arith, short c.args.key.now c.args.id.now c.args.expiry.0 (sized c.told-key c.requires (search rules)), ap (λ (l : List ℕ). length (netstring l)) shown)

pub slice_bounds-text-end : goal.slice_bounds-text-end
slice_bounds-text-end c =
    let shown : c.as_slice.result.now ≡ decimal c.args.expiry.0 = search rules in
    omega (arith, short c.args.key.now c.args.id.now c.args.expiry.0 (sized c.told-key c.requires (search rules)), ap (λ (l : List ℕ). length (netstring l)) shown)

pub slice_bounds-of-end : goal.slice_bounds-of-end
slice_bounds-of-end c =
    let shown : c.as_slice.result.now ≡ decimal c.args.expiry.0 = search rules in
    sym (length-take-le _ _
    (omega (arith, short c.args.key.now c.args.id.now c.args.expiry.0 (sized c.told-key c.requires (search rules)), ap (λ (l : List ℕ). length (netstring l)) shown)))

pub returns : goal.returns
returns c =
    let shown : c.as_slice.result.now ≡ decimal c.args.expiry.0 = search rules in
    c.of.ensures
    ∙ laid_text (record { key = c.args.key.now; id = c.args.id.now; expiry = c.args.expiry.0 }) _
    (sized c.told-key c.requires (search rules)) refl shown c.write-key_end.ensures c.write-id_end.ensures c.write-end.ensures
