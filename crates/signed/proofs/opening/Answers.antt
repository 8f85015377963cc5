-- The parts are taken in one after the other, and there is room for each.
use Rattle.std.proofs.Common.{◌≡◌, ◌∷◌, [], ◌+◌, ◌<◌, ◌^◌, ℕ, ap, arith}
use Rattle.hashes.specs.Hashes.{hash_mask}
use Rattle.armor.specs.Numerals.{number_bytes, mask_bytes}
use Rattle.signed.specs.SignedText.{carried, nonce_of}
use Rattle.signed.proofs.Streaming.{size, opening_size, took_then}
use Rattle.signed.proofs.opening.Goals as goal
use Rattle.signed.proofs.opening.Goals.{Start, After-mask}

room : (s : Start) → s.args.state.now.length + size (s.args.method.now ∷ []) + size (mask_bytes (hash_mask s.args.hash) ∷ []) + size (mask_bytes s.args.covered.now.mask ∷ [])
    + size (s.args.covered.now.extra.now ∷ []) + size (carried (nonce_of s.args.covered.now.mask s.args.n.0)) + size (number_bytes s.args.t.0 ∷ []) + size (number_bytes s.args.lt.0 ∷ []) < 2 ^ 61
room s = omega (arith, s.requires, opening_size s.args.hash s.args.covered.now.mask s.args.n.0 s.args.t.0 s.args.lt.0 s.args.method.now s.args.covered.now.extra.now)

pub absorb-requires : goal.absorb-requires
absorb-requires c = omega (arith, room (goal.at.absorb-requires c).Start)

hashed : (c : After-mask) → size (mask_bytes c.mask.result ∷ []) ≡ size (mask_bytes (hash_mask c.args.hash) ∷ [])
hashed c = ap (λ (m : ℕ). size (mask_bytes m ∷ [])) c.mask.ensures

pub absorb_mask-requires : goal.absorb_mask-requires
absorb_mask-requires c =
    omega (arith, room (goal.at.absorb_mask-requires c).Start, hashed (goal.at.absorb_mask-requires c).After-mask, c.absorb.ensures.counted)

pub absorb_mask-requires-2 : goal.absorb_mask-requires-2
absorb_mask-requires-2 c =
    let at = goal.at.absorb_mask-requires-2 c in omega (arith, room at.Start, hashed at.After-mask, c.absorb.ensures.counted, c.absorb_mask.ensures.counted)

pub absorb-requires-2 : goal.absorb-requires-2
absorb-requires-2 c =
    let at = goal.at.absorb-requires-2 c in
    omega (arith, room at.Start, hashed at.After-mask, c.absorb.ensures.counted, c.absorb_mask.ensures.counted, c.absorb_mask-2.ensures.counted)

pub absorb_nonce-requires : goal.absorb_nonce-requires
absorb_nonce-requires c =
    let at = goal.at.absorb_nonce-requires c in
    omega (
      arith,
      room at.Start,
      hashed at.After-mask,
      c.absorb.ensures.counted,
      c.absorb_mask.ensures.counted,
      c.absorb_mask-2.ensures.counted,
      c.absorb-2.ensures.counted,
    )

pub absorb_number-requires : goal.absorb_number-requires
absorb_number-requires c =
    let at = goal.at.absorb_number-requires c in
    omega (
      arith,
      room at.Start,
      hashed at.After-mask,
      c.absorb.ensures.counted,
      c.absorb_mask.ensures.counted,
      c.absorb_mask-2.ensures.counted,
      c.absorb-2.ensures.counted,
      c.absorb_nonce.ensures.counted,
    )

pub absorb_number-requires-2 : goal.absorb_number-requires-2
absorb_number-requires-2 c =
    let at = goal.at.absorb_number-requires-2 c in
    omega (
      arith,
      room at.Start,
      hashed at.After-mask,
      c.absorb.ensures.counted,
      c.absorb_mask.ensures.counted,
      c.absorb_mask-2.ensures.counted,
      c.absorb-2.ensures.counted,
      c.absorb_nonce.ensures.counted,
      c.absorb_number.ensures.counted,
    )

pub returns : goal.returns
returns c =
    took_then (_ ∷ []) _ c.absorb.ensures
    (took_then (_ ∷ []) _ (rw c.mask.ensures at c.absorb_mask.ensures)
    (took_then (_ ∷ []) _ c.absorb_mask-2.ensures
    (took_then (_ ∷ []) _ c.absorb-2.ensures
    (took_then (carried (nonce_of c.args.covered.now.mask c.args.n.0)) _ c.absorb_nonce.ensures
    (took_then (_ ∷ []) (_ ∷ []) c.absorb_number.ensures c.absorb_number-2.ensures)))))
