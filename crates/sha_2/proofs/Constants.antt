-- The constants of SHA-256 are the first halves of the first sixty-four of SHA-512: both are the first bits of the same cube roots.
-- Assumes nothing.
use Rattle.std.proofs.Common.{◌≡◌, ℕ, ◌/◌, ◌^◌, ◌<◌, length, map, get_or, take, sym, refl, ap, ◌∙◌, arith}
use Rattle.std.proofs.lemmas.List.{get_or-map, get_or-take}
use Rattle.hashes.specs.declared.Hash.TheVariants.{Sha256, Sha512}
use Rattle.sha_2.specs.Constants.{K}

halves : K Sha256 ≡ map (λ k. k / 2 ^ 32) (take 64 (K Sha512))
unfolding K
halves = refl

many : length (take 64 (K Sha512)) ≡ 64
unfolding K
many = refl

pub first_half : (t : ℕ) → t < 64 → get_or (K Sha512) t 0 / 2 ^ 32 ≡ get_or (K Sha256) t 0
first_half t below =
    ap (λ k. k / 2 ^ 32) (sym (get_or-take 64 (K Sha512) t 0 below))
    ∙ sym (get_or-map (λ k. k / 2 ^ 32) (take 64 (K Sha512)) t 0 0 (omega (arith, many)))
    ∙ ap (λ ks. get_or ks t 0) (sym halves)
