-- A netstring that a run begins with, or does not, by the length that it begins with.
-- Assumes nothing.
use mathlib.Core.List.{List, ◌∷◌, ◌++◌}
use mathlib.Core.Path.{◌≡◌, sym, ap, ap₂, ◌∙◌}
use Prim.Native.Nat.{ℕ, ◌<◌}
use native.Mathlib.Omega.{arith}
use lib.ListN.{length, drop, length-append, take-append-drop}
use Rattle.std.specs.List.{IsSplitAt}
use lib.Seq.{drop-append_seam}
use Rattle.cells.specs.Decimal.{decimal}
use Rattle.netstring.specs.Netstring.{colon, comma}
use Rattle.netstring.specs.InnerReading.{LengthAt, NoLength, PartAt, NoPart}
use Rattle.cells.proofs.Digits.{decimal_digits, decimal_injective}
use Rattle.netstring.proofs.Determined.{at_colon, netstring_then}

pub no_length : (run : List ℕ) → NoLength run → NoPart run
no_length run none bytes rest text =
    let whole : run ≡ decimal (length bytes) ++ (colon ∷ bytes ++ (comma ∷ rest)) = text ∙ netstring_then bytes rest in
    none (length bytes) (bytes ++ (comma ∷ rest)) (omega (arith, simp length-append at (ap length whole))) whole

module _ (run : List ℕ) (n : ℕ) (after : List ℕ) (known : LengthAt run n after) where
  -- a netstring there has that length, and its bytes and its comma stand after the colon
  bytes_there : (bytes rest : List ℕ) → PartAt run bytes rest → (n ≡ length bytes) × (after ≡ bytes ++ (comma ∷ rest))
  bytes_there bytes rest text =
      let both =
      at_colon (decimal_digits n) (decimal_digits (length bytes)) after (bytes ++ (comma ∷ rest)) (sym known ∙ text ∙ netstring_then bytes rest)
      in
      (decimal_injective n (length bytes) both.0, both.1)

  pub too_short : length after < n → NoPart run
  too_short h bytes rest text =
      let there = bytes_there bytes rest text in
      omega (arith, there.0, simp length-append at (ap length there.1))

  module _ (part tail : List ℕ) (at : IsSplitAt after n part tail) where
    size : length part ≡ n
    size = at.3

    cut : after ≡ part ++ tail
    cut = sym (take-append-drop n after) ∙ ap₂ ◌++◌ (sym at.1) (sym at.2)

    pub no_comma_lem : ((rest : List ℕ) → tail ≡ comma ∷ rest → ⊥) → NoPart run
    no_comma_lem none bytes rest text =
        let there = bytes_there bytes rest text in
        none rest
        (sym (drop-append_seam part tail) ∙ ap (drop (length part)) (sym cut ∙ there.1)
        ∙ ap (λ (k : ℕ). drop k (bytes ++ (comma ∷ rest))) (size ∙ there.0) ∙ drop-append_seam bytes (comma ∷ rest))

    pub part_found : (rest : List ℕ) → tail ≡ comma ∷ rest → PartAt run part rest
    part_found rest e =
        known ∙ ap₂ (λ (k : ℕ) (l : List ℕ). decimal k ++ (colon ∷ l)) (sym size) (cut ∙ ap (λ (l : List ℕ). part ++ l) e) ∙ sym (netstring_then part rest)
