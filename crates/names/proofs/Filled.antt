-- The known names that a mask chooses and then the extra ones, entered on an empty sheet, are the covered names.
-- Assumes nothing.
use mathlib.Core.Path.{◌≡◌, refl, ap, ◌∙◌}
use mathlib.Core.List.{List, []}
use mathlib.Core.Bool.{true}
use Prim.Native.Nat.{ℕ, ◌+◌, ◌-◌, ◌/◌, ◌^◌, ◌<◌}
use native.Mathlib.Omega.{arith}
use borrow.Author.Tests.{lt-ltb, le-ltb}
use lib.ListN.{length, replicate, length-append, length-replicate, get_or-replicate}
use Rattle.names.specs.Extra.{extra_names, good_extra}
use Rattle.names.specs.Covered.{chosen, covered_names}
use Rattle.names.specs.InnerWalk.{Known}
use Rattle.names.specs.InnerSheet.{latest, name_at, Sheet, From, Enters}
use Rattle.names.proofs.Walk.{chosen_all, covered_names_lem}
use Rattle.names.proofs.Sizes.{short_extra, few_names}
use Rattle.names.proofs.Joined.{known_size}

known_from : (known extra : List ℕ) → length known < 1024 → From known extra known 0
known_from known extra h at l =
    let low = lt-ltb (0 + at) 1024 (omega arith) in ((omega arith, rw low (omega arith)), rw low (ap (name_at known) (omega arith)))

extra_from : (known extra : List ℕ) → length extra < 1024 → From known extra extra 1024
extra_from known extra h at l =
    let high = le-ltb (1024 + at) 1024 (omega arith) in ((omega arith, rw high (omega arith)), rw high (ap (name_at extra) (omega arith)))

sheet_empty : (known extra : List ℕ) → Sheet known extra (replicate 192 0) []
unfolding latest
sheet_empty known extra =
    record {
      size = length-replicate {A = ℕ} 192 0;
      few = omega arith;
      heads = λ k h. get_or-replicate 192 k 0 0 (omega arith);
      links = λ i h. absurd (omega arith);
      starts = λ i h. absurd (omega arith);
      names = λ i h. absurd (omega arith);
    }

module _ (known : List ℕ) (mask : ℕ) (extra : List ℕ) (is : Known known) (good : good_extra extra ≡ true) where
  pub filled_size : length (covered_names mask extra) ≡ length (chosen (mask / 2) (extra_names known)) + length (extra_names extra)
  filled_size = ap length (covered_names_lem mask extra known is) ∙ length-append (chosen (mask / 2) (extra_names known)) (extra_names extra)

  -- 64 bits choose all of at most eight names
  pub filled_all : chosen (2 ^ 64 - 1) (extra_names extra) ≡ extra_names extra
  filled_all = chosen_all 64 (extra_names extra) (omega (arith, few_names extra good))

  pub filled : {sheet after : List ℕ} (count : ℕ) → Enters known (chosen (mask / 2) (extra_names known)) 0 0 (replicate 192 0) sheet
      → count ≡ 0 + length (chosen (mask / 2) (extra_names known))
      → Enters extra (chosen (2 ^ 64 - 1) (extra_names extra)) 1024 count sheet after → Sheet known extra after (covered_names mask extra)
  filled count first size second =
      let on = first known extra [] (known_from known extra (omega (arith, known_size known is))) refl (sheet_empty known extra) in
      rw (covered_names_lem mask extra known is, ← filled_all)
      (second known extra (chosen (mask / 2) (extra_names known)) (extra_from known extra (omega (arith, short_extra extra good))) (omega arith) on)
