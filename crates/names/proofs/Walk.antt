-- Laws of the names of a run, one after the other.
-- Assumes nothing.
use mathlib.Core.Path.{◌≡◌, refl, sym, ap, ap₂, ◌∙◌}
use mathlib.Core.List.{List, [], ◌∷◌, ◌++◌}
use mathlib.Core.Bool.{Bool, true, false, not, cond}
use Prim.Native.Nat.{ℕ, zero, suc, ◌+◌, ◌-◌, ◌/◌, ◌%◌, ◌^◌, ◌≤◌, ◌<◌}
use native.Mathlib.Nat.{pow-suc}
use native.Mathlib.Omega.{arith}
use borrow.Author.Tests.{le-leb, lt-leb, eq-eqb}
use lib.Dec.{eqb, leb-suc-suc}
use lib.Pow.{pow_pos}
use lib.ListN.{length, take, drop, length-drop}
use lib.Seq.{take_all}
use denote.Ref.{Bor}
use mathlib.Core.Logic.{◌⊎◌, ⊎_elim}
use Rattle.std.specs.Option.{MatchOption}
use Rattle.std.specs.List.{slice_range}
use Rattle.std.specs.Prelude.{Option, Some, None}
use Rattle.cells.specs.Spans.{leading, Spans}
use Rattle.cells.specs.Runs.{cut}
use Rattle.names.specs.Names.{header_names}
use Rattle.names.specs.Extra.{comma, onto_first, names_in, extra_names}
use Rattle.names.specs.Covered.{chosen, covered_names}
use Rattle.names.specs.InnerWalk.{Known, no_comma, names_from, left_of}
use Rattle.names.proofs.Sizes.{no_more, known_names}

pub names_start : (run : List ℕ) → names_from run 0 ≡ names_in run
unfolding names_from
names_start run = rw (le-leb 0 (length run) (omega arith))

pub names_past : (run : List ℕ) (at : ℕ) → length run < at → names_from run at ≡ []
unfolding names_from
names_past run at h = rw (lt-leb at (length run) h)

names_within : (run : List ℕ) (at : ℕ) → at ≤ length run → names_from run at ≡ names_in (drop at run)
unfolding names_from
names_within run at h = rw (le-leb at (length run) h)

names_tail : (b : ℕ) (bs : List ℕ) (n : ℕ) → names_from (b ∷ bs) (suc n) ≡ names_from bs n
unfolding names_from
names_tail b bs n = rw (leb-suc-suc n (length bs))

names_in_first : (xs : List ℕ) → names_in xs ≡ take (leading no_comma xs) xs ∷ names_from xs (suc (leading no_comma xs))
unfolding names_in leading names_from
names_in_first [] = refl
names_in_first (b ∷ bs) = go (eqb b comma) (names_in_first bs)
  where
    go : (t : Bool) → names_in bs ≡ take (leading no_comma bs) bs ∷ names_from bs (suc (leading no_comma bs))
        → cond t ([] ∷ names_in bs) (onto_first b (names_in bs))
        ≡ take (cond (not t) (suc (leading no_comma bs)) 0) (b ∷ bs) ∷ names_from (b ∷ bs) (suc (cond (not t) (suc (leading no_comma bs)) 0))
    go true e = ap (λ (ns : List (List ℕ)). [] ∷ ns) (sym (names_tail b bs 0 ∙ names_start bs))
    go false e = ap (onto_first b) e ∙ ap (λ (ns : List (List ℕ)). (b ∷ take (leading no_comma bs) bs) ∷ ns) (sym (names_tail b bs (suc (leading no_comma bs))))

names_drop : (run : List ℕ) (at n : ℕ) → at ≤ length run → names_from (drop at run) n ≡ names_from run (at + n)
names_drop run zero n h = ap (names_from run) (omega arith)
names_drop [] (suc at) n h = absurd (omega arith)
names_drop (b ∷ bs) (suc at) n h = names_drop bs at n (omega arith) ∙ sym (names_tail b bs (at + n)) ∙ ap (names_from (b ∷ bs)) (omega arith)

-- the first of the names from index at on ends before the next comma
pub names_first : (run : List ℕ) (at end : ℕ) → at ≤ length run → Spans no_comma run at end
    → names_from run at ≡ cut run at end ∷ names_from run (end + 1)
names_first run at end h s =
    let k = leading no_comma (drop at run) in
    let size : k ≡ end - at = omega (arith, s.is) in
    names_within run at h ∙ names_in_first (drop at run)
    ∙ ap₂ ◌∷◌ (ap (λ (n : ℕ). take n (drop at run)) size) (names_drop run at (suc k) h ∙ ap (names_from run) (omega (arith, s.is)))

-- what std's `get` gives of a run from index at on holds its names from there on
pub left_from : (run : List ℕ) (at : ℕ) (r : Option (Bor (List ℕ)))
    → MatchOption r ((length run < at) ⊎ (length run < length run)) (λ x. (at ≤ length run) × (length run ≤ length run) × (x.now ≡ slice_range run at (length run)) × (length x.now + at ≡ length run))
    → left_of r ≡ names_from run at
left_from run at None h =
    let past : length run < at = ⊎_elim (λ l. l) (λ l. absurd (omega arith)) h in sym (names_past run at past)
left_from run at (Some x) h =
    ap names_in (h.2 ∙ take_all (length run - at) (drop at run) (omega (arith, length-drop at run))) ∙ sym (names_within run at h.0)

-- the names that are left are the first and those after the next comma
pub left_first : (rest : List ℕ) (end : ℕ) → Spans no_comma rest 0 end → names_in rest ≡ take end rest ∷ names_from rest (end + 1)
left_first rest end s =
    let size : end - 0 ≡ end = omega arith in
    sym (names_start rest) ∙ names_first rest 0 end (omega arith) s ∙ ap (λ (n : ℕ). take n rest ∷ names_from rest (end + 1)) size

pub chosen_set : (bits : ℕ) (n : List ℕ) (ns : List (List ℕ)) → eqb (bits % 2) 1 ≡ true → chosen bits (n ∷ ns) ≡ n ∷ chosen (bits / 2) ns
unfolding chosen
chosen_set bits n ns h = rw h

pub chosen_clear : (bits : ℕ) (n : List ℕ) (ns : List (List ℕ)) → eqb (bits % 2) 1 ≡ false → chosen bits (n ∷ ns) ≡ chosen (bits / 2) ns
unfolding chosen
chosen_clear bits n ns h = rw h

pub chosen_end : (bits : ℕ) → chosen bits [] ≡ []
unfolding chosen
chosen_end bits = refl

pub chosen_none : (ns : List (List ℕ)) → chosen 0 ns ≡ []
unfolding chosen
chosen_none [] = refl
chosen_none (n ∷ ns) = chosen_none ns

-- with k bits set, k names are all chosen
pub chosen_all : (k : ℕ) (ns : List (List ℕ)) → length ns ≤ k → chosen (2 ^ k - 1) ns ≡ ns
unfolding chosen
chosen_all k [] h = refl
chosen_all zero (n ∷ ns) h = absurd (omega arith)
chosen_all (suc k) (n ∷ ns) h =
    let odd : (2 ^ suc k - 1) % 2 ≡ 1 = omega (arith, pow-suc 2 k, pow_pos k) in
    let half : (2 ^ suc k - 1) / 2 ≡ 2 ^ k - 1 = omega (arith, pow-suc 2 k, pow_pos k) in
    chosen_set (2 ^ suc k - 1) n ns (eq-eqb _ 1 odd)
    ∙ ap (λ (l : List (List ℕ)). n ∷ l) (ap (λ (bits : ℕ). chosen bits ns) half ∙ chosen_all k ns (omega arith))

-- an empty run has no names, and another has what its commas part
pub extra_none : (run : List ℕ) → length run ≡ 0 → extra_names run ≡ []
unfolding extra_names
extra_none [] h = refl
extra_none (b ∷ bs) h = absurd (omega arith)

pub extra_some : (run : List ℕ) → (length run ≡ 0 → ⊥) → extra_names run ≡ names_in run
unfolding extra_names
extra_some [] h = absurd (h refl)
extra_some (b ∷ bs) h = refl

-- a run of some bytes joins the known names, if its commas part it so
pub known_extra : (known : List ℕ) → Known known → extra_names known ≡ header_names
known_extra known h = extra_some known (λ e. omega (arith, no_more known, ap length h, known_names)) ∙ h

-- the covered names, for a caller that goes through the known ones and then through the extra ones
pub covered_names_lem : (mask : ℕ) (extra known : List ℕ) → Known known
    → covered_names mask extra ≡ chosen (mask / 2) (extra_names known) ++ extra_names extra
unfolding covered_names
covered_names_lem mask extra known h = ap (λ (ns : List (List ℕ)). chosen (mask / 2) ns ++ extra_names extra) (sym (known_extra known h))
