-- Laws of values that are joined, and how long they are.
-- Assumes nothing.
use mathlib.Core.Path.{◌≡◌, refl, sym, ap, ◌∙◌}
use mathlib.Core.List.{List, [], ◌∷◌, ◌++◌, append-nil}
use mathlib.Core.Bool.{Bool, true, false, cond}
use Prim.Native.Nat.{ℕ, zero, suc, ◌+◌, ◌≤◌}
use native.Mathlib.Omega.{arith}
use lib.ListN.{length, drop, length-append, length-drop}
use Rattle.cells.specs.Runs.{cut}
use Rattle.names.specs.Names.{same_name}
use Rattle.names.specs.Extra.{comma}
use Rattle.names.proofs.Same.{same_itself}
use Rattle.lines.specs.Lines.{Line, front_line, starts_line, line_text, lines_up_to, lines_in}
use Rattle.lines.specs.Values.{space, blank, trim_front, keeping, trim_end, trimmed, values_in, following, joined, or_else, covered_value}
use Rattle.lines.specs.InnerPlaces.{Stands, front_at, own_at, AgainIs}
use Rattle.std.specs.Prelude.{Some, None}
use Rattle.lines.proofs.Lines.{length_line, started}
use Rattle.lines.proofs.Named.{lines_at, values_own}

-- one value is itself; before others come a comma and a space
pub joined_one : (v : List ℕ) → joined (v ∷ []) ≡ v
unfolding joined following
joined_one v = append-nil v

pub joined_more : (v w : List ℕ) (vs : List (List ℕ)) → joined (v ∷ w ∷ vs) ≡ v ++ (comma ∷ space ∷ joined (w ∷ vs))
unfolding joined following
joined_more v w vs = refl

-- a line's value, and the others that its name has from there on
pub own_more : (block : List ℕ) (at : ℕ) (s : Stands block at)
    → own_at block at ≡ front_at block at ∷ values_in (lines_in (drop (s.end + 2) block)) (cut block at s.colon)
own_more block at s = rw (lines_at block at s.colon s.end s.is) refl

-- what is joined from a line on, where no other bears its name, and where another does
pub own_alone : (block : List ℕ) (at : ℕ) → AgainIs block at None → joined (own_at block at) ≡ front_at block at
own_alone block at a = ap joined (a.are ∙ ap (λ (vs : List (List ℕ)). front_at block at ∷ vs) a.found) ∙ joined_one (front_at block at)

pub own_then : (block : List ℕ) (at next : ℕ) → AgainIs block at (Some next)
    → joined (own_at block at) ≡ front_at block at ++ (comma ∷ space ∷ joined (own_at block next))
own_then block at next a =
    let others = a.found.are ∙ own_more block next a.found.stands in
    ap joined (a.are ∙ ap (λ (vs : List (List ℕ)). front_at block at ∷ vs) others) ∙ joined_more (front_at block at) _ _
    ∙ ap (λ (vs : List (List ℕ)). front_at block at ++ (comma ∷ space ∷ joined vs)) (sym (own_more block next a.found.stands))

-- what is joined begins with the line's own value
pub own_begins : (block : List ℕ) (at : ℕ) → Stands block at → length (front_at block at) ≤ length (joined (own_at block at))
unfolding joined
own_begins block at s =
    let others = values_in (lines_in (drop (s.end + 2) block)) (cut block at s.colon) in
    omega (arith, ap (λ (vs : List (List ℕ)). length (joined vs)) (own_more block at s), length-append (front_at block at) (following others))

pub stands_within : (block : List ℕ) (at : ℕ) → Stands block at → at + 4 ≤ length block
stands_within block at s = omega (arith, s.is.named, s.is.ordered, s.is.within)

-- a value without the blanks at its ends is no longer
pub end_short : (xs : List ℕ) → length (trim_end xs) ≤ length xs
unfolding trim_end
end_short [] = omega arith
end_short (b ∷ bs) = go (trim_end bs) (end_short bs)
  where
    go : (kept : List ℕ) → length kept ≤ length bs → length (keeping b kept) ≤ suc (length bs)
    go [] h = elim (blank b) as (λ (t : Bool). length (cond t [] (b ∷ [])) ≤ suc (length bs)) [ true ↦ omega arith | false ↦ omega arith ]
    go (c ∷ cs) h = omega arith

trimmed_short : (value : List ℕ) → length (trimmed value) ≤ length value
unfolding trimmed trim_front
trimmed_short value = omega (arith, simp length-drop at (end_short (trim_front value)))

-- joined values are no longer than the block that has their lines
following_short : (n : ℕ) (xs name : List ℕ) → length (following (values_in (lines_up_to n xs) name)) ≤ length xs
unfolding lines_up_to values_in following
following_short zero xs name = omega arith
following_short (suc n) xs name =
    let rest = drop (length (line_text (front_line xs))) xs in
    go (starts_line xs) refl (lines_up_to n rest) (following_short n rest name)
  where
    -- the line, with a comma and a space for its colon and its end
    line : starts_line xs ≡ true → length (trimmed (front_line xs).value) + 2 + length (drop (length (line_text (front_line xs))) xs) ≤ length xs
    line e =
        let size = ap length (started xs e).1 ∙ length-append (line_text (front_line xs)) (drop (length (line_text (front_line xs))) xs) in
        omega (arith, size, length_line (front_line xs), trimmed_short (front_line xs).value)

    go : (b : Bool) → starts_line xs ≡ b → (ls : List Line) → length (following (values_in ls name)) ≤ length (drop (length (line_text (front_line xs))) xs)
        → length (following (values_in (cond b (front_line xs ∷ ls) []) name)) ≤ length xs
    go false e ls more = omega arith
    go true e ls more =
        elim (same_name (front_line xs).name name) as
        (λ (t : Bool). length (following (cond t (trimmed (front_line xs).value ∷ values_in ls name) (values_in ls name))) ≤ length xs)
        [ true ↦ omega (arith, line e, length-append (trimmed (front_line xs).value) (following (values_in ls name))) | false ↦ omega (arith, line e) ]

joined_following : (vs : List (List ℕ)) → length (joined vs) ≤ length (following vs)
unfolding joined following
joined_following [] = omega arith
joined_following (v ∷ vs) = omega (arith, length-append v (following vs))

pub joined_short : (block name : List ℕ) → length (joined (values_in (lines_in block) name)) ≤ length block
unfolding lines_in
joined_short block name =
    omega (arith, joined_following (values_in (lines_up_to (length block) block) name), following_short (length block) block name)

pub own_short : (block : List ℕ) (at : ℕ) → Stands block at → length (joined (own_at block at)) ≤ length block
own_short block at s =
    let own = values_own block at s.colon s.end s.is (cut block at s.colon) (same_itself (cut block at s.colon)) in
    omega (arith, ap (λ (vs : List (List ℕ)). length (joined vs)) own, joined_short (drop at block) (cut block at s.colon), length-drop at block)

-- and so is a covered value
pub covered_short : {most : ℕ} (aside head name : List ℕ) → length aside ≤ most → length head ≤ most
    → length (covered_value (lines_in aside) (lines_in head) name) ≤ most
unfolding covered_value
covered_short {most} aside head name h k = go (values_in (lines_in aside) name) (joined_short aside name)
  where
    go : (vs : List (List ℕ)) → length (joined vs) ≤ length aside → length (joined (or_else vs (values_in (lines_in head) name))) ≤ most
    go [] e = omega (arith, joined_short head name)
    go (v ∷ vs) e = omega arith
