-- Names of which no two are the same: the 55, those that a mask chooses among them, and with the extra ones all that are covered.
-- Assumes nothing.
use mathlib.Core.Path.{◌≡◌, refl, sym, ◌∙◌}
use mathlib.Core.List.{List, [], ◌∷◌, ◌++◌}
use mathlib.Core.Bool.{Bool, true, false, false≢true, not, ◌&&◌, or-true}
use Prim.Native.Nat.{ℕ, zero, suc, ◌/◌, ◌%◌, ◌<◌}
use native.Mathlib.Omega.{arith}
use borrow.Author.Tests.{not-true, ltb-true, ltb-false}
use lib.Dec.{eqb, ltb, leb}
use lib.ListN.{length, get_or}
use Rattle.cells.specs.Text.{codes}
use Rattle.cells.proofs.Tests.{tested, both}
use Rattle.names.specs.Names.{is_token, lower, same_name, has_name, armor_name, header_names}
use Rattle.names.specs.Extra.{extra_names, allowed, good_names, good_extra}
use Rattle.names.specs.Covered.{chosen_first, chosen, covered_names}
use Rattle.names.proofs.Same.{same_itself, same_turned}
use Rattle.names.proofs.Has.{has_same, has_append, has_chosen, has_not}

-- none of the names after a name is the same
unfoldable apart : List (List ℕ) → Bool
apart [] = true
apart (n ∷ ns) = not (has_name ns n) && apart ns

known_apart : apart header_names ≡ true
unfolding apart has_name same_name lower header_names codes
known_apart = refl

apart_parts : (n : List ℕ) (ns : List (List ℕ)) → apart (n ∷ ns) ≡ true → (has_name ns n ≡ false) × (apart ns ≡ true)
unfolding apart
apart_parts n ns h = let parts = both (not (has_name ns n)) (apart ns) h in (not-true (has_name ns n) parts.0, parts.1)

apart_more : (n : List ℕ) (ns : List (List ℕ)) → has_name ns n ≡ false → apart ns ≡ true → apart (n ∷ ns) ≡ true
unfolding apart
apart_more n ns h e = rw (h, e)

-- chosen ones of names that are apart are apart
apart_chosen : (bits : ℕ) (ns : List (List ℕ)) → apart ns ≡ true → apart (chosen bits ns) ≡ true
unfolding chosen
apart_chosen bits [] h = h
apart_chosen bits (n ∷ ns) h =
    let parts = apart_parts n ns h in
    go (eqb (bits % 2) 1) (tested (has_name (chosen (bits / 2) ns) n) (λ e. absurd (false≢true (sym parts.0 ∙ has_chosen (bits / 2) ns n e))) (λ e. e))
    (apart_chosen (bits / 2) ns parts.1)
  where
    go : (t : Bool) → has_name (chosen (bits / 2) ns) n ≡ false → apart (chosen (bits / 2) ns) ≡ true → apart (chosen_first t n (chosen (bits / 2) ns)) ≡ true
    go true new e = apart_more n (chosen (bits / 2) ns) new e
    go false new e = e

-- and so are names that are apart and others that are none of those
apart_append : (ns more : List (List ℕ)) → apart ns ≡ true → apart more ≡ true → ((name : List ℕ) → has_name ns name ≡ true → has_name more name ≡ false)
    → apart (ns ++ more) ≡ true
unfolding has_name
apart_append [] more h g new = g
apart_append (n ∷ ns) more h g new =
    let parts = apart_parts n ns h in
    apart_more n (ns ++ more) (has_append ns more n ∙ rw parts.0 (new n (rw (same_itself n))))
    (apart_append ns more parts.1 g (λ name e. new name (rw (e, or-true))))

apart_at : (ns : List (List ℕ)) → apart ns ≡ true → (i j : ℕ) → i < j → j < length ns → same_name (get_or ns i []) (get_or ns j []) ≡ false
apart_at [] h i j l r = absurd (omega arith)
apart_at (n ∷ ns) h i zero l r = absurd (omega arith)
apart_at (n ∷ ns) h zero (suc j) l r = same_turned n (get_or ns j []) ∙ has_not ns n (apart_parts n ns h).0 j (omega arith)
apart_at (n ∷ ns) h (suc i) (suc j) l r = apart_at ns (apart_parts n ns h).1 i j (omega arith) (omega arith)

-- good names are apart, and none of the 55
good_apart : (ns : List (List ℕ)) → good_names ns ≡ true → apart ns ≡ true
unfolding good_names apart
good_apart [] h = refl
good_apart (n ∷ ns) h =
    let parts = both (allowed n && not (has_name ns n)) (good_names ns) h in
    rw (both (allowed n) (not (has_name ns n)) parts.0).1 (good_apart ns parts.1)

allowed_new : (n : List ℕ) → allowed n ≡ true → has_name header_names n ≡ false
unfolding allowed
allowed_new n h =
    not-true (has_name header_names n)
    (both (is_token n) (not (has_name header_names n)) (both (is_token n && not (has_name header_names n)) (not (same_name armor_name n)) h).0).1

good_new : (ns : List (List ℕ)) → good_names ns ≡ true → (name : List ℕ) → has_name header_names name ≡ true → has_name ns name ≡ false
unfolding good_names has_name
good_new [] h name e = refl
good_new (n ∷ ns) h name e =
    let parts = both (allowed n && not (has_name ns n)) (good_names ns) h in
    let new = allowed_new n (both (allowed n) (not (has_name ns n)) parts.0).0 in
    tested (same_name n name) (λ s. absurd (false≢true (sym new ∙ has_same header_names n name s ∙ e))) (λ s. rw s (good_new ns parts.1 name e))

module _ (extra : List ℕ) (h : good_extra extra ≡ true) where
  good : good_names (extra_names extra) ≡ true
  unfolding good_extra
  good = (both (leb (length extra) 128 && leb (length (extra_names extra)) 8) (good_names (extra_names extra)) h).1

  pub extra_new : (name : List ℕ) → has_name header_names name ≡ true → has_name (extra_names extra) name ≡ false
  extra_new = good_new (extra_names extra) good

  extra_apart : apart (extra_names extra) ≡ true
  extra_apart = good_apart (extra_names extra) good

-- so no two covered names are the same
pub covered_apart : (mask : ℕ) (extra : List ℕ) → good_extra extra ≡ true → (i j : ℕ) → i < length (covered_names mask extra) → j < length (covered_names mask extra)
    → (i ≡ j → ⊥) → same_name (get_or (covered_names mask extra) i []) (get_or (covered_names mask extra) j []) ≡ false
unfolding covered_names
covered_apart mask extra h i j li lj other =
    let known = chosen (mask / 2) header_names in
    let all = apart_append known (extra_names extra) (apart_chosen (mask / 2) header_names known_apart) (extra_apart extra h)
    (λ name e. extra_new extra h name (has_chosen (mask / 2) header_names name e)) in
    tested (ltb i j) (λ t. apart_at (known ++ extra_names extra) all i j (ltb-true i j t) lj)
    (λ t. let past = ltb-false i j t in
    same_turned (get_or (known ++ extra_names extra) i []) _ ∙ apart_at (known ++ extra_names extra) all j i (omega arith) li)
