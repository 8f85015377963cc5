-- Lines of one name that are combined are signed as they were: document 02, K10, of demand 3.
-- Assumes nothing.
use mathlib.Core.Path.{◌≡◌, refl, sym, ap, ap₂, ◌∙◌}
use mathlib.Core.Bool.{Bool, true, false, true≢false, cond}
use mathlib.Core.List.{List, [], ◌∷◌, ◌++◌, map, append_assoc}
use Prim.Native.Nat.{ℕ, suc, ◌<◌}
use native.Mathlib.Omega.{arith}
use lib.ListN.{length, drop, length-drop}
use Rattle.cells.specs.Spans.{leading}
use Rattle.hashes.specs.declared.Hash.{Hash}
use Rattle.names.specs.Names.{same_name}
use Rattle.names.specs.Extra.{comma}
use Rattle.names.specs.Covered.{covered_names}
use Rattle.names.proofs.Same.{same_left, same_itself}
use Rattle.lines.specs.Lines.{Line, lines_in}
use Rattle.lines.specs.Values.{space, blank, trim_front, keeping, trim_end, trimmed, values_in, following, joined, or_else, covered_value}
use Rattle.lines.proofs.Named.{same_values}
use Rattle.lines.proofs.Joined.{end_short}
use Rattle.signed.specs.SignedText.{covered_values, signed_of, request_text}
use Rattle.demands.specs.Combined.{Combined}

values_append : (ls ms : List Line) (name : List ℕ) → values_in (ls ++ ms) name ≡ values_in ls name ++ values_in ms name
unfolding values_in
values_append [] ms name = refl
values_append (l ∷ ls) ms name = go (same_name l.name name) (values_append ls ms name)
  where
    go : (b : Bool) {vs : List (List ℕ)} → vs ≡ values_in ls name ++ values_in ms name
        → cond b (trimmed l.value ∷ vs) vs ≡ cond b (trimmed l.value ∷ values_in ls name) (values_in ls name) ++ values_in ms name
    go true e = ap (λ (ws : List (List ℕ)). trimmed l.value ∷ ws) e
    go false e = e

-- two values in a row, and the one that they make
abbrev pair : List ℕ → List ℕ → List ℕ
pair a b = a ++ (comma ∷ space ∷ b)

following_pair : (vs : List (List ℕ)) (a b : List ℕ) (ws : List (List ℕ)) → following (vs ++ (a ∷ b ∷ ws)) ≡ following (vs ++ (pair a b ∷ ws))
unfolding following
following_pair [] a b ws = ap (λ (xs : List ℕ). comma ∷ space ∷ xs) (sym (append_assoc a (comma ∷ space ∷ b) (following ws)))
following_pair (v ∷ vs) a b ws = ap (λ (xs : List ℕ). comma ∷ space ∷ (v ++ xs)) (following_pair vs a b ws)

joined_pair : (vs : List (List ℕ)) (a b : List ℕ) (ws : List (List ℕ)) → joined (vs ++ (a ∷ b ∷ ws)) ≡ joined (vs ++ (pair a b ∷ ws))
unfolding joined following
joined_pair [] a b ws = sym (append_assoc a (comma ∷ space ∷ b) (following ws))
joined_pair (v ∷ vs) a b ws = ap (λ (xs : List ℕ). v ++ xs) (following_pair vs a b ws)

abbrev empty : List (List ℕ) → Bool
empty [] = true
empty (v ∷ vs) = false

some : (vs : List (List ℕ)) (w : List ℕ) (ws : List (List ℕ)) → empty (vs ++ (w ∷ ws)) ≡ false
some [] w ws = refl
some (v ∷ vs) w ws = refl

-- values that are joined alike, and of which there are some in both or in neither
pub record JoinedAlike (vs ws : List (List ℕ)) : Type 0 where
  pub joins : joined vs ≡ joined ws
  pub any : empty vs ≡ empty ws

module _ {ls ms : List Line} (c : Combined ls ms) where
  alike : (name : List ℕ) → JoinedAlike (values_in ls name) (values_in ms name)
  unfolding values_in
  alike name = go (same_name c.one.name name) refl
    where
      two_same : same_name c.two.name name ≡ same_name c.one.name name
      two_same = same_left c.two.name c.one.name name c.is_same_name

      both_same : same_name c.both.name name ≡ same_name c.one.name name
      both_same = same_left c.both.name c.one.name name c.its_name

      go : (b : Bool) → same_name c.one.name name ≡ b → JoinedAlike (values_in ls name) (values_in ms name)
      go true e =
          let none = sym (same_values c.one.name name e c.between) ∙ c.alone in
          let apart : values_in ls name ≡ values_in c.before name ++ (trimmed c.one.value ∷ trimmed c.two.value ∷ values_in c.after name) =
          ap (λ (l : List Line). values_in l name) c.apart ∙ simp (values_append, e, none, two_same ∙ e) in
          let together : values_in ms name ≡ values_in c.before name ++ (pair (trimmed c.one.value) (trimmed c.two.value) ∷ values_in c.after name) =
          ap (λ (l : List Line). values_in l name) c.together ∙ simp (values_append, both_same ∙ e, none, c.value) in
          record {
            joins = rw (apart, together) (joined_pair (values_in c.before name) (trimmed c.one.value) (trimmed c.two.value) (values_in c.after name));
            any = rw (apart, together) (some (values_in c.before name) _ _ ∙ sym (some (values_in c.before name) _ _));
          }
      go false e =
          let others = values_in c.before name ++ (values_in c.between name ++ values_in c.after name) in
          let apart : values_in ls name ≡ others = ap (λ (l : List Line). values_in l name) c.apart ∙ simp (values_append, e, two_same ∙ e) in
          let together : values_in ms name ≡ others = ap (λ (l : List Line). values_in l name) c.together ∙ simp (values_append, both_same ∙ e) in
          let same = apart ∙ sym together in
          record { joins = ap joined same; any = ap empty same }

-- of the two blocks the one is chosen as before
or_else_alike : (vs ws others : List (List ℕ)) → JoinedAlike vs ws → joined (or_else vs others) ≡ joined (or_else ws others)
or_else_alike [] [] others a = refl
or_else_alike [] (w ∷ ws) others a = absurd (true≢false a.any)
or_else_alike (v ∷ vs) [] others a = absurd (true≢false (sym a.any))
or_else_alike (v ∷ vs) (w ∷ ws) others a = a.joins

module _ {ls ms : List Line} (c : Combined ls ms) where
  pub aside_combined : (head : List Line) (name : List ℕ) → covered_value ls head name ≡ covered_value ms head name
  unfolding covered_value
  aside_combined head name = or_else_alike (values_in ls name) (values_in ms name) (values_in head name) (alike c name)

  pub head_combined : (aside : List Line) (name : List ℕ) → covered_value aside ls name ≡ covered_value aside ms name
  unfolding covered_value
  head_combined aside name = by (values_in aside name)
    where
      by : (vs : List (List ℕ)) → joined (or_else vs (values_in ls name)) ≡ joined (or_else vs (values_in ms name))
      by [] = (alike c name).joins
      by (v ∷ vs) = refl

map_alike : (f g : List ℕ → List ℕ) → ((x : List ℕ) → f x ≡ g x) → (xs : List (List ℕ)) → map f xs ≡ map g xs
map_alike f g e [] = refl
map_alike f g e (x ∷ xs) = ap₂ ◌∷◌ (e x) (map_alike f g e xs)

-- so the signed text is the same
module _ (method : List ℕ) (hash : Hash) (mask : ℕ) (extra : List ℕ) (n t lt : ℕ) where
  pub head_text : (aside head head' path body : List ℕ) → Combined (lines_in head) (lines_in head')
      → request_text method hash mask extra n t lt aside head path body ≡ request_text method hash mask extra n t lt aside head' path body
  unfolding request_text signed_of covered_values
  head_text aside head head' path body c =
      rw (map_alike (covered_value (lines_in aside) (lines_in head)) (covered_value (lines_in aside) (lines_in head')) (head_combined c (lines_in aside)) (covered_names mask extra)) refl

  pub aside_text : (aside aside' head path body : List ℕ) → Combined (lines_in aside) (lines_in aside')
      → request_text method hash mask extra n t lt aside head path body ≡ request_text method hash mask extra n t lt aside' head path body
  unfolding request_text signed_of covered_values
  aside_text aside aside' head path body c =
      rw (map_alike (covered_value (lines_in aside) (lines_in head)) (covered_value (lines_in aside') (lines_in head)) (aside_combined c (lines_in head)) (covered_names mask extra)) refl

-- values that are trimmed, the second not empty, make one that is
first_kept : (b : ℕ) (bs : List ℕ) → trimmed (b ∷ bs) ≡ b ∷ bs → blank b ≡ false
unfolding trimmed trim_front leading
first_kept b bs e = go (blank b) refl e
  where
    go : (t : Bool) → blank b ≡ t → trim_end (drop (cond t (suc (leading blank bs)) 0) (b ∷ bs)) ≡ b ∷ bs → blank b ≡ false
    go false h z = h
    go true h z = absurd (omega (arith, ap length z, end_short (drop (leading blank bs) bs), length-drop (leading blank bs) bs))

kept_before : (xs : List ℕ) (y : ℕ) (ys : List ℕ) → trim_end (y ∷ ys) ≡ y ∷ ys → trim_end (xs ++ (y ∷ ys)) ≡ xs ++ (y ∷ ys)
unfolding trim_end
kept_before [] y ys e = e
kept_before (x ∷ []) y ys e = ap (keeping x) e
kept_before (x ∷ z ∷ xs) y ys e = ap (keeping x) (kept_before (z ∷ xs) y ys e)

no_front : (b : ℕ) (bs : List ℕ) → blank b ≡ false → trimmed (b ∷ bs) ≡ trim_end (b ∷ bs)
unfolding trimmed trim_front leading
no_front b bs h = rw h refl

pair_trimmed : (a b : List ℕ) → trimmed a ≡ a → trimmed b ≡ b → 0 < length b → trimmed (pair a b) ≡ pair a b
pair_trimmed a [] e f h = absurd (omega arith)
pair_trimmed [] (y ∷ ys) e f h =
    no_front comma (space ∷ y ∷ ys) refl ∙ kept_before (comma ∷ space ∷ []) y ys (sym (no_front y ys (first_kept y ys f)) ∙ f)
pair_trimmed (x ∷ xs) (y ∷ ys) e f h =
    no_front x _ (first_kept x xs e) ∙ ap trim_end (sym (append_assoc (x ∷ xs) (comma ∷ space ∷ []) (y ∷ ys)))
    ∙ kept_before ((x ∷ xs) ++ (comma ∷ space ∷ [])) y ys (sym (no_front y ys (first_kept y ys f)) ∙ f) ∙ append_assoc (x ∷ xs) (comma ∷ space ∷ []) (y ∷ ys)

-- two lines `a` and `b` of a name, and one line `a, b`
abbrev pub line : List ℕ → List ℕ → Line
line name value = record { name = name; value = value }

pub two_lines : (before between after : List Line) (name a b : List ℕ) → values_in between name ≡ [] → trimmed a ≡ a → trimmed b ≡ b → 0 < length b
    → Combined (before ++ (line name a ∷ (between ++ (line name b ∷ after)))) (before ++ (line name (a ++ (comma ∷ space ∷ b)) ∷ (between ++ after)))
two_lines before between after name a b none e f h = record {
  before = before;
  between = between;
  after = after;
  one = line name a;
  two = line name b;
  both = line name (a ++ (comma ∷ space ∷ b));
  apart = refl;
  together = refl;
  is_same_name = same_itself name;
  its_name = same_itself name;
  alone = none;
  value = pair_trimmed a b e f h ∙ sym (ap₂ (λ (v w : List ℕ). v ++ (comma ∷ space ∷ w)) e f);
}
