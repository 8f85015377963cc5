-- One name more on a sheet, and so the names of a run, one after the other.
-- Assumes nothing.
use mathlib.Core.Path.{◌≡◌, refl, sym, ap, ◌∙◌}
use mathlib.Core.List.{List, [], ◌∷◌, ◌++◌, append-nil}
use mathlib.Core.Bool.{Bool, true, false, cond}
use Prim.Native.Nat.{ℕ, suc, ◌+◌, ◌-◌, ◌≤◌, ◌<◌}
use native.Mathlib.Numerals.{add-one}
use native.Mathlib.Decide.{dec_lt}
use native.Mathlib.Omega.{arith}
use borrow.Author.Count.{below_more}
use borrow.Author.Tests.{eqb-true, eqb-false}
use lib.Dec.{eqb}
use lib.ListN.{length, get_or, set, drop, length-set, length-append, length-drop, get_or-append}
use lib.Seq.{get_or-append_seam, get_or-set_same, get_or-set_other, append_snoc}
use Rattle.cells.specs.Spans.{leading, Spans}
use Rattle.cells.specs.Runs.{cut}
use Rattle.cells.proofs.Tests.{tested}
use Rattle.names.specs.Extra.{extra_names}
use Rattle.names.specs.InnerWalk.{no_comma, names_from}
use Rattle.names.specs.InnerSheet.{key_of, latest, named, Start, Sheet, Enters, with_name}
use Rattle.cells.proofs.Cuts.{length_cut}
use Rattle.names.proofs.Starts.{name_cut}
use Rattle.names.proofs.Walk.{names_start, names_first, names_past, extra_none, extra_some}
use Rattle.names.proofs.Latest.{latest_append}

-- the sheet after the first store, and after the second
abbrev linked : List ℕ → ℕ → ℕ → List ℕ
linked sheet k i = set sheet (64 + i) (get_or sheet k 0)

abbrev placed : List ℕ → ℕ → ℕ → ℕ → List ℕ
placed sheet k i start = set (linked sheet k i) (128 + i) start

-- what a sheet has at each place once a name is put on it
module _ (sheet : List ℕ) (k i start : ℕ) (size : length sheet ≡ 192) (hk : k < 64) (hi : i < 64) where
  put_head : get_or (with_name sheet k i start) k 0 ≡ i + 1
  put_head = get_or-set_same (placed sheet k i start) k (i + 1) 0 (simp length-set (omega arith))

  put_link : get_or (with_name sheet k i start) (64 + i) 0 ≡ get_or sheet k 0
  put_link =
      get_or-set_other (placed sheet k i start) k (64 + i) (i + 1) 0 (λ e. omega arith)
      ∙ get_or-set_other (linked sheet k i) (128 + i) (64 + i) start 0 (λ e. omega arith)
      ∙ get_or-set_same sheet (64 + i) (get_or sheet k 0) 0 (omega arith)

  put_start : get_or (with_name sheet k i start) (128 + i) 0 ≡ start
  put_start =
      get_or-set_other (placed sheet k i start) k (128 + i) (i + 1) 0 (λ e. omega arith)
      ∙ get_or-set_same (linked sheet k i) (128 + i) start 0 (simp length-set (omega arith))

  put_other : (j : ℕ) → (j ≡ k → ⊥) → (j ≡ 64 + i → ⊥) → (j ≡ 128 + i → ⊥) → get_or (with_name sheet k i start) j 0 ≡ get_or sheet j 0
  put_other j a b c =
      get_or-set_other (placed sheet k i start) k j (i + 1) 0 a ∙ get_or-set_other (linked sheet k i) (128 + i) j start 0 c
      ∙ get_or-set_other sheet (64 + i) j (get_or sheet k 0) 0 b

-- and so what it says then of the names before and of this one
module _ (known extra sheet : List ℕ) (ns : List (List ℕ)) (n : List ℕ) (start : ℕ) (on : Sheet known extra sheet ns) (room : length ns < 64)
    (key : key_of n < 64) where
  abbrev more : List (List ℕ)
  more = ns ++ (n ∷ [])

  abbrev after : List ℕ
  after = with_name sheet (key_of n) (length ns) start

  longer : length more ≡ length ns + 1
  longer = length-append ns (n ∷ [])

  -- what holds of each name before and of this one holds of each
  at_each : (P : ℕ → Type 0) → ((j : ℕ) → j < length ns → P j) → P (length ns) → (j : ℕ) → j < length more → P j
  at_each P old new j h = below_more P (length ns) old new j (omega (arith, longer))

  old_name : (j : ℕ) → j < length ns → get_or more j [] ≡ get_or ns j []
  old_name j h = get_or-append ns (n ∷ []) [] j h

  new_name : get_or more (length ns) [] ≡ n
  new_name = get_or-append_seam ns n [] []

  old_latest : (k i : ℕ) → i ≤ length ns → latest more k i ≡ latest ns k i
  old_latest k = latest_append ns k (n ∷ [])

  old_place : (j : ℕ) → 64 ≤ j → (j ≡ 64 + length ns → ⊥) → (j ≡ 128 + length ns → ⊥) → get_or after j 0 ≡ get_or sheet j 0
  old_place j h = put_other sheet (key_of n) (length ns) start on.size key room j (λ e. omega arith)

  heads_more : (k : ℕ) → k < 64 → get_or after k 0 ≡ latest more k (length more)
  unfolding latest
  heads_more k h =
      let last : latest more k (length more) ≡ cond (eqb (key_of n) k) (suc (length ns)) (latest ns k (length ns)) =
      rw (longer, add-one, new_name, old_latest k (length ns) (omega arith)) in
      tested (eqb (key_of n) k)
      (λ t. ap (λ (j : ℕ). get_or after j 0) (sym (eqb-true (key_of n) k t)) ∙ put_head sheet (key_of n) (length ns) start on.size key room
      ∙ add-one (length ns) ∙ sym (last ∙ rw t))
      (λ t. put_other sheet (key_of n) (length ns) start on.size key room k (λ e. eqb-false (key_of n) k t (sym e)) (λ e. omega arith) (λ e. omega arith)
      ∙ on.heads k h ∙ sym (last ∙ rw t))

  links_more : (j : ℕ) → j < length more → get_or after (64 + j) 0 ≡ latest more (key_of (get_or more j [])) j
  links_more =
      at_each (λ (j : ℕ). get_or after (64 + j) 0 ≡ latest more (key_of (get_or more j [])) j)
      (λ j h. old_place (64 + j) (omega arith) (λ e. omega arith) (λ e. omega arith) ∙ on.links j h
      ∙ sym (rw (old_name j h) (old_latest (key_of (get_or ns j [])) j (omega arith))))
      (put_link sheet (key_of n) (length ns) start on.size key room ∙ on.heads (key_of n) key
      ∙ sym (rw new_name (old_latest (key_of n) (length ns) (omega arith))))

  name_put : Start known extra start → named known extra start ≡ n → Sheet known extra after more
  name_put starts is =
      let there = put_start sheet (key_of n) (length ns) start on.size key room in
      let before : (j : ℕ) → j < length ns → get_or after (128 + j) 0 ≡ get_or sheet (128 + j) 0 =
      λ j h. old_place (128 + j) (omega arith) (λ e. omega arith) (λ e. omega arith) in
      record {
        size = simp length-set on.size;
        few = omega (arith, longer);
        heads = heads_more;
        links = links_more;
        starts = at_each (λ (j : ℕ). Start known extra (get_or after (128 + j) 0)) (λ j h. rw (before j h) (on.starts j h)) (rw there starts);
        names = at_each (λ (j : ℕ). named known extra (get_or after (128 + j) 0) ≡ get_or more j [])
            (λ j h. rw (before j h, old_name j h) (on.names j h)) (rw (there, new_name) is);
      }

-- names of a run, of which the first starts at start, base and on; past the run's end there are none
pub record ComeTo (run : List ℕ) (left : List (List ℕ)) (base start : ℕ) : Type 0 where
  pub from : base ≤ start
  pub within : start ≤ base + length run + 1
  pub inside : 1 ≤ length left → start ≤ base + length run
  pub are : 1 ≤ length left → left ≡ names_from run (start - base)

pub come_first : (run : List ℕ) (base : ℕ) → ComeTo run (extra_names run) base base
come_first run base =
    let at : base - base ≡ 0 = omega arith in
    record {
      from = omega arith;
      within = omega arith;
      inside = λ h. omega arith;
      are = λ h. rw at (extra_some run (λ e. let none = extra_none run e in omega (arith, ap length none)) ∙ sym (names_start run));
    }

leading_few : (p : ℕ → Bool) (xs : List ℕ) → leading p xs ≤ length xs
unfolding leading
leading_few p [] = omega arith
leading_few p (x ∷ xs) = elim (p x) as (λ (t : Bool). cond t (suc (leading p xs)) 0 ≤ suc (length xs)) [ true ↦ omega (arith, leading_few p xs) | false ↦ omega arith ]

-- the first name that is left is what stands from its start up to the next comma, and the others come after that
module _ (run : List ℕ) (n : List ℕ) (left : List (List ℕ)) (base start : ℕ) (c : ComeTo run (n ∷ left) base start) where
  -- where it ends
  abbrev pub come_end : ℕ
  come_end = (start - base) + leading no_comma (drop (start - base) run)

  pub come_ends : Spans no_comma run (start - base) come_end
  come_ends = record { is = refl; within = omega (arith, c.inside (omega arith), leading_few no_comma (drop (start - base) run), length-drop (start - base) run) }

  parts : n ∷ left ≡ cut run (start - base) come_end ∷ names_from run (come_end + 1)
  parts = c.are (omega arith) ∙ names_first run (start - base) come_end (omega (arith, c.inside (omega arith), c.from)) come_ends

  pub come_name : n ≡ cut run (start - base) come_end
  come_name = let both = parts in cc

  come_left : left ≡ names_from run (come_end + 1)
  come_left = let both = parts in cc

  come_size : start + (length n + 1) ≡ base + (come_end + 1)
  come_size = omega (arith, c.from, ap length come_name, length_cut run (start - base) come_end (come_ends.within))

  pub come_on : ComeTo run left base (start + (length n + 1))
  come_on =
      let at : start + (length n + 1) - base ≡ come_end + 1 = omega (arith, come_size) in
      record {
        from = omega (arith, c.from);
        within = omega (arith, come_size, come_ends.within);
        inside = λ h. elim (dec_lt (length run) (come_end + 1)) [
          | yes past ↦ absurd (omega (arith, ap length (come_left ∙ names_past run (come_end + 1) past)))
          | no not_past ↦ omega (arith, come_size)
        ];
        are = λ h. rw at come_left;
      }

-- what enters the others once the first is put on the sheet enters all
pub enters_then : (run n : List ℕ) (left more : List (List ℕ)) (base start count k : ℕ) (sheet put after : List ℕ) → ComeTo run (n ∷ left) base start
    → (k ≡ key_of n) × (k < 64) → count < 64 → put ≡ with_name sheet k count start → Enters run more base (count + 1) put after
    → Enters run (n ∷ more) base count sheet after
enters_then run n left more base start count k sheet put after c key room is rest known extra ns from e on =
    let ends = come_ends run n left base start c in
    let starts = from (start - base) (omega (arith, ends.is, ends.within)) in
    let there : base + (start - base) ≡ start = omega (arith, c.from) in
    let is_named : named known extra (base + (start - base)) ≡ n = starts.1 ∙ sym (name_cut run (start - base) _ ends) ∙ sym (come_name run n left base start c) in
    let one = name_put known extra sheet ns n start on (omega arith) (omega arith) (rw there at starts.0) (rw there at is_named) in
    rw append_snoc at (rest known extra (ns ++ (n ∷ [])) from (omega (arith, length-append ns (n ∷ []))) (rw (is, key.0, e) one))

pub enters_none : (run : List ℕ) (base count : ℕ) (sheet : List ℕ) → Enters run [] base count sheet sheet
enters_none run base count sheet known extra ns from e on = rw (append-nil ns) on
