-- The note on a name while the lines of a block are gone through, and what it tells at the end.
-- Assumes nothing.
use mathlib.Core.Path.{◌≡◌, refl, sym, ap, ◌∙◌}
use mathlib.Core.List.{List, [], ◌∷◌}
use mathlib.Core.Bool.{true, false}
use Prim.Native.Nat.{ℕ, ◌+◌, ◌%◌, ◌≤◌, ◌<◌}
use native.Mathlib.Omega.{arith}
use borrow.Author.Tests.{lt-ltb, le-leb, lt-leb, ne_eqb, eqb-true, eqb-false}
use lib.Dec.{eqb, leb, ltb}
use lib.ListN.{length, get_or, drop, replicate, get_or-replicate}
use lib.Seq.{get_or-set_same, get_or-set_other}
use Rattle.std.specs.Prelude.{Option, Some, None}
use Rattle.cells.specs.Runs.{cut}
use Rattle.cells.proofs.Tests.{tested}
use Rattle.names.specs.Names.{same_name}
use Rattle.names.specs.InnerSheet.{NumberIs}
use Rattle.names.proofs.Same.{same_left}
use Rattle.lines.specs.Lines.{lines_in}
use Rattle.lines.specs.Values.{values_in}
use Rattle.lines.specs.InnerPlaces.{WholeLine, Stands, front_at, own_at}
use Rattle.lines.specs.InnerNotes.{place_of, NoteIs, marked, marked_in, Apart}
use Rattle.lines.proofs.Named.{lines_end, same_values, values_own, values_past}
use Rattle.lines.proofs.Joined.{own_more}

-- the values that a name has in the lines from index at on
abbrev pub from : List ℕ → List ℕ → ℕ → List (List ℕ)
from block name at = values_in (lines_in (drop at block)) name

-- the first line that bears the name
pub record First (block name : List ℕ) (place : ℕ) : Type 0 where
  pub low : place < 16384
  pub stands : Stands block place
  pub values : from block name 0 ≡ own_at block place

-- the note on a name once the lines up to index at are passed: none of them bears it, one does, or several
pub data Noting (block name : List ℕ) (at note : ℕ) : Type 0 where
  none : note ≡ 0 → from block name 0 ≡ from block name at → Noting block name at note
  one : (place : ℕ) → First block name place → note ≡ place + 1 → from block name 0 ≡ front_at block place ∷ from block name at → Noting block name at note
  more : (place : ℕ) → First block name place → note ≡ place + 32769 → 1 < length (from block name 0) → Noting block name at note

pub noting_start : {block name : List ℕ} {i : ℕ} → i < 64 → Noting block name 0 (get_or (replicate 64 0) i 0)
noting_start {i} h = rw (get_or-replicate {A = ℕ} 64 i 0 0 h) (none refl refl)

found : {block name : List ℕ} {place note : ℕ} → First block name place → note % 32768 ≡ place + 1
    → leb 32768 note ≡ ltb 1 (length (from block name 0)) → NoteIs block name note
found {place} {note} f z several =
    let there : place_of note ≡ place = omega arith in
    record {
      none = λ e. absurd (omega arith);
      some = λ l. omega arith;
      stands = λ l. rw there f.stands;
      values = λ l. rw there f.values;
      several = several;
    }

module _ {block name : List ℕ} {at note : ℕ} where
  pub noting_end : length block ≤ at → Noting block name at note → NoteIs block name note
  unfolding values_in
  noting_end h (none z v) =
      let are = v ∙ ap (λ ls. values_in ls name) (lines_end block at h) in
      record {
        none = λ e. are;
        some = λ l. absurd (omega arith);
        stands = λ l. absurd (omega arith);
        values = λ l. absurd (omega arith);
        several = rw (z, are);
      }
  noting_end h (one place f z v) =
      let are = v ∙ ap (λ ls. front_at block place ∷ values_in ls name) (lines_end block at h) in
      found f (omega (arith, f.low)) (rw (lt-leb 32768 note (omega (arith, f.low)), are))
  noting_end h (more place f z l) = found f (omega (arith, f.low)) (rw (le-leb 32768 note (omega arith), lt-ltb 1 (length (from block name 0)) l))

  -- the next line does not bear the name, or it does
  module _ (c e : ℕ) (w : WholeLine block at c e) where
    noting_past : same_name (cut block at c) name ≡ false → Noting block name at note → Noting block name (e + 2) note
    noting_past h (none z v) = none z (v ∙ values_past block at c e w name h)
    noting_past h (one place f z v) = one place f z (v ∙ ap (λ vs. front_at block place ∷ vs) (values_past block at c e w name h))
    noting_past h (more place f z l) = more place f z l

    noting_here : at < 16384 → same_name (cut block at c) name ≡ true → Noting block name at note → Noting block name (e + 2) (marked note at)
    noting_here low h = go
      where
        line : Stands block at
        line = record { colon = c; end = e; is = w }

        own : from block name at ≡ own_at block at
        own = values_own block at c e w name h

        next : from block name at ≡ front_at block at ∷ from block name (e + 2)
        next = own ∙ own_more block at line ∙ ap (λ vs. front_at block at ∷ vs) (same_values (cut block at c) name h (lines_in (drop (e + 2) block)))

        go : Noting block name at note → Noting block name (e + 2) (marked note at)
        go (none z v) = one at (record { low = low; stands = line; values = v ∙ own }) (rw z) (v ∙ next)
        go (one place f z v) =
            more place f (rw (ne_eqb note 0 (omega arith), lt-leb 32768 note (omega (arith, f.low))) (omega arith)) (rw (v, next) (omega arith))
        go (more place f z l) = more place f (rw (ne_eqb note 0 (omega arith), le-leb 32768 note (omega arith)) z) l

-- where no two names are the same, a line changes the note on the name that it bears alone
pub noting_next : (ns : List (List ℕ)) {block : List ℕ} {at c e i : ℕ} (number : Option ℕ) (notes : List ℕ) → WholeLine block at c e → at < 16384 → Apart ns
    → length ns ≤ length notes → NumberIs ns (cut block at c) number → i < length ns → Noting block (get_or ns i []) at (get_or notes i 0)
    → Noting block (get_or ns i []) (e + 2) (get_or (marked_in notes number at) i 0)
noting_next ns {c = c} {e = e} {i = i} None notes w low apart room is h n = noting_past c e w (is i h) n
noting_next ns {block} {at} {c} {e} {i} (Some number) notes w low apart room is h n =
    tested (eqb i number)
    (λ s. let here = eqb-true i number s in
    rw (← here, get_or-set_same notes i (marked (get_or notes i 0) at) 0 (omega arith)) (noting_here c e w low (rw here is.bears) n))
    (λ s. let other = eqb-false i number s in
    let line = same_left (cut block at c) (get_or ns number []) (get_or ns i []) is.bears in
    rw (get_or-set_other notes number i (marked (get_or notes number 0) at) 0 other)
    (noting_past c e w (line ∙ apart number i is.within h (λ q. other (sym q))) n))
