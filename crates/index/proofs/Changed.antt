-- An index after an entry was made or taken out.
-- Assumes nothing.
use mathlib.Core.Path.{◌≡◌, refl, sym, ap, subst, ◌∙◌}
use mathlib.Core.List.{List, [], ◌∷◌, ◌++◌, append-nil}
use Prim.Native.Nat.{ℕ, ◌-◌, ◌*◌, ◌≤◌, ◌<◌}
use native.Mathlib.Omega.{arith}
use lib.ListN.{length, get_or, take, drop, length-drop, drop_of_length-le}
use lib.Seq.{take_all}
use Rattle.cells.specs.Numbers.{bytes_of}
use Rattle.table.specs.declared.session.Record.{Record}
use Rattle.table.specs.Record.{freed}
use Rattle.table.specs.Table.{record_at, records}
use Rattle.table.proofs.Records.{length_records, records_at}
use Rattle.index.specs.Index.{among, ranked, filled, coded}
use Rattle.index.specs.Fits.{UsedAt, Stands}
use Rattle.index.specs.InnerEntries.{Holds, Ranks}
use Rattle.index.proofs.Ranked.{removed, in_stands, ranked_in}
use Rattle.index.proofs.Coded.{opened, closed}
use Rattle.index.proofs.Held.{holds_long}
use Rattle.index.proofs.Finding.{rank_is, rank_most, rank_among}

-- a place is taken out of some
pub record Without (table : List Record) (ps after : List ℕ) (place : ℕ) : Type 0 where
  pub at : ℕ
  pub within : at < length ps
  pub is : get_or ps at 0 ≡ place
  pub bytes : after ≡ coded (filled (length table) (removed at ps))

-- the rank of the IV of the record that is read at a place
pub ranks_of : (bytes : List ℕ) {place : ℕ} {r : Record} → place < length (records bytes) → r ≡ record_at bytes place → {index : List ℕ} {at : ℕ}
    → Ranks (records bytes) index r.iv at → Ranks (records bytes) index (get_or (records bytes) place freed).iv at
ranks_of bytes {place} {r} inside read {index} {at} ranks =
    subst (λ (x : Record). Ranks (records bytes) index x.iv at) (read ∙ sym (records_at bytes place (omega (arith, length_records bytes)))) ranks

-- a used record's place stands among those of the used records
pub stands_of : (table : List Record) {place : ℕ} → UsedAt table place → Stands place (ranked table)
stands_of table used = in_stands _ _ (ranked_in _ _ _ used.0 used.1)

-- the entries from `at` on, lent and left
module _ (index : List ℕ) (at : ℕ) where
  abbrev pub lent_from : List ℕ
  lent_from = take (length index - 2 * at) (drop (2 * at) index)

  abbrev pub left_from : List ℕ → List ℕ
  left_from left = take (2 * at) index ++ (left ++ drop (length index - 2 * at) (drop (2 * at) index))

  lent_whole : lent_from ≡ drop (2 * at) index
  lent_whole = take_all (length index - 2 * at) (drop (2 * at) index) (omega (arith, length-drop (2 * at) index))

  lent_long : length lent_from ≡ length index - 2 * at
  lent_long = ap length lent_whole ∙ length-drop (2 * at) index

  left_whole : (left : List ℕ) → left_from left ≡ take (2 * at) index ++ left
  left_whole left =
      let nothing : drop (length index - 2 * at) (drop (2 * at) index) ≡ [] = drop_of_length-le (drop (2 * at) index) {i = length index - 2 * at} (omega (arith, length-drop (2 * at) index)) in
      rw (nothing, append-nil)

module _ {table : List Record} {index ps : List ℕ} (h : Holds table index ps) (place : ℕ) {at : ℕ} (r : Ranks table index (get_or table place freed).iv at) where
  pub room_made : length ps < length table → 2 ≤ length (lent_from index at)
  room_made room = omega (arith, lent_long index at, holds_long h, rank_most h r room)

  pub room_taken : Stands place ps → 2 ≤ length (lent_from index at)
  room_taken s =
      let here = rank_is h r s.at s.within (ap (λ (p : ℕ). (get_or table p freed).iv) s.is) in
      omega (arith, lent_long index at, holds_long h, s.within, h.few)

  pub entry_made : {left : List ℕ} → length ps < length table → left ≡ bytes_of 2 place ++ take (length (lent_from index at) - 2) (lent_from index at)
      → left_from index at left ≡ coded (filled (length table) (among table place ps))
  entry_made {left} room e =
      left_whole index at left
      ∙ ap (λ (l : List ℕ). take (2 * at) l ++ left) h.bytes
      ∙ opened (length table) at place ps (rank_most h r room) room (ap (drop (2 * at)) h.bytes) (rw (lent_whole index at) at e)
      ∙ ap (λ (l : List ℕ). coded (filled (length table) l)) (sym (rank_among h r place refl room))

  pub entry_taken : {left : List ℕ} → Stands place ps → left ≡ drop 2 (lent_from index at) ++ 255 ∷ 255 ∷ [] → Without table ps (left_from index at left) place
  entry_taken {left} s e =
      let here = rank_is h r s.at s.within (ap (λ (p : ℕ). (get_or table p freed).iv) s.is) in
      record {
        at = at;
        within = omega (arith, s.within);
        is = ap (λ (k : ℕ). get_or ps k 0) here ∙ s.is;
        bytes = left_whole index at left
            ∙ ap (λ (l : List ℕ). take (2 * at) l ++ left) h.bytes
            ∙ closed (length table) at ps (omega (arith, s.within)) h.few (ap (drop (2 * at)) h.bytes) (rw (lent_whole index at) at e);
      }
