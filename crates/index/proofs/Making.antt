-- An index made record by record.
-- Assumes nothing.
use mathlib.Core.Path.{◌≡◌, sym, ap, ◌∙◌}
use mathlib.Core.List.{List}
use mathlib.Core.Bool.{true, false}
use Prim.Native.Nat.{ℕ, ◌+◌, ◌*◌, ◌≤◌, ◌<◌}
use native.Mathlib.Numerals.{add-one}
use native.Mathlib.Omega.{arith}
use borrow.Author.Tests.{eq-eqb}
use lib.ListN.{length, get_or, replicate}
use Rattle.table.specs.declared.session.Record.{Record}
use Rattle.table.specs.Record.{freed}
use Rattle.table.specs.Table.{is_used}
use Rattle.table.specs.WellFormed.{WellFormed}
use Rattle.index.specs.Index.{among, ranked_to, vacant, filled, coded, index_of}
use Rattle.index.specs.InnerEntries.{Holds, Enterable, Entered, Made}
use Rattle.index.proofs.Ranked.{Rises, sorted_at, stands_in, in_ranked, length_ranked, used_most, ranked_rises}
use Rattle.index.proofs.Coded.{vacated}

ranked_unused : (table : List Record) (n : ℕ) → is_used (get_or table n freed) ≡ false → ranked_to table (n + 1) ≡ ranked_to table n
unfolding ranked_to
ranked_unused table n e = rw (add-one n, e)

ranked_used : (table : List Record) (n : ℕ) → is_used (get_or table n freed) ≡ true → ranked_to table (n + 1) ≡ among table n (ranked_to table n)
unfolding ranked_to
ranked_used table n e = rw (add-one n, e)

pub made_none : (table : List Record) (index : List ℕ) (n : ℕ) → length table ≤ vacant → n ≡ 2 * length table → index ≡ replicate n 255 → Made table 0 index
unfolding ranked_to
made_none table index n small long e =
    record { small = small; bytes = e ∙ ap (λ (k : ℕ). replicate k 255) long ∙ sym (vacated (length table)) }

pub made_all : (table : List Record) (n : ℕ) (index : List ℕ) → n ≡ length table → Made table n index → index ≡ index_of table
unfolding index_of
made_all table n index e m = m.bytes ∙ ap (λ (k : ℕ). coded (filled (length table) (ranked_to table k))) e

module _ (table : List Record) (w : WellFormed table) (place : ℕ) (within : place < length table) {index : List ℕ} (m : Made table place index) where
  pub made_unused : is_used (get_or table place freed) ≡ false → Made table (place + 1) index
  made_unused e = record {
    small = m.small;
    bytes = m.bytes ∙ ap (λ (ps : List ℕ). coded (filled (length table) ps)) (sym (ranked_unused table place e));
  }

  few : length (ranked_to table place) ≤ place
  few = omega (arith, length_ranked table place, used_most table place)

  held : Holds table index (ranked_to table place)
  held = record {
    used = λ p s. let u = in_ranked table place p (stands_in p (ranked_to table place) s) in (omega (arith, u.0), u.1);
    rising = sorted_at (Rises table) (ranked_to table place) (ranked_rises table w.apart place (omega arith));
    few = omega (arith, few);
    small = m.small;
    bytes = m.bytes;
  }

  module _ (u : (get_or table place freed).used ≡ 1) where
    pub made_enterable : Enterable table index place
    made_enterable = record {
      ps = ranked_to table place;
      holds = held;
      room = omega (arith, few);
      used = (within, u);
      other = λ p s e.
          let v = in_ranked table place p (stands_in p (ranked_to table place) s) in
          let one = w.apart p place (omega (arith, v.0)) within v.1 u e in
          absurd (omega (arith, v.0));
    }

    pub made_used : {after : List ℕ} → Entered table index after place → Made table (place + 1) after
    made_used entered = record {
      small = m.small;
      bytes = entered (ranked_to table place) held (omega (arith, few))
          ∙ ap (λ (ps : List ℕ). coded (filled (length table) ps)) (sym (ranked_used table place (eq-eqb _ _ u)));
    }
