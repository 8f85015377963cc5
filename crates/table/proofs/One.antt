-- A table of one record, as the thin entry has it: its one record, the rule, and where a session stands.
-- Assumes nothing.
use mathlib.Core.Path.{◌≡◌, refl, sym, ap, ◌∙◌}
use mathlib.Core.Bool.{Bool, true, false, not, cond, ◌&&◌}
use mathlib.Core.List.{List, [], ◌∷◌}
use Prim.Native.Nat.{ℕ, ◌*◌, ◌/◌}
use native.Mathlib.Omega.{arith}
use lib.ListN.{length}
use lib.Seq.{take_all}
use Rattle.std.specs.Prelude.{Some, None}
use Rattle.cells.specs.Runs.{spliced}
use Rattle.cells.proofs.Runs.{spliced_front, fronted_whole}
use Rattle.table.specs.declared.session.Record.{Record}
use Rattle.table.specs.Record.{size, record_bytes, record_of, Fits}
use Rattle.table.specs.Table.{places, record_at, chunks, records, is_used, holds, found}
use Rattle.table.specs.WellFormed.{sound, fitting, well_formed}
use Rattle.table.proofs.Records.{length_record_bytes, record_of_bytes}

-- no record comes after it
alone : (a b : Bool) → ((a && not (b && false)) && true) ≡ a
alone true true = refl
alone true false = refl
alone false b = refl

module _ (r : Record) (f : Fits r) where
  pub one_place : places (record_bytes r) ≡ 1
  one_place = ap (λ (n : ℕ). n / size) (length_record_bytes r f.iv)

  -- read from its place
  pub one_record : record_at (record_bytes r) 0 ≡ r
  one_record = ap record_of (take_all size (record_bytes r) (omega (arith, length_record_bytes r f.iv))) ∙ record_of_bytes r f

  pub records_single : records (record_bytes r) ≡ r ∷ []
  unfolding records
  records_single =
      ap (λ (n : ℕ). chunks n (record_bytes r)) one_place
      ∙ ap (λ (x : Record). x ∷ []) one_record

  pub one_rule : well_formed (records (record_bytes r)) ≡ sound r
  unfolding well_formed fitting
  one_rule = rw records_single (alone (sound r) (is_used r))

  pub one_found : (iv : List ℕ) → found (records (record_bytes r)) iv ≡ cond (holds iv r) (Some 0) None
  unfolding found
  one_found iv = rw records_single

pub one_stored : (r next : Record) → length r.iv ≡ 12 → length next.iv ≡ 12 → spliced (record_bytes r) (size * 0) (record_bytes next) ≡ record_bytes next
one_stored r next f g =
    spliced_front (record_bytes r) (record_bytes next)
    ∙ fronted_whole (record_bytes next) (record_bytes r) (length_record_bytes next g ∙ sym (length_record_bytes r f))
