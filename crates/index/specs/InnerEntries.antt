-- An index entry by entry, as the code reads and writes it.
-- Assumes nothing.
use Rattle.std.specs.Prelude.{ℕ, zero, suc, ◌+◌, ◌-◌, ◌*◌, ◌≤◌, ◌<◌, ◌≡◌, List, Bool, true, false, cond, ◌&&◌, ◌||◌, length, get_or, eqb, ltb, Option, Some, None}
use Rattle.table.specs.declared.session.Record.{Record}
use Rattle.table.specs.Record.{freed}
use Rattle.table.specs.Table.{is_used}
use Rattle.table.specs.WellFormed.{sound}
use Rattle.index.specs.Index.{precedes, lower, among, ranked_to, vacant, filled, coded}
use Rattle.index.specs.Fits.{UsedAt, Stands}

-- entry k of an index's bytes
abbrev pub entry_at : List ℕ → ℕ → ℕ
entry_at index k = get_or index (2 * k) 0 * 256 + get_or index (2 * k + 1) 0

-- an entry that names a used record
abbrev pub used_at : List Record → ℕ → Bool
used_at table p = ltb p (length table) && is_used (get_or table p freed)

-- and one whose IV is lower than this
abbrev pub low_at : List Record → List ℕ → ℕ → Bool
low_at table iv p = used_at table p && precedes (get_or table p freed).iv iv

-- entry k names a used record, whose IV is above that of the entry before it
unfoldable pub rises_at : List Record → List ℕ → ℕ → Bool
rises_at table index k =
    used_at table (entry_at index k) && (eqb k 0 || lower table (entry_at index (k - 1)) (entry_at index k))

-- entry k names no record
abbrev pub vacant_at : List ℕ → ℕ → Bool
vacant_at index k = eqb (entry_at index k) vacant

-- how many of the first n records are used
unfoldable pub used_to : List Record → ℕ → ℕ
used_to table zero = 0
used_to table (suc n) = cond (is_used (get_or table n freed)) (suc (used_to table n)) (used_to table n)

-- whether a test holds of the first n numbers
unfoldable pub every : (ℕ → Bool) → ℕ → Bool
every test zero = true
every test (suc n) = every test n && test n

abbrev pub sound_at : List Record → ℕ → Bool
sound_at table p = sound (get_or table p freed)

-- all records are sound, and this many used; or one is not sound
abbrev pub TallyIs : List Record → Option ℕ → Type 0
TallyIs table (Some count) = (every (sound_at table) (length table) ≡ true) × (count ≡ used_to table (length table))
TallyIs table None = every (sound_at table) (length table) ≡ false

-- an index holds some places of used records by rising IV
pub record Holds (table : List Record) (index ps : List ℕ) : Type 0 where
  pub used : (p : ℕ) → Stands p ps → UsedAt table p
  pub rising : (i j : ℕ) → i < j → j < length ps → lower table (get_or ps i 0) (get_or ps j 0) ≡ true
  pub few : length ps ≤ length table
  pub small : length table ≤ vacant
  pub bytes : index ≡ coded (filled (length table) ps)

pub record Ordered (table : List Record) (index : List ℕ) : Type 0 where
  pub ps : List ℕ
  pub holds : Holds table index ps

-- the entries before r are of lower IVs, those from r on of no lower one
pub record Ranks (table : List Record) (index iv : List ℕ) (r : ℕ) : Type 0 where
  pub within : r ≤ length table
  pub below : (k : ℕ) → k < r → low_at table iv (entry_at index k) ≡ true
  pub above : (k : ℕ) → r ≤ k → k < length table → low_at table iv (entry_at index k) ≡ false

-- a place that may be put among the others
pub record Enterable (table : List Record) (index : List ℕ) (place : ℕ) : Type 0 where
  pub ps : List ℕ
  pub holds : Holds table index ps
  pub room : length ps < length table
  pub used : UsedAt table place
  pub other : (p : ℕ) → Stands p ps → (get_or table p freed).iv ≡ (get_or table place freed).iv → ⊥

-- it is put there
abbrev pub Entered : List Record → List ℕ → List ℕ → ℕ → Type 0
Entered table before after place =
    (ps : List ℕ) → Holds table before ps → length ps < length table → after ≡ coded (filled (length table) (among table place ps))

-- the places of the first n records, of those that are used
pub record Made (table : List Record) (n : ℕ) (index : List ℕ) : Type 0 where
  pub small : length table ≤ vacant
  pub bytes : index ≡ coded (filled (length table) (ranked_to table n))
