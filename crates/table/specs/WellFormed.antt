-- When a table is well formed: document 01, "Orders, records and sizes", and document 02, K2. As a test, and in their words.
-- Assumes nothing.
use Rattle.std.specs.Prelude.{ℕ, ◌<◌, ◌≡◌, List, [], ◌∷◌, ◌⊎◌, Bool, true, false, not, cond, ◌&&◌, ◌||◌, length, get_or, eqb}
use Rattle.cells.specs.Runs.{same}
use Rattle.window.specs.Window.{bit}
use Rattle.hashes.specs.Hashes.{names_one}
use Rattle.table.specs.declared.session.Record.{Record}
use Rattle.table.specs.Record.{freed}
use Rattle.table.specs.Table.{is_used, is_free, holds}

-- zero nonce and bits
abbrev pub traceless : Record → Bool
traceless r = eqb r.highest.0 0 && eqb r.bits 0

-- zeros in every field but the first mark
abbrev pub blank : Record → Bool
blank r = eqb r.expiry.0 0 && (eqb r.any 0 && (eqb r.hash 0 && (traceless r && same r.iv freed.iv)))

-- no nonce yet, and no trace of one; or one, and the lowest bit set
abbrev pub window_sound : Record → Bool
window_sound r = cond (eqb r.any 0) (traceless r) (eqb r.any 1 && bit r.bits 0)

-- a free record holds zeros; any other is used, with the mask of one hash and a sound window
unfoldable pub sound : Record → Bool
sound r = cond (is_free r) (blank r) (is_used r && (names_one r.hash && window_sound r))

abbrev pub some : (Record → Bool) → List Record → Bool
some test [] = false
some test (r ∷ rs) = test r || some test rs

-- a record is sound, and where it is used none of those after it has its IV
unfoldable pub fitting : Record → List Record → Bool
fitting r rs = sound r && not (is_used r && some (holds r.iv) rs)

unfoldable pub well_formed : List Record → Bool
well_formed [] = true
well_formed (r ∷ rs) = fitting r rs && well_formed rs

-- the marks are 0 or 1, free records hold zeros, a record with no nonce yet has zero nonce and bits, any other used record has its
-- lowest bit set, and a used record keeps one of the two hashes
pub record Sound (r : Record) : Type 0 where
  pub used : (r.used ≡ 0) ⊎ (r.used ≡ 1)
  pub any : (r.any ≡ 0) ⊎ (r.any ≡ 1)
  pub free : r.used ≡ 0 → r ≡ freed
  pub new : r.any ≡ 0 → (r.highest.0 ≡ 0) × (r.bits ≡ 0)
  pub lowest : r.used ≡ 1 → r.any ≡ 1 → bit r.bits 0 ≡ true
  pub hash : r.used ≡ 1 → (r.hash ≡ 1) ⊎ (r.hash ≡ 4)

pub record WellFormed (table : List Record) : Type 0 where
  pub each : (i : ℕ) → i < length table → Sound (get_or table i freed)
  -- no two used records have one IV
  pub apart : (i j : ℕ) → i < length table → j < length table → (get_or table i freed).used ≡ 1 → (get_or table j freed).used ≡ 1
      → (get_or table i freed).iv ≡ (get_or table j freed).iv → i ≡ j
