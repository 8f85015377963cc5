-- The sessions of a table that is lent as bytes: an empty table, one with a record stored, and one with a session's record freed.
-- Assumes nothing.
use mathlib.Core.Path.{◌≡◌, refl, sym, ap, subst, ◌∙◌}
use mathlib.Core.List.{List, [], ◌∷◌}
use mathlib.Core.Option.{Option, none}
use Prim.Native.Nat.{ℕ, zero, suc, ◌+◌, ◌*◌, ◌<◌}
use native.Mathlib.Omega.{arith}
use lib.ListN.{length, get_or, set, replicate, length-replicate, replicate-append-replicate}
use Rattle.cells.specs.Runs.{spliced}
use Rattle.cells.specs.Numbers.{number}
use Rattle.hashes.specs.declared.Hash.{Hash}
use Rattle.table.specs.declared.session.Record.{Record}
use Rattle.std.specs.Prelude.{Option as Maybe, Some, None}
use Rattle.table.specs.Record.{size, record_bytes, record_of, Fits, freed}
use Rattle.table.specs.Table.{places, record_at, chunks, records}
use Rattle.table.proofs.Records.{length_records, records_at, records_stored, freed_fits}
use Rattle.table.proofs.Found.{found_at}
use Rattle.table.specs.Session.{place_of, with_record, without}
use Rattle.demands.specs.History.{empty}
use Rattle.demands.proofs.Shared.Stored.{replaced}
use Rattle.demands.proofs.History.Sessions.{Sessions, free_sessions, freed_sessions}

-- a table of n records, the IVs set up so far, and under each IV the nonces accepted so far and the hash that its latest setup chose
pub record Standing (n : ℕ) (table : List ℕ) (ivs : List (List ℕ)) (nonces : List ℕ → List ℕ) (hashes : List ℕ → Option Hash) : Type 0 where
  pub long : length table ≡ size * n
  pub sessions : Sessions (records table) ivs nonces hashes

-- the records of an empty table are free
empty_chunks : (n : ℕ) → chunks n (replicate (size * n) 0) ≡ replicate n freed
unfolding record_of number
empty_chunks zero = refl
empty_chunks (suc n) =
    let split : size * suc n ≡ size + size * n = omega arith in
    ap (λ (k : ℕ). chunks (suc n) (replicate k 0)) split
    ∙ ap (λ (l : List ℕ). chunks (suc n) l) (sym (replicate-append-replicate size (size * n) 0))
    ∙ ap (λ (l : List Record). freed ∷ l) (empty_chunks n)

pub empty_records : (n : ℕ) → records (empty n).table ≡ replicate n freed
unfolding records
empty_records n =
    let all : places (empty n).table ≡ n = omega (arith, length-replicate {A = ℕ} (size * n) 0) in
    ap (λ (k : ℕ). chunks k (empty n).table) all ∙ empty_chunks n

pub empty_standing : (n : ℕ) → Standing n (empty n).table [] (λ iv. []) (λ iv. none)
empty_standing n = record {
  long = length-replicate {A = ℕ} (size * n) 0;
  sessions = subst (λ (rs : List Record). Sessions rs [] (λ iv. []) (λ iv. none)) (sym (empty_records n)) (free_sessions n);
}

module _ (n : ℕ) (table : List ℕ) (ivs : List (List ℕ)) (nonces : List ℕ → List ℕ) (hashes : List ℕ → Option Hash) (s : Standing n table ivs nonces hashes) where
  within : (i : ℕ) → i < length (records table) → i < places table
  within i h = omega (arith, length_records table)

  -- the record at a place
  pub held : (i : ℕ) → i < length (records table) → record_at table i ≡ get_or (records table) i freed
  held i h = sym (records_at table i (within i h))

  -- a record stored
  pub stored_standing : (i : ℕ) (r : Record) {others : List (List ℕ)} {more : List ℕ → List ℕ} {kept : List ℕ → Option Hash} → i < length (records table) → Fits r
      → Sessions (set (records table) i r) others more kept → Standing n (spliced table (size * i) (record_bytes r)) others more kept
  stored_standing i r {others} {more} {kept} h f t = record {
    long = (replaced table i r (within i h) f).as_long ∙ s.long;
    sessions = subst (λ (rs : List Record). Sessions rs others more kept) (sym (records_stored table i r (within i h) f)) t;
  }

  -- the session's record freed, if there is one
  pub without_standing : (iv : List ℕ) → Standing n (without table iv) ivs nonces hashes
  unfolding without
  without_standing iv = by (place_of table iv) refl
    where
      by : (p : Maybe ℕ) → place_of table iv ≡ p → Standing n (with_record table p freed) ivs nonces hashes
      by (Some i) e =
          let h = (found_at (records table) iv i e).0 in
          stored_standing i freed h freed_fits (freed_sessions (records table) ivs nonces hashes s.sessions i h)
      by None e = s
