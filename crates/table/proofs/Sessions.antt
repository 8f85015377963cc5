-- The records of new sessions and of sessions whose window took a step: they are sound, and their bytes can hold them.
-- Assumes nothing.
use mathlib.Core.Path.{◌≡◌, refl, ap}
use mathlib.Core.List.{List}
use mathlib.Core.Logic.{◌⊎◌, inl, inr}
use mathlib.Core.Bool.{Bool, true, false}
use Prim.Native.Nat.{ℕ, ◌+◌, ◌*◌, ◌≤◌, ◌<◌, ◌^◌}
use native.Mathlib.Omega.{arith}
use borrow.Author.Tests.{eqb-true}
use lib.Dec.{lit<, eqb}
use lib.ListN.{length}
use Rattle.cells.specs.Runs.{part, Bytes}
use Rattle.cells.specs.Numbers.{number}
use Rattle.cells.proofs.Runs.{length_part}
use Rattle.cells.proofs.Cuts.{bytes_part}
use Rattle.cells.proofs.Numbers.{number_below}
use Rattle.hashes.specs.declared.Hash.{Hash}
use Rattle.hashes.specs.declared.Hash.TheVariants.{Sha256, Sha512}
use Rattle.hashes.proofs.Hashes.{mask_small}
use Rattle.hashes.specs.Hashes.{hash_mask}
use Rattle.window.specs.declared.Window.{Window}
use Rattle.window.specs.Window.{step_of}
use Rattle.window.specs.History.{is_accepted}
use Rattle.window.proofs.Steps.{accepted_any, accepted_lowest, bits_fit, highest_fits}
use Rattle.table.specs.declared.session.Record.{Record}
use Rattle.table.specs.Record.{size, Fits, begun, mark, window_of, with_window, record_of}
use Rattle.table.specs.Table.{places, record_at}
use Rattle.table.specs.WellFormed.{Sound}

-- a new session
pub begun_sound : (iv : List ℕ) (expiry : ℕ) (hash : Hash) → Sound (begun iv expiry (hash_mask hash))
begun_sound iv expiry hash = record {
  used = inr refl;
  any = inl refl;
  free = λ z. absurd (omega arith);
  new = λ z. (refl, refl);
  lowest = λ u a. absurd (omega arith);
  hash = λ u. one hash;
}
  where
    one : (h : Hash) → (hash_mask h ≡ 1) ⊎ (hash_mask h ≡ 4)
    one Sha256 = inl refl
    one Sha512 = inr refl

pub begun_fits : (iv : List ℕ) (expiry : ℕ) (hash : Hash) → length iv ≡ 12 → expiry < 2 ^ 32 → Fits (begun iv expiry (hash_mask hash))
begun_fits iv expiry hash l e =
    record { used = lit< tt; iv = l; expiry = e; any = lit< tt; highest = lit< tt; bits = lit< tt; hash = mask_small hash }

-- a used record whose window accepted a nonce
pub stepped_sound : (r : Record) (n : ℕ) → Sound r → r.used ≡ 1 → is_accepted (step_of (window_of r) n).verdict ≡ true
    → Sound (with_window r (step_of (window_of r) n).window)
stepped_sound r n s u e =
    let any : mark (step_of (window_of r) n).window.any ≡ 1 = ap mark (accepted_any (window_of r) n e) in
    record {
      used = inr u;
      any = inr any;
      free = λ z. absurd (omega arith);
      new = λ z. absurd (omega arith);
      lowest = λ o a. accepted_lowest (window_of r) n (λ p. s.lowest u (eqb-true r.any 1 p)) e;
      hash = s.hash;
    }

-- a record holds the window that it is given
pub window_of_with : (r : Record) (w : Window) → window_of (with_window r w) ≡ w
window_of_with r w = ap (λ (t : Bool). windowed t w.highest.0 w.bits) (told w.any)
  where
    windowed : Bool → ℕ → ℕ → Window
    windowed t highest bits = record { any = t; highest = record { 0 = highest }; bits = bits }

    told : (t : Bool) → eqb (mark t) 1 ≡ t
    told true = refl
    told false = refl

pub mark_fits : (t : Bool) → mark t < 256
mark_fits true = lit< tt
mark_fits false = lit< tt

pub stepped_fits : (r : Record) (n : ℕ) → Fits r → n < 2 ^ 32 → Fits (with_window r (step_of (window_of r) n).window)
stepped_fits r n f h = record {
  used = f.used;
  iv = f.iv;
  expiry = f.expiry;
  any = mark_fits (step_of (window_of r) n).window.any;
  highest = highest_fits (window_of r) n f.highest h;
  bits = bits_fit (window_of r) n f.bits;
  hash = f.hash;
}

-- the record of any bytes
pub record_of_fits : (bytes : List ℕ) → length bytes ≡ size → Bytes bytes → Fits (record_of bytes)
unfolding record_of
record_of_fits bytes long b = record {
  used = b 0;
  iv = length_part bytes 1 12 (omega arith);
  expiry = below 13 4 (omega arith);
  any = b 17;
  highest = below 18 4 (omega arith);
  bits = below 22 8 (omega arith);
  hash = b 30;
}
  where
    below : (at n : ℕ) → at + n ≤ length bytes → number (part bytes at n) < 2 ^ (8 * n)
    below at n h = rw (length_part bytes at n h) at (number_below (part bytes at n) (bytes_part bytes at n b))

pub record_at_fits : (bytes : List ℕ) (place : ℕ) → place < places bytes → Bytes bytes → Fits (record_at bytes place)
record_at_fits bytes place h b =
    record_of_fits (part bytes (size * place) size) (length_part bytes (size * place) size (omega arith)) (bytes_part bytes (size * place) size b)
