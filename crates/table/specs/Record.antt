-- A session's record, and the bytes that a host lends for it: document 01, "Orders, records and sizes".
-- Assumes nothing.
use Rattle.std.specs.Prelude.{ℕ, ◌<◌, ◌^◌, ◌≡◌, List, [], ◌∷◌, ◌++◌, Bool, true, false, length, get_or, replicate, eqb}
use Rattle.cells.specs.Runs.{part}
use Rattle.cells.specs.Numbers.{bytes_of, number}
use Rattle.window.specs.declared.Window.{Window}
use Rattle.table.specs.declared.session.Record.{Record}

-- bytes in a record
abbrev pub size : ℕ
size = 31

-- used or free, the IV, the expiry, whether a nonce was accepted yet, the highest one, the bits, and the mask of the session's hash
-- (document 02, K2); numbers highest byte first
unfoldable pub record_bytes : Record → List ℕ
record_bytes r =
    r.used ∷ (r.iv ++ (bytes_of 4 r.expiry.0 ++ (r.any ∷ (bytes_of 4 r.highest.0 ++ (bytes_of 8 r.bits ++ (r.hash ∷ []))))))

unfoldable pub record_of : List ℕ → Record
record_of bytes = record {
  used = get_or bytes 0 0;
  iv = part bytes 1 12;
  expiry = record { 0 = number (part bytes 13 4) };
  any = get_or bytes 17 0;
  highest = record { 0 = number (part bytes 18 4) };
  bits = number (part bytes 22 8);
  hash = get_or bytes 30 0;
}

-- what a record's 31 bytes can hold
pub record Fits (r : Record) : Type 0 where
  pub used : r.used < 256
  pub iv : length r.iv ≡ 12
  pub expiry : r.expiry.0 < 2 ^ 32
  pub any : r.any < 256
  pub highest : r.highest.0 < 2 ^ 32
  pub bits : r.bits < 2 ^ 64
  pub hash : r.hash < 256

-- a free record holds zeros
abbrev pub freed : Record
freed = record { used = 0; iv = replicate 12 0; expiry = record { 0 = 0 }; any = 0; highest = record { 0 = 0 }; bits = 0; hash = 0 }

-- a new session's record holds the IV, the expiry, no nonce, and the mask of its hash
abbrev pub begun : List ℕ → ℕ → ℕ → Record
begun iv expiry hash =
    record { used = 1; iv = iv; expiry = record { 0 = expiry }; any = 0; highest = record { 0 = 0 }; bits = 0; hash = hash }

abbrev pub mark : Bool → ℕ
mark true = 1
mark false = 0

-- the window that a record holds, and the record with another
abbrev pub window_of : Record → Window
window_of r = record { any = eqb r.any 1; highest = r.highest; bits = r.bits }

abbrev pub with_window : Record → Window → Record
with_window r w = record {
  used = r.used;
  iv = r.iv;
  expiry = r.expiry;
  any = mark w.any;
  highest = w.highest;
  bits = w.bits;
  hash = r.hash;
}
