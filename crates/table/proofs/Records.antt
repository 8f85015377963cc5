-- A record and its bytes determine each other, and so do the records of a table and its bytes.
-- Assumes nothing.
use mathlib.Core.Path.{◌≡◌, refl, sym, ap, ap₂, ◌∙◌}
use mathlib.Core.List.{List, [], ◌∷◌, ◌++◌, append_assoc}
use Prim.Native.Nat.{ℕ, zero, suc, ◌+◌, ◌-◌, ◌*◌, ◌/◌, ◌%◌, ◌^◌, ◌≤◌, ◌<◌}
use native.Mathlib.Nat.{zero-add, add-zero, suc-add}
use native.Mathlib.Omega.{arith}
use lib.Dec.{lit<}
use lib.ListN.{length, get_or, take, drop, set, replicate, length-append, length-take, length-drop, take-append-drop, drop_of_length-le}
use lib.Seq.{take-suc, take_at, drop_at, take-add, drop-drop, drop-cons, get_or_at, get_or-take, get_or-drop}
use Rattle.cells.specs.Runs.{spliced, part, Bytes}
use Rattle.cells.specs.Numbers.{bytes_of, number}
use Rattle.cells.proofs.Runs.{lent, spliced_front, fronted_whole, length_spliced, length_part}
use Rattle.cells.specs.InnerLaid.{Laid}
use Rattle.cells.proofs.Laid.{laid_more}
use Rattle.cells.proofs.Cuts.{bytes_part, part_part}
use Rattle.cells.proofs.Numbers.{length_bytes_of, number_of, bytes_of_number, number_append}
use Rattle.table.specs.declared.session.Record.{Record}
use Rattle.table.specs.Record.{size, record_bytes, record_of, Fits, freed}
use Rattle.table.specs.Table.{places, record_at, chunks, records}

laid : {out left text : List ℕ} {at : ℕ} (end : ℕ) → left ≡ spliced out at text → end ≡ at + length text → Laid out left at end text
laid end p q = record { is = p; ends = q }

-- a record's fields written one after the other
pub written : (r : Record) (out : List ℕ) {a b c d e f g : List ℕ} → length out ≡ size → length r.iv ≡ 12
    → a ≡ spliced out 0 (r.used ∷ [])
    → b ≡ spliced a 1 r.iv
    → c ≡ spliced b 13 (bytes_of 4 r.expiry.0)
    → d ≡ spliced c 17 (r.any ∷ [])
    → e ≡ spliced d 18 (bytes_of 4 r.highest.0)
    → f ≡ spliced e 22 (bytes_of 8 r.bits)
    → g ≡ spliced f 30 (r.hash ∷ [])
    → g ≡ record_bytes r
unfolding record_bytes
written r out long iv used vector expiry any highest bits hash =
    let to_expiry = laid_more (laid_more (laid 1 used refl) (laid 13 vector (omega arith)) (omega arith)) (laid 17 expiry (omega (arith, length_bytes_of 4 r.expiry.0))) (omega arith) in
    let to_highest = laid_more (laid_more to_expiry (laid 18 any refl) (omega arith)) (laid 22 highest (omega (arith, length_bytes_of 4 r.highest.0))) (omega arith) in
    let to_bits = laid_more to_highest (laid 30 bits (omega (arith, length_bytes_of 8 r.bits))) (omega arith) in
    let all = laid_more to_bits (laid 31 hash refl) (omega arith) in
    all.is ∙ spliced_front out _ ∙ fronted_whole _ out (omega (arith, all.ends)) ∙ simp append_assoc

pub length_record_bytes : (r : Record) → length r.iv ≡ 12 → length (record_bytes r) ≡ size
unfolding record_bytes
length_record_bytes r iv = simp (length-append, length_bytes_of) (omega arith)

-- what stands between two parts of a run
middle : (front field rest : List ℕ) (at n : ℕ) → length front ≡ at → length field ≡ n → part (front ++ (field ++ rest)) at n ≡ field
middle front field rest at n p q = ap (take n) (drop_at front (field ++ rest) at p) ∙ take_at field rest n q

-- two records with equal fields
pub alike : (r : Record) {used expiry any highest bits hash : ℕ} {iv : List ℕ}
    → used ≡ r.used → iv ≡ r.iv → expiry ≡ r.expiry.0 → any ≡ r.any → highest ≡ r.highest.0 → bits ≡ r.bits → hash ≡ r.hash
    → ◌≡◌ {A = Record} (record { used = used; iv = iv; expiry = record { 0 = expiry }; any = any; highest = record { 0 = highest }; bits = bits; hash = hash }) r
alike r a b c d e f g = rw (a, b, c, d, e, f, g)

-- what is left of a table of which a record's bytes were cleared
pub cleared : (bytes : List ℕ) (a e : ℕ) {left : List ℕ} → e ≤ length bytes → e - a ≡ size
    → left ≡ replicate (length (take (e - a) (drop a bytes))) 0
    → take a bytes ++ (left ++ drop (e - a) (drop a bytes)) ≡ spliced bytes a (record_bytes freed)
unfolding record_bytes bytes_of
cleared bytes a e h long left =
    lent bytes (record_bytes freed) a e
    (left ∙ ap (λ (n : ℕ). replicate n 0) (ap (λ (n : ℕ). length (take n (drop a bytes))) long ∙ length_part bytes a size (omega arith)))
    long

-- a record that fits comes back from its bytes
pub record_of_bytes : (r : Record) → Fits r → record_of (record_bytes r) ≡ r
unfolding record_of record_bytes
record_of_bytes r f =
    let iv = f.iv in
    let x = length_bytes_of 4 r.expiry.0 in
    let h = length_bytes_of 4 r.highest.0 in
    let w = length_bytes_of 8 r.bits in
    let expiry = bytes_of 4 r.expiry.0 in
    let highest = bytes_of 4 r.highest.0 in
    let bits = bytes_of 8 r.bits in
    let rest = bits ++ r.hash ∷ [] in
    let to_any : record_bytes r ≡ (r.used ∷ r.iv ++ expiry) ++ r.any ∷ (highest ++ rest) = simp append_assoc in
    let to_highest : record_bytes r ≡ (r.used ∷ r.iv ++ (expiry ++ r.any ∷ [])) ++ (highest ++ rest) = simp append_assoc in
    let to_bits : record_bytes r ≡ (r.used ∷ r.iv ++ (expiry ++ r.any ∷ highest)) ++ rest = simp append_assoc in
    let to_hash : record_bytes r ≡ (r.used ∷ r.iv ++ (expiry ++ r.any ∷ (highest ++ bits))) ++ r.hash ∷ [] = simp append_assoc in
    alike r refl
    (middle (r.used ∷ []) r.iv (expiry ++ r.any ∷ (highest ++ rest)) 1 12 refl iv)
    (ap number (middle (r.used ∷ r.iv) expiry (r.any ∷ (highest ++ rest)) 13 4 (omega arith) x) ∙ number_of 4 r.expiry.0 f.expiry)
    (ap (λ (l : List ℕ). get_or l 17 0) to_any ∙ get_or_at (r.used ∷ r.iv ++ expiry) r.any (highest ++ rest) 0 17 (simp length-append (omega arith)))
    (ap (λ (l : List ℕ). number (part l 18 4)) to_highest
    ∙ ap number (middle (r.used ∷ r.iv ++ (expiry ++ r.any ∷ [])) highest rest 18 4 (simp length-append (omega arith)) h)
    ∙ number_of 4 r.highest.0 f.highest)
    (ap (λ (l : List ℕ). number (part l 22 8)) to_bits
    ∙ ap number (middle (r.used ∷ r.iv ++ (expiry ++ r.any ∷ highest)) bits (r.hash ∷ []) 22 8 (simp length-append (omega arith)) w)
    ∙ number_of 8 r.bits f.bits)
    (ap (λ (l : List ℕ). get_or l 30 0) to_hash
    ∙ get_or_at (r.used ∷ r.iv ++ (expiry ++ r.any ∷ (highest ++ bits))) r.hash [] 0 30 (simp length-append (omega arith)))

-- the bytes of the number of a part are the part
field : (xs : List ℕ) (at n : ℕ) → at + n ≤ length xs → Bytes xs → bytes_of n (number (part xs at n)) ≡ part xs at n
field xs at n h b =
    ap (λ (k : ℕ). bytes_of k (number (part xs at n))) (sym (length_part xs at n h)) ∙ bytes_of_number (part xs at n) (bytes_part xs at n b)

-- a part and what comes after it
onward : (xs : List ℕ) (at n next : ℕ) → next ≡ at + n → part xs at n ++ drop next xs ≡ drop at xs
onward xs at n next e =
    ap (λ (l : List ℕ). part xs at n ++ l) (ap (λ (k : ℕ). drop k xs) e ∙ sym (drop-drop n at xs)) ∙ take-append-drop n (drop at xs)

-- a run as long as a record is the bytes of its record
pub record_bytes_of : (bytes : List ℕ) → length bytes ≡ size → Bytes bytes → record_bytes (record_of bytes) ≡ bytes
unfolding record_of record_bytes
record_bytes_of bytes long h =
    rw (field bytes 13 4 (omega arith) h, field bytes 18 4 (omega arith) h, field bytes 22 8 (omega arith) h)
    (rw (last, onward bytes 22 8 30 refl, onward bytes 18 4 22 refl, ← (drop-cons bytes 17 0 (omega arith)), onward bytes 13 4 17 refl, onward bytes 1 12 13 refl)
    (sym (drop-cons bytes 0 0 (omega arith))))
  where
    last : get_or bytes 30 0 ∷ [] ≡ drop 30 bytes
    last = sym (drop-cons bytes 30 0 (omega arith) ∙ ap (λ (l : List ℕ). get_or bytes 30 0 ∷ l) (drop_of_length-le bytes {i = 31} (omega arith)))

length_chunks : (n : ℕ) (bytes : List ℕ) → length (chunks n bytes) ≡ n
length_chunks zero bytes = refl
length_chunks (suc n) bytes = ap suc (length_chunks n (drop size bytes))

pub length_records : (bytes : List ℕ) → length (records bytes) ≡ places bytes
unfolding records
length_records bytes = length_chunks (places bytes) bytes

-- the records after i of them are those of the bytes after them
drop_chunks : (i n : ℕ) (bytes : List ℕ) → drop i (chunks (i + n) bytes) ≡ chunks n (drop (size * i) bytes)
drop_chunks zero n bytes = ap (λ (k : ℕ). chunks k bytes) (zero-add n)
drop_chunks (suc i) n bytes =
    let more : size + size * i ≡ size * suc i = omega arith in
    rw (suc-add i n) (drop_chunks i n (drop size bytes) ∙ rw (drop-drop (size * i) size bytes, more))

-- the records from a place on: the one there, and those after it
pub records_from : (bytes : List ℕ) (i : ℕ) → i < places bytes
    → drop i (records bytes) ≡ record_at bytes i ∷ drop (i + 1) (records bytes)
unfolding records
records_from bytes i h =
    let n = places bytes - suc i in
    let here : places bytes ≡ i + suc n = omega arith in
    let next : places bytes ≡ (i + 1) + n = omega arith in
    let after : size * i + size ≡ size * (i + 1) = omega arith in
    ap (λ (k : ℕ). drop i (chunks k bytes)) here ∙ drop_chunks i (suc n) bytes
    ∙ ap (λ (l : List Record). record_at bytes i ∷ l)
    (rw (drop-drop size (size * i) bytes, after) (sym (ap (λ (k : ℕ). drop (i + 1) (chunks k bytes)) next ∙ drop_chunks (i + 1) n bytes)))

pub records_at : (bytes : List ℕ) (i : ℕ) → i < places bytes → get_or (records bytes) i freed ≡ record_at bytes i
records_at bytes i h =
    ap (λ (k : ℕ). get_or (records bytes) k freed) (sym (add-zero i))
    ∙ sym (get_or-drop i (records bytes) 0 freed)
    ∙ ap (λ (l : List Record). get_or l 0 freed) (records_from bytes i h)

-- the fields of the record at a place, in the table's bytes
module _ (bytes : List ℕ) (place : ℕ) (h : place < places bytes) where
  pub used_at_lem : (record_at bytes place).used ≡ get_or bytes (size * place) 0
  unfolding record_of
  used_at_lem = rw (get_or-take size (drop (size * place) bytes) 0 0 (omega arith), get_or-drop (size * place) bytes 0 0, add-zero)

  pub iv_at : (record_at bytes place).iv ≡ part bytes (size * place + 1) 12
  unfolding record_of
  iv_at = part_part bytes (size * place) size 1 12 (omega arith) (omega arith)

  pub expiry_at : (record_at bytes place).expiry.0 ≡ number (part bytes (size * place + 13) 4)
  unfolding record_of
  expiry_at = ap number (part_part bytes (size * place) size 13 4 (omega arith) (omega arith))

  pub any_at : (record_at bytes place).any ≡ get_or bytes (size * place + 17) 0
  unfolding record_of
  any_at = get_or-take size (drop (size * place) bytes) 17 0 (omega arith) ∙ get_or-drop (size * place) bytes 17 0

  pub hash_at : (record_at bytes place).hash ≡ get_or bytes (size * place + 30) 0
  unfolding record_of
  hash_at = get_or-take size (drop (size * place) bytes) 30 0 (omega arith) ∙ get_or-drop (size * place) bytes 30 0

  -- the lowest bit is that of the last byte
  pub lowest_at : (record_at bytes place).bits % 2 ≡ get_or bytes (size * place + 29) 0 % 2
  unfolding record_of number
  lowest_at =
      let at = size * place + 22 in
      let last : at + 7 ≡ size * place + 29 = omega arith in
      let bits = ap number (part_part bytes (size * place) size 22 8 (omega arith) (omega arith) ∙ take-suc (drop at bytes) 7 0 (rw length-drop (omega arith))) in
      ap (λ (n : ℕ). n % 2) (bits ∙ number_append (take 7 (drop at bytes)) (get_or (drop at bytes) 7 0 ∷ []))
      ∙ even (number (take 7 (drop at bytes))) (get_or (drop at bytes) 7 0)
      ∙ ap (λ (b : ℕ). b % 2) (get_or-drop at bytes 7 0 ∙ ap (λ (i : ℕ). get_or bytes i 0) last)
    where
      even : (n b : ℕ) → (n * 2 ^ 8 + (b * 2 ^ 0 + 0)) % 2 ≡ b % 2
      even n b = omega arith

module _ (xs ys : List ℕ) (n k : ℕ) (h : n + k ≤ length xs) where
  regrouped : spliced xs (n + k) ys ≡ take n xs ++ (take k (drop n xs) ++ (ys ++ drop (length ys) (drop (n + k) xs)))
  unfolding spliced
  regrouped = rw (take-add n k xs) (append_assoc (take n xs) (take k (drop n xs)) (ys ++ drop (length ys) (drop (n + k) xs)))

  -- a splice after n elements keeps those, and is a splice of the others
  take_spliced : take n (spliced xs (n + k) ys) ≡ take n xs
  take_spliced = ap (take n) regrouped ∙ take_at (take n xs) _ n (length-take n xs ∙ omega arith)

  drop_spliced : drop n (spliced xs (n + k) ys) ≡ spliced (drop n xs) k ys
  unfolding spliced
  drop_spliced =
      ap (drop n) regrouped ∙ drop_at (take n xs) _ n (length-take n xs ∙ omega arith)
      ∙ ap (λ (l : List ℕ). take k (drop n xs) ++ (ys ++ drop (length ys) l)) (sym (drop-drop k n xs))

front_laid : (xs ys : List ℕ) {n : ℕ} → length ys ≡ n → spliced xs 0 ys ≡ ys ++ drop n xs
unfolding spliced
front_laid xs ys e = rw e

chunks_spliced : (i n : ℕ) (bytes ys : List ℕ) → i < n → size * n ≤ length bytes → length ys ≡ size
    → chunks n (spliced bytes (size * i) ys) ≡ set (chunks n bytes) i (record_of ys)
chunks_spliced i zero bytes ys h long e = absurd (omega arith)
chunks_spliced zero (suc n) bytes ys h long e =
    ap₂ (λ (a b : List ℕ). record_of a ∷ chunks n b)
    (ap (take size) (front_laid bytes ys e) ∙ take_at ys (drop size bytes) size e)
    (ap (drop size) (front_laid bytes ys e) ∙ drop_at ys (drop size bytes) size e)
chunks_spliced (suc i) (suc n) bytes ys h long e =
    let split : size * suc i ≡ size + size * i = omega arith in
    ap (λ (k : ℕ). chunks (suc n) (spliced bytes k ys)) split
    ∙ ap₂ (λ (a b : List ℕ). record_of a ∷ chunks n b)
    (take_spliced bytes ys size (size * i) (omega arith)) (drop_spliced bytes ys size (size * i) (omega arith))
    ∙ ap (λ (l : List Record). record_of (take size bytes) ∷ l)
    (chunks_spliced i n (drop size bytes) ys (omega arith) (rw length-drop (omega arith)) e)

-- a run as long as a record, laid over a place, replaces the record there and no other
pub records_spliced : (bytes ys : List ℕ) (i : ℕ) → i < places bytes → length ys ≡ size
    → records (spliced bytes (size * i) ys) ≡ set (records bytes) i (record_of ys)
unfolding records
records_spliced bytes ys i h e =
    ap (λ (n : ℕ). chunks (n / size) (spliced bytes (size * i) ys)) (length_spliced bytes ys (size * i) (omega arith))
    ∙ chunks_spliced i (places bytes) bytes ys h (omega arith) e

-- so does a stored record
pub records_stored : (bytes : List ℕ) (i : ℕ) (r : Record) → i < places bytes → Fits r
    → records (spliced bytes (size * i) (record_bytes r)) ≡ set (records bytes) i r
records_stored bytes i r h f =
    records_spliced bytes (record_bytes r) i h (length_record_bytes r f.iv)
    ∙ ap (set (records bytes) i) (record_of_bytes r f)

pub freed_fits : Fits freed
freed_fits = record { used = lit< tt; iv = refl; expiry = lit< tt; any = lit< tt; highest = lit< tt; bits = lit< tt; hash = lit< tt }
