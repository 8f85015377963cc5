-- Invariants of the code: what a scan of a value has seen.
-- Assumes nothing.
use Rattle.std.specs.Prelude.{◌≡◌, ◌⊎◌, Bool, true, false, cond, List, [], ℕ, ◌+◌, ◌<◌, ◌≤◌, eqb, min, length, get_or, drop, set, replicate}
use Rattle.std.specs.Prelude as P
use Rattle.std.proofs.Math.Option.{none, some}
use Rattle.cells.specs.Runs.{cut}
use Rattle.base_64.specs.Decoding.{bytes, decoded}
use Rattle.armor.specs.declared.Span.{Span}
use Rattle.armor.specs.declared.key.Key.{Key}
use Rattle.armor.specs.declared.tally.Tally.{Tally}
use Rattle.armor.specs.declared.seen.Seen.{Seen}
use Rattle.armor.specs.declared.scanning.Piece.{Piece}
use Rattle.armor.specs.InnerTallies.{no_tally}
use Rattle.armor.specs.Pieces.{colon, semicolon, up_to}
use Rattle.armor.specs.Keys.{key_number, key_t, key_lt, key_n, key_h, key_ah, key_r, key_s, key_c, key_iv, key_tag, key_eah, other_key}
use Rattle.armor.specs.Value.{Field, piece_good, grammar, carried}
use Rattle.armor.specs.Fields.{contents, the}

-- the place of a key of the code
abbrev pub place : Key → ℕ
place Key.T = key_t
place Key.Lt = key_lt
place Key.N = key_n
place Key.H = key_h
place Key.Ah = key_ah
place Key.R = key_r
place Key.S = key_s
place Key.C = key_c
place Key.Iv = key_iv
place Key.Tag = key_tag
place Key.Eah = key_eah
place Key.Other = other_key

-- what the code tells of a good piece
pub record ReadAs (piece : List ℕ) (r : Piece) : Type 0 where
  pub good : piece_good piece ≡ true
  pub key : place r.key ≡ key_number (up_to colon piece)
  pub start : r.start ≡ length (up_to colon piece) + 1
  pub within : r.start ≤ length piece

abbrev pub PieceIs : List ℕ → P.Option Piece → Type 0
PieceIs piece P.None = piece_good piece ≡ false
PieceIs piece (P.Some r) = ReadAs piece r

-- the piece that starts at byte at ends before byte r
pub record Ends (v : List ℕ) (at r : ℕ) : Type 0 where
  pub is : r ≡ at + length (up_to semicolon (drop at v))
  pub within : r ≤ length v

-- what has been noted of contents: how many there are, up to two, and where the last one's text is; nowhere where there is none
pub record Kept (v : List ℕ) (t : Tally) (held : List (List ℕ)) : Type 0 where
  pub counted : t.count ≡ min 2 (length held)
  pub decodes : length held ≤ 1 → decoded (cut v t.text.start t.text.end) ≡ bytes (get_or held 0 [])

-- what was noted of a key: how often it was seen, up to two, and where its text stands, if it was seen once
abbrev pub tally_in : Seen → ℕ → Tally
tally_in seen k = get_or seen.tallies k no_tally

abbrev pub count_in : Seen → ℕ → ℕ
count_in seen k = (tally_in seen k).count

abbrev pub span_in : Seen → ℕ → P.Option Span
span_in seen k = cond (eqb (count_in seen k) 1) (P.Some (tally_in seen k).text) P.None

abbrev pub text_in : Seen → ℕ → List ℕ
text_in seen k = cut seen.value.now (tally_in seen k).text.start (tally_in seen k).text.end

-- what has been noted of fields
pub record Notes (seen : Seen) (fs : List Field) : Type 0 where
  pub total : seen.total ≡ min 2 (length fs)
  pub kept : (k : ℕ) → k < 12 → Kept seen.value.now (tally_in seen k) (contents k fs)

-- notes of a value that keeps its grammar
pub record Sound (seen : Seen) : Type 0 where
  pub kept : grammar seen.value.now ≡ some (carried seen.value.now)
  pub notes : Notes seen (carried seen.value.now)

-- each key is carried once or not: what its text encodes is what the key holds
pub record Single (seen : Seen) : Type 0 where
  pub decodes : (k : ℕ) → k < 12 → decoded (text_in seen k) ≡ bytes (the k (carried seen.value.now))

-- how long what the keys of a request hold is
pub record Sizes (fs : List Field) : Type 0 where
  pub t : length (the key_t fs) ≤ 4
  pub lt : length (the key_lt fs) ≤ 4
  pub n : length (the key_n fs) ≤ 4
  pub h : (1 ≤ length (the key_h fs)) × (length (the key_h fs) ≤ 9)
  pub ah : (1 ≤ length (the key_ah fs)) × (length (the key_ah fs) ≤ 9)
  pub s : (1 ≤ length (the key_s fs)) × (length (the key_s fs) ≤ 118)
  pub c : (length (the key_c fs) ≡ 32) ⊎ (length (the key_c fs) ≡ 64)
  pub iv : length (the key_iv fs) ≡ 12
  pub tag : length (the key_tag fs) ≡ 16

-- notes of a request whose set of fields is right
pub record Ready (seen : Seen) : Type 0 where
  pub notes : Notes seen (carried seen.value.now)
  pub single : Single seen
  pub sizes : Sizes (carried seen.value.now)

-- how long what the keys of a setup's reply hold is
pub record ReplySizes (fs : List Field) : Type 0 where
  pub s : (1 ≤ length (the key_s fs)) × (length (the key_s fs) ≤ 118)
  pub iv : length (the key_iv fs) ≡ 12
  pub tag : length (the key_tag fs) ≡ 16
  pub key : length (the other_key fs) ≡ 32
  pub h : (1 ≤ length (the key_h fs)) × (length (the key_h fs) ≤ 9)
  pub ah : (1 ≤ length (the key_ah fs)) × (length (the key_ah fs) ≤ 9)
  pub eah : length (the key_eah fs) ≤ 128

-- notes of a setup's reply whose set of fields is right
pub record ReadyReply (seen : Seen) : Type 0 where
  pub single : Single seen
  pub sizes : ReplySizes (carried seen.value.now)

abbrev pub Scanned : List ℕ → P.Option Seen → Type 0
Scanned v P.None = grammar v ≡ none
Scanned v (P.Some seen) = (seen.value.now ≡ v) × Sound seen

-- nothing noted of a value
pub record NoneSeen (v : List ℕ) (seen : Seen) : Type 0 where
  pub of : seen.value.now ≡ v
  pub tallies : seen.tallies ≡ replicate 12 no_tally
  pub total : seen.total ≡ 0

-- a field more
pub record OneMore (old : Seen) (key : ℕ) (text : Span) (new : Seen) : Type 0 where
  pub of : new.value.now ≡ old.value.now
  pub tallies : new.tallies ≡ set old.tallies key (record { count = min 2 (count_in old key + 1); text = text })
  pub total : new.total ≡ min 2 (old.total + 1)
