-- What a good value carries: bytes that are those of its numbers and masks, of the lengths that document 01 asks.
-- Assumes nothing.
use mathlib.Core.Path.{◌≡◌, refl, sym, ap, ◌∙◌}
use mathlib.Core.Bool.{true}
use mathlib.Core.List.{List, [], ◌∷◌}
use mathlib.Core.Option.{Option, none, some}
use Prim.Native.Nat.{ℕ}
use native.Mathlib.Omega.{arith}
use lib.Dec.{eqb, lit<}
use Rattle.cells.specs.Runs.{Bytes}
use Rattle.cells.specs.Numbers.{number}
use Rattle.std.specs.Prelude.{Ok}
use Rattle.armor.specs.Numerals.{number_bytes, mask_bytes, mask_of}
use Rattle.armor.specs.Keys.{mask, obeys, keys, key_number, rule_at, key_t, key_lt, key_n, key_h, key_ah}
use Rattle.armor.specs.Keys
use Rattle.armor.specs.Value.{Field, AllFormed, all_good, grammar, carried}
use Rattle.armor.specs.Fields.{contents, times, the, nonce_bit, request_fields}
use Rattle.armor.specs.InnerAnswers.{request_from, request_answer}
use Rattle.armor.specs.InnerScan.{Sizes}
use Rattle.cells.proofs.Tests.{tested}
use Rattle.armor.proofs.Numerals.{number_bytes_number, mask_bytes_mask_of}
use Rattle.armor.proofs.Value.{grammar_exactly}
use Rattle.armor.proofs.Noting.{obeyed_once}
use Rattle.armor.proofs.Scan.{carried_is}
use Rattle.armor.proofs.Requests.{Required, request_parts, sizes}

-- what a key holds are bytes
held_bytes : (k : ℕ) (fs : List Field) → AllFormed fs → Bytes (the k fs)
unfolding the contents
held_bytes k [] h = λ i. lit< tt
held_bytes k (f ∷ fs) h = tested (eqb (key_number f.key) k) (λ e. rw e h.0.of_bytes) (λ e. rw e (held_bytes k fs h.1))

pub carried_bytes : (v : List ℕ) (fs : List Field) (k : ℕ) → grammar v ≡ some fs → Bytes (the k fs)
carried_bytes v fs k e = held_bytes k fs ((grammar_exactly v fs).0 e).0.formed

-- a good request
good_from : (v : List ℕ) (o : Option (List Field)) → grammar v ≡ o → request_from o ≡ Ok tt
    → (grammar v ≡ some (carried v)) × (request_fields (carried v) ≡ true)
good_from v none p e = absurd (let z : ◌≡◌ {A = ℕ} 0 1 = cc in omega arith)
good_from v (some fs) p e =
    let same : carried v ≡ fs = carried_is v fs p in
    (p ∙ ap some (sym same), ap request_fields same ∙ tested (request_fields fs) (λ t. t) (λ t. absurd (let z : ◌≡◌ {A = ℕ} 0 1 = cc in omega arith)))

pub request_given : (v : List ℕ) → request_answer v ≡ Ok tt → (grammar v ≡ some (carried v)) × (request_fields (carried v) ≡ true)
unfolding request_answer
request_given v e = good_from v (grammar v) refl e

module _ (v : List ℕ) (good : request_answer v ≡ Ok tt) where
  kept : grammar v ≡ some (carried v)
  kept = (request_given v good).0

  sound : all_good (carried v) ≡ true
  sound = ((grammar_exactly v (carried v)).0 kept).1

  -- how often each key is carried: n exactly if bit 0 of ah is set
  pub request_has : Required (λ k. times k (carried v))
  request_has = (request_parts (carried v) (request_given v good).1).0

  pub nonce_times : times key_n (carried v) ≡ nonce_bit (carried v)
  nonce_times = (request_parts (carried v) (request_given v good).1).1

  -- how long what they hold is
  pub request_sizes : Sizes (carried v)
  request_sizes = sizes (carried v) sound (request_given v good).1

  number_held : (k : ℕ) → rule_at k ≡ Keys.number → times k (carried v) ≡ 1 → number_bytes (number (the k (carried v))) ≡ the k (carried v)
  unfolding obeys
  number_held k e one = number_bytes_number (the k (carried v)) (carried_bytes v (carried v) k kept) (rw e at (obeyed_once (carried v) k sound one))

  mask_held : (k : ℕ) → rule_at k ≡ mask → times k (carried v) ≡ 1 → mask_bytes (mask_of (the k (carried v))) ≡ the k (carried v)
  unfolding obeys
  mask_held k e one = mask_bytes_mask_of (the k (carried v)) (carried_bytes v (carried v) k kept) (rw e at (obeyed_once (carried v) k sound one))

  -- the bytes are those of the numbers and masks
  pub time_bytes : number_bytes (number (the key_t (carried v))) ≡ the key_t (carried v)
  unfolding rule_at keys
  time_bytes = number_held key_t refl request_has.t

  pub last_time_bytes : number_bytes (number (the key_lt (carried v))) ≡ the key_lt (carried v)
  unfolding rule_at keys
  last_time_bytes = number_held key_lt refl request_has.lt

  pub nonce_bytes : times key_n (carried v) ≡ 1 → number_bytes (number (the key_n (carried v))) ≡ the key_n (carried v)
  unfolding rule_at keys
  nonce_bytes = number_held key_n refl

  pub hash_bytes : mask_bytes (mask_of (the key_h (carried v))) ≡ the key_h (carried v)
  unfolding rule_at keys
  hash_bytes = mask_held key_h refl request_has.h

  pub coverage_bytes : mask_bytes (mask_of (the key_ah (carried v))) ≡ the key_ah (carried v)
  unfolding rule_at keys
  coverage_bytes = mask_held key_ah refl request_has.ah
