-- What a request carries that passed checks 1 to 9: h, ah and eah as the orders say, n exactly if they order nonces, and numbers of 32 bits.
-- Assumes nothing.
use mathlib.Core.Path.{◌≡◌, sym, ap, ◌∙◌}
use mathlib.Core.Bool.{true}
use mathlib.Core.List.{List, [], ◌∷◌}
use Prim.Native.Nat.{ℕ, ◌%◌, ◌≤◌, ◌<◌, ◌^◌}
use native.Mathlib.Omega.{arith}
use borrow.Author.Tests.{eqb-true}
use lib.Dec.{eqb}
use lib.ListN.{length}
use Rattle.cells.specs.Runs.{same}
use Rattle.cells.specs.Numbers.{number}
use Rattle.cells.proofs.Equality.{same_equal}
use Rattle.std.specs.Prelude.{Ok}
use Rattle.hashes.specs.Hashes.{hash_mask, digest_size, allowed_one}
use Rattle.hashes.proofs.Hashes.{named_mask, allowed_names}
use Rattle.armor.specs.Numerals.{mask_bytes, mask_of}
use Rattle.armor.specs.Keys.{key_t, key_lt, key_n, key_h, key_ah, key_c, key_eah}
use Rattle.armor.specs.Value.{Field, carried}
use Rattle.armor.specs.Fields.{times, the, nonce_bit}
use Rattle.armor.specs.InnerAnswers.{request_answer}
use Rattle.armor.proofs.Numerals.{number_small, mask_of_mask_bytes}
use Rattle.armor.proofs.Noting.{none_held}
use Rattle.armor.proofs.Carried.{hash_bytes, carried_bytes, request_given, request_sizes, nonce_times}
use Rattle.orders.proofs.Orders.{good_mask}
use Rattle.cells.proofs.Tests.{both}
use Rattle.coverage.specs.Coverage.{as_ordered, hash_as_ordered, extra_as_ordered}
use Rattle.gate.specs.State.{State}
use Rattle.stages.specs.Request.{Request}
use Rattle.stages.specs.Parts.{fields_of, hash_of, nonce_of, time_of, last_time_of}
use Rattle.demands.proofs.Shared.Passed.{Passed}

-- the numbers that a good value carries have 32 bits
small : (v : List ℕ) → request_answer v ≡ Ok tt → (k : ℕ) → length (the k (carried v)) ≤ 4 → number (the k (carried v)) < 2 ^ 32
small v good k few = number_small (the k (carried v)) (carried_bytes v (carried v) k (request_given v good).0) few

extra_ordered : (extra : List ℕ) (fs : List Field) → extra_as_ordered extra fs ≡ true → the key_eah fs ≡ extra
extra_ordered [] fs e = none_held key_eah fs (eqb-true (times key_eah fs) 0 e)
extra_ordered (b ∷ bs) fs e = same_equal (the key_eah fs) (b ∷ bs) (both (eqb (times key_eah fs) 1) (same (the key_eah fs) (b ∷ bs)) e).1

-- eah is carried once with extra names, and not without
abbrev pub named : List ℕ → ℕ
named [] = 0
named (b ∷ bs) = 1

extra_times : (extra : List ℕ) (fs : List Field) → extra_as_ordered extra fs ≡ true → times key_eah fs ≡ named extra
extra_times [] fs e = eqb-true (times key_eah fs) 0 e
extra_times (b ∷ bs) fs e = eqb-true (times key_eah fs) 1 (both (eqb (times key_eah fs) 1) (same (the key_eah fs) (b ∷ bs)) e).0

module _ (q : Request) (state : State) (p : Passed q state) where
  covered : (hash_as_ordered q.orders.numbers.hashes (fields_of q) ≡ true) × (same (the key_ah (fields_of q)) (mask_bytes q.orders.numbers.mask) ≡ true) × (extra_as_ordered q.orders.extra (fields_of q) ≡ true)
  unfolding as_ordered
  covered =
      let hash = both (hash_as_ordered q.orders.numbers.hashes (fields_of q)) _ p.covers in
      let rest = both (same (the key_ah (fields_of q)) (mask_bytes q.orders.numbers.mask)) (extra_as_ordered q.orders.extra (fields_of q)) hash.1 in
      (hash.0, rest.0, rest.1)

  hash_covered : (allowed_one q.orders.numbers.hashes (mask_of (the key_h (fields_of q))) ≡ true) × (length (the key_c (fields_of q)) ≡ digest_size (hash_of q))
  unfolding hash_of
  hash_covered =
      let both_hold = both (allowed_one q.orders.numbers.hashes (mask_of (the key_h (fields_of q)))) _ covered.0 in
      (both_hold.0, eqb-true _ _ both_hold.1)

  -- h is the mask of the hash that it names, which the orders allow, and c is of its length
  pub hash_allowed : allowed_one q.orders.numbers.hashes (hash_mask (hash_of q)) ≡ true
  unfolding hash_of
  hash_allowed = rw (named_mask _ (allowed_names _ _ hash_covered.0)) hash_covered.0

  pub hash_ordered : the key_h (fields_of q) ≡ mask_bytes (hash_mask (hash_of q))
  unfolding hash_of fields_of
  hash_ordered = sym (hash_bytes q.value p.value) ∙ ap mask_bytes (sym (named_mask _ (allowed_names _ _ hash_covered.0)))

  pub signature_sized : length (the key_c (fields_of q)) ≡ digest_size (hash_of q)
  signature_sized = hash_covered.1

  pub mask_ordered : the key_ah (fields_of q) ≡ mask_bytes q.orders.numbers.mask
  mask_ordered = same_equal _ _ covered.1

  -- an eah that is not carried counts as an empty one
  pub names_ordered : the key_eah (fields_of q) ≡ q.orders.extra
  names_ordered = extra_ordered q.orders.extra (fields_of q) covered.2

  pub names_times : times key_eah (fields_of q) ≡ named q.orders.extra
  names_times = extra_times q.orders.extra (fields_of q) covered.2

  pub mask_fits : q.orders.numbers.mask < 2 ^ 56
  mask_fits = good_mask q.orders p.orders

  -- n is carried exactly if the orders ask for nonces
  pub nonce_ordered : times key_n (fields_of q) ≡ q.orders.numbers.mask % 2
  unfolding fields_of nonce_bit
  nonce_ordered =
      nonce_times q.value p.value
      ∙ ap (λ (m : ℕ). m % 2) (ap mask_of mask_ordered ∙ mask_of_mask_bytes q.orders.numbers.mask (omega (arith, mask_fits)))

  pub time_small : time_of q < 2 ^ 32
  unfolding time_of fields_of
  time_small = small q.value p.value key_t (request_sizes q.value p.value).t

  pub last_time_small : last_time_of q < 2 ^ 32
  unfolding last_time_of fields_of
  last_time_small = small q.value p.value key_lt (request_sizes q.value p.value).lt

  pub nonce_small : nonce_of q < 2 ^ 32
  unfolding nonce_of fields_of
  nonce_small = small q.value p.value key_n (request_sizes q.value p.value).n
