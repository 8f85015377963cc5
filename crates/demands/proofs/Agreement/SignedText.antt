-- The signed text that judging uses is document 01's, with the method in front (document 02, K3), of the bytes that the request carries: 'h, ah,
-- eah (empty if absent), n if carried, t, lt (all as decoded bytes), covered values by rising bit, extra values in eah order, path, body'. So for
-- every request that passed checks 1 to 9.
-- Assumes nothing.
use mathlib.Core.Path.{◌≡◌, refl, ap, ◌∙◌}
use mathlib.Core.Bool.{Bool, true, false, cond}
use mathlib.Core.Option.{none, some}
use Prim.Native.Nat.{◌%◌}
use native.Mathlib.Omega.{arith}
use borrow.Author.Tests.{eqb-true}
use lib.Dec.{eqb}
use Rattle.armor.specs.Numerals.{number_bytes}
use Rattle.armor.specs.Keys.{key_t, key_lt, key_n}
use Rattle.armor.proofs.Numerals.{mask_of_mask_bytes}
use Rattle.armor.proofs.Carried.{time_bytes, last_time_bytes, nonce_bytes}
use Rattle.signed.specs.SignedText as Text
use Rattle.signed.specs.SignedText.{signed_text, signed_of, request_text}
use Rattle.gate.specs.State.{State}
use Rattle.stages.specs.Request.{Request}
use Rattle.stages.specs.Parts.{fields_of, nonce_of, time_of, last_time_of, text_of}
use Rattle.demands.proofs.Shared.Passed.{Passed}
use Rattle.demands.proofs.Shared.Carried.{hash_ordered, mask_ordered, names_ordered, mask_fits, nonce_ordered}
use Rattle.demands.specs.Agreement.{carries, carries_times, signed_by}

pub time_carried : (q : Request) (state : State) → Passed q state → number_bytes (time_of q) ≡ carries key_t q
unfolding time_of fields_of
time_carried q state p = time_bytes q.value p.value

pub last_time_carried : (q : Request) (state : State) → Passed q state → number_bytes (last_time_of q) ≡ carries key_lt q
unfolding last_time_of fields_of
last_time_carried q state p = last_time_bytes q.value p.value

pub nonce_carried : (q : Request) (state : State) → Passed q state → carries_times key_n q ≡ 1 → number_bytes (nonce_of q) ≡ carries key_n q
unfolding nonce_of fields_of
nonce_carried q state p one = nonce_bytes q.value p.value one

n_carried : (q : Request) (state : State) → Passed q state
    → Text.nonce_of q.orders.numbers.mask (nonce_of q) ≡ cond (eqb (carries_times key_n q) 1) (some (carries key_n q)) none
unfolding Text.nonce_of
n_carried q state p = rw (nonce_ordered q state p) (by (eqb (q.orders.numbers.mask % 2) 1) refl)
  where
    by : (t : Bool) → eqb (q.orders.numbers.mask % 2) 1 ≡ t → cond t (some (number_bytes (nonce_of q))) none ≡ cond t (some (carries key_n q)) none
    by true e = ap some (nonce_carried q state p (nonce_ordered q state p ∙ eqb-true (q.orders.numbers.mask % 2) 1 e))
    by false e = refl

pub text_carried : (q : Request) (state : State) → Passed q state → text_of q ≡ signed_text (signed_by q)
unfolding text_of request_text signed_of
text_carried q state p =
    rw (hash_ordered q state p, mask_ordered q state p, names_ordered q state p, mask_of_mask_bytes q.orders.numbers.mask (omega (arith, mask_fits q state p)), ← (n_carried q state p), ← (time_carried q state p), ← (last_time_carried q state p))
