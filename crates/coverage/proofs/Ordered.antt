-- What a request holds as numbers and as a text tells whether its fields are those that the orders say.
-- Assumes nothing.
use mathlib.Core.Path.{◌≡◌, refl, sym, ap, ◌∙◌}
use mathlib.Core.Bool.{Bool, true, false, cond, not, false≢true, ◌&&◌}
use mathlib.Core.List.{List, [], ◌∷◌}
use mathlib.Core.Option.{Option, none, some, get_or}
use Prim.Native.Nat.{ℕ, ◌^◌, ◌<◌, ◌≤◌}
use native.Mathlib.Omega.{arith}
use lib.Dec.{eqb}
use lib.ListN.{length}
use borrow.Author.Tests.{eqb-true, eqb-false, eq-eqb, ne_eqb}
use Rattle.cells.specs.Runs.{Bytes, same}
use Rattle.cells.proofs.Equality.{same_self, same_not, same_equal}
use Rattle.base_64.specs.Encoding.{encoded}
use Rattle.base_64.proofs.Exactly.{encoded_injective}
use Rattle.std.specs.Prelude.{Result, Ok, Err, is_some, IfSome}
use Rattle.std.specs.Prelude as Prelude
use Rattle.armor.specs.declared.Unread.{Unread}
use Rattle.armor.specs.declared.Span.{Span}
use Rattle.armor.specs.declared.Request.{Request}
use Rattle.hashes.specs.Hashes.{digest_size, named, allowed_one}
use Rattle.armor.specs.Numerals.{mask_bytes, mask_of}
use Rattle.armor.specs.Keys.{key_ah, key_c, key_eah}
use Rattle.armor.specs.Value.{Field, grammar, carried}
use Rattle.armor.specs.Fields.{contents, times, the, right_times, request_fields}
use Rattle.armor.specs.InnerAnswers.{request_from, request_answer, Encodes, Holds}
use Rattle.armor.proofs.Numerals.{mask_of_mask_bytes}
use Rattle.armor.proofs.Carried.{request_given, request_has, coverage_bytes, carried_bytes}
use Rattle.coverage.specs.Coverage.{extra_as_ordered, as_ordered}
use Rattle.coverage.specs.InnerTold.{told}

-- fields that are those of a request come of a value that keeps its grammar
good_from : (o : Option (List Field)) → request_fields (get_or o []) ≡ true → request_from o ≡ Ok tt
unfolding request_fields right_times times contents
good_from none h = absurd (false≢true h)
good_from (some fs) h = let picked : Bool → Result Unit Unread = λ t. cond t (Ok tt) (Err Unread.Fields) in ap picked h

request_good : (v : List ℕ) → request_fields (carried v) ≡ true → request_answer v ≡ Ok tt
unfolding carried request_answer
request_good v h = good_from (grammar v) h

-- the bytes of a mask are compared by its number
mask_test : (bs : List ℕ) (k m : ℕ) → mask_bytes (mask_of bs) ≡ bs → k ≡ mask_of bs → m < 2 ^ 64 → same bs (mask_bytes m) ≡ eqb k m
mask_test bs k m whole e fits = by (eqb k m) refl
  where
    by : (t : Bool) → eqb k m ≡ t → same bs (mask_bytes m) ≡ t
    by true p =
        ap (λ (l : List ℕ). same l (mask_bytes m)) (sym whole ∙ ap mask_bytes (sym e ∙ eqb-true k m p)) ∙ same_self (mask_bytes m)
    by false p = same_not bs (mask_bytes m) (λ q. eqb-false k m p (e ∙ ap mask_of q ∙ mask_of_mask_bytes m fits))

-- runs of bytes are compared by their texts
text_test : (a b : List ℕ) → Bytes a → Bytes b → same a b ≡ same (encoded a) (encoded b)
text_test a b ha hb = by (same (encoded a) (encoded b)) refl
  where
    by : (t : Bool) → same (encoded a) (encoded b) ≡ t → same a b ≡ t
    by true p = ap (same a) (sym (encoded_injective a b ha hb (same_equal (encoded a) (encoded b) p))) ∙ same_self a
    by false p =
        same_not a b (λ e. false≢true (sym p ∙ ap (λ (l : List ℕ). same (encoded a) (encoded l)) (sym e) ∙ same_self (encoded a)))

none_test : (n : ℕ) (t : Bool) → n ≤ 1 → t ≡ eqb n 1 → eqb n 0 ≡ not t
none_test n true few e = ne_eqb n 0 (let one : n ≡ 1 = eqb-true n 1 (sym e) in λ z. omega arith)
none_test n false few e = eq-eqb n 0 (let more : n ≡ 1 → ⊥ = eqb-false n 1 (sym e) in omega arith)

module _ (v : List ℕ) (q : Request) (good : request_fields (carried v) ≡ true) (holds : Holds v (carried v) q) where
  answer : request_answer v ≡ Ok tt
  answer = request_good v good

  coverage_test : (m : ℕ) → m < 2 ^ 64 → same (the key_ah (carried v)) (mask_bytes m) ≡ eqb q.ah m
  coverage_test m fits = mask_test (the key_ah (carried v)) q.ah m (coverage_bytes v answer) holds.coverage fits

  pub ordered : (hashes mask : ℕ) (extra : List ℕ) {allowed covered : Bool} {size long : ℕ} → mask < 2 ^ 64 → long ≡ length (the key_c (carried v))
      → allowed ≡ allowed_one hashes q.h → size ≡ digest_size (named q.h) → covered ≡ extra_as_ordered extra (carried v)
      → ((allowed && eqb long size) && (eqb q.ah mask && covered)) ≡ as_ordered hashes mask extra (carried v)
  unfolding as_ordered
  ordered hashes mask extra fits l a s e = rw (l, a, s, e, holds.hash, coverage_test mask fits)

  -- what stands where eah's text is
  by_text : (o : Prelude.Option Span) → is_some o ≡ eqb (times key_eah (carried v)) 1 → IfSome o (λ t. Encodes v (the key_eah (carried v)) t)
      → (extra : List ℕ) → Bytes extra → told v o extra ≡ extra_as_ordered extra (carried v)
  by_text Prelude.None e h [] b = sym (none_test (times key_eah (carried v)) false (request_has v answer).eah e)
  by_text Prelude.None e h (x ∷ xs) b = rw (← e) (ne_eqb (length (x ∷ xs)) 0 (λ z. omega arith))
  by_text (Prelude.Some t) e h [] b = sym (none_test (times key_eah (carried v)) true (request_has v answer).eah e)
  by_text (Prelude.Some t) e h (x ∷ xs) b =
      rw (← e, ne_eqb (length (x ∷ xs)) 0 (λ z. omega arith))
      (ap (λ (l : List ℕ). same l (encoded (x ∷ xs))) h.text
      ∙ sym (text_test (the key_eah (carried v)) (x ∷ xs) (carried_bytes v (carried v) key_eah (request_given v answer).0) b))

  pub extra_told : (extra : List ℕ) → Bytes extra → told v q.eah extra ≡ extra_as_ordered extra (carried v)
  extra_told extra b = by_text q.eah holds.with_extra holds.extra extra b
