-- Fields that keep their keys' rules are read back from their text, and their text is short: those of a setup's reply and of a client's request.
-- Assumes nothing.
use mathlib.Core.Path.{◌≡◌, refl, ap₂}
use mathlib.Core.Logic.{inl}
use mathlib.Core.Bool.{Bool, true, false, not, ◌&&◌}
use mathlib.Core.List.{List, [], ◌∷◌, ◌++◌}
use mathlib.Core.Option.{some}
use Prim.Native.Nat.{ℕ, ◌*◌, ◌<◌, ◌≤◌, ◌^◌}
use native.Mathlib.Omega.{arith}
use borrow.Author.Tests.{eq-eqb, eqb-false, leb-true, le-leb, not-true}
use lib.Dec.{eqb, leb}
use lib.ListN.{length, length-append}
use Rattle.cells.specs.Runs.{Bytes, same}
use Rattle.cells.specs.Spans.{all}
use Rattle.cells.specs.Text.{codes}
use Rattle.armor.specs.Pieces.{colon, semicolon, Without}
use Rattle.hashes.specs.declared.Hash.{Hash}
use Rattle.hashes.specs.declared.Hash.TheVariants.{Sha256, Sha512}
use Rattle.hashes.specs.Hashes.{hash_mask, digest_size}
use Rattle.hashes.proofs.Hashes.{mask_small}
use Rattle.armor.specs.Numerals.{number_bytes, mask_bytes}
use Rattle.armor.specs.Keys.{Rule, sized, obeys, keys, rank_of, key_number, rule_at, rule_of}
use Rattle.armor.specs.Value.{Field, field, Formed, AllFormed, field_text, joined, texts_of, following, all_good, grammar}
use Rattle.armor.proofs.Numerals.{length_number_bytes, length_mask_bytes, bytes_number_bytes, bytes_mask_bytes, number_is, mask_is}
use Rattle.armor.proofs.Pieces.{without_none, without_first}
use Rattle.armor.proofs.Value.{grammar_exactly}
use Rattle.armor.proofs.Laying.{joined_fields}
use Rattle.cells.proofs.Tests.{both}
use Rattle.reply.specs.Replies.{extra_field, order_fields}
use Rattle.reply.proofs.Lengths.{length_field}
use Rattle.demands.specs.Client.{nonce_field}

-- 1 to 3 bytes with neither : nor ;
unfoldable pub plain : List ℕ → Bool
plain name = (leb 1 (length name) && leb (length name) 3) && (all (λ x. not (eqb x colon)) name && all (λ x. not (eqb x semicolon)) name)

pub record Good (f : Field) : Type 0 where
  pub named : plain f.key ≡ true
  pub held : 1 ≤ length f.bytes
  pub short : length f.bytes ≤ 128
  pub of_bytes : Bytes f.bytes
  pub keeps : obeys (rule_of f.key) f.bytes ≡ true

abbrev pub AllGood : List Field → Type 0
AllGood [] = Unit
AllGood (f ∷ fs) = Good f × AllGood fs

without : (b : ℕ) (xs : List ℕ) → all (λ x. not (eqb x b)) xs ≡ true → Without b xs
unfolding all
without b [] e = without_none b
without b (x ∷ xs) e =
    let parts = both (not (eqb x b)) (all (λ x. not (eqb x b)) xs) e in
    without_first b x xs (eqb-false x b (not-true (eqb x b) parts.0)) (without b xs parts.1)

module _ (f : Field) (h : Good f) where
  halves : ((leb 1 (length f.key) && leb (length f.key) 3) ≡ true)
      × ((all (λ x. not (eqb x colon)) f.key && all (λ x. not (eqb x semicolon)) f.key) ≡ true)
  unfolding plain
  halves = both _ _ h.named

  formed : Formed f
  formed =
      let lacks = both (all (λ x. not (eqb x colon)) f.key) _ halves.1 in
      record {
        named = leb-true 1 (length f.key) (both (leb 1 (length f.key)) _ halves.0).0;
        no_colon = without colon f.key lacks.0;
        no_semicolon = without semicolon f.key lacks.1;
        held = h.held;
        of_bytes = h.of_bytes;
      }

  text_short : length (field_text f) ≤ 176
  text_short =
      let key_short = leb-true (length f.key) 3 (both (leb 1 (length f.key)) _ halves.0).1 in
      omega (arith, length_field f.key f.bytes, key_short, h.short)

all_formed : (fs : List Field) → AllGood fs → AllFormed fs
all_formed [] h = tt
all_formed (f ∷ fs) h = (formed f h.0, all_formed fs h.1)

all_keep : (fs : List Field) → AllGood fs → all_good fs ≡ true
unfolding all_good
all_keep [] h = refl
all_keep (f ∷ fs) h = ap₂ ◌&&◌ h.0.keeps (all_keep fs h.1)

following_short : (fs : List Field) → AllGood fs → length (following fs) ≤ 177 * length fs
unfolding following
following_short [] h = omega arith
following_short (f ∷ fs) h =
    omega (arith, length-append (field_text f) (following fs), text_short f h.0, following_short fs h.1)

pub read_back : (f : Field) (fs : List Field) → AllGood (f ∷ fs) → grammar (joined (texts_of (f ∷ fs))) ≡ some (f ∷ fs)
read_back f fs h =
    (grammar_exactly (joined (texts_of (f ∷ fs))) (f ∷ fs)).1
    (record { one_or_more = omega arith; formed = all_formed (f ∷ fs) h; text = inl refl }, all_keep (f ∷ fs) h)

pub joined_short : (fs : List Field) → AllGood fs → length (joined (texts_of fs)) ≤ 177 * length fs
unfolding joined texts_of
joined_short [] h = omega arith
joined_short (f ∷ fs) h =
    rw (joined_fields f fs) (omega (arith, length-append (field_text f) (following fs), text_short f h.0, following_short fs h.1))

-- fields by the kinds of their rules
mask_good : (name : List ℕ) (m : ℕ) → plain name ≡ true → rule_of name ≡ Rule.mask → m < 2 ^ 64 → Good (field name (mask_bytes m))
unfolding obeys mask_bytes
mask_good name m e rule h = record {
  named = e;
  held = omega arith;
  short = omega (arith, length_mask_bytes m);
  of_bytes = bytes_mask_bytes m;
  keeps = rw rule (mask_is m h);
}

pub numeral_good : (name : List ℕ) (n : ℕ) → plain name ≡ true → rule_of name ≡ Rule.number → n < 2 ^ 32 → Good (field name (number_bytes n))
unfolding obeys
numeral_good name n e rule h = record {
  named = e;
  held = (length_number_bytes n).0;
  short = omega (arith, (length_number_bytes n).1);
  of_bytes = bytes_number_bytes n;
  keeps = rw rule (number_is n h);
}

pub sized_good : (name content : List ℕ) (low high : ℕ) → plain name ≡ true → rule_of name ≡ sized low high → 1 ≤ low → high ≤ 128
    → low ≤ length content → length content ≤ high → Bytes content → Good (field name content)
unfolding obeys
sized_good name content low high e rule from to l u are = record {
  named = e;
  held = omega arith;
  short = omega arith;
  of_bytes = are;
  keeps = rw (rule, le-leb low (length content) l, le-leb (length content) high u);
}

pub exact_good : (name content : List ℕ) (n : ℕ) → plain name ≡ true → rule_of name ≡ sized n n → 1 ≤ n → n ≤ 128 → length content ≡ n
    → Bytes content → Good (field name content)
exact_good name content n e rule from to long are =
    sized_good name content n n e rule from to (omega (arith, long)) (omega (arith, long)) are

extra_good : (run : List ℕ) → length run ≤ 128 → Bytes run → AllGood (extra_field run)
unfolding plain codes all rule_of rule_at key_number rank_of keys same obeys
extra_good [] h are = tt
extra_good (b ∷ bs) h are = (record { named = refl; held = omega arith; short = h; of_bytes = are; keeps = refl }, tt)

pub nonce_good : (o : Bool) (n : ℕ) → n < 2 ^ 32 → AllGood (nonce_field o n)
unfolding plain codes all rule_of rule_at key_number rank_of keys same
nonce_good true n h = (numeral_good (codes "n") n refl refl h, tt)
nonce_good false n h = tt

pub both_good : (fs gs : List Field) → AllGood fs → AllGood gs → AllGood (fs ++ gs)
both_good [] gs h k = k
both_good (f ∷ fs) gs h k = (h.0, both_good fs gs h.1 k)

-- a code is of its hash's length
pub code_good : (h : Hash) (content : List ℕ) → length content ≡ digest_size h → Bytes content → Good (field (codes "c") content)
unfolding plain codes all rule_of rule_at key_number rank_of keys same obeys
code_good Sha256 content long are =
    record { named = refl; held = omega arith; short = omega arith; of_bytes = are; keeps = rw (eq-eqb (length content) 32 long) }
code_good Sha512 content long are =
    record { named = refl; held = omega arith; short = omega arith; of_bytes = are; keeps = rw long }

pub orders_good_lem : (hash : Hash) (mask : ℕ) (extra : List ℕ) → mask < 2 ^ 56 → length extra ≤ 128 → Bytes extra → AllGood (order_fields hash mask extra)
unfolding plain codes all rule_of rule_at key_number rank_of keys same
orders_good_lem hash mask extra small few are =
    (mask_good (codes "h") (hash_mask hash) refl refl (omega (arith, mask_small hash)), (mask_good (codes "ah") mask refl refl (omega (arith, small)), extra_good extra few are))
