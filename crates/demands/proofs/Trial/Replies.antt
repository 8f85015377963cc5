-- The replies that setups write, by document 02's number 23: a text that is laid out so and whose orders are good is one, and no other is.
-- Assumes nothing.
use mathlib.Core.Path.{◌≡◌, refl, sym, ap, subst, ◌∙◌}
use mathlib.Core.Bool.{true, true≢false}
use mathlib.Core.List.{List, [], ◌∷◌}
use mathlib.Core.Option.{Option, none, some, get_or}
use Prim.Native.Nat.{ℕ, ◌≤◌, ◌^◌}
use native.Mathlib.Omega.{arith}
use borrow.Author.Tests.{eqb-true, eq-eqb, le-leb, lt-ltb}
use lib.Dec.{eqb}
use lib.ListN.{length}
use Rattle.cells.specs.Runs.{Bytes, same}
use Rattle.cells.specs.Text.{codes}
use Rattle.cells.proofs.Equality.{same_self, same_equal}
use Rattle.cells.proofs.Tests.{tested, both}
use Rattle.hashes.specs.declared.Hash.{Hash}
use Rattle.hashes.specs.declared.Hash.TheVariants.{Sha256, Sha512}
use Rattle.hashes.specs.Hashes.{hash_mask, has, named, good_allowed}
use Rattle.hashes.proofs.Hashes.{mask_named, mask_small}
use Rattle.armor.specs.Numerals.{mask_bytes, mask_of}
use Rattle.armor.specs.Keys.{keys, rank_of, key_number, key_h, key_ah, key_s, key_iv, key_tag, key_eah, other_key}
use Rattle.armor.specs.Value.{Field, grammar, carried}
use Rattle.armor.specs.Fields.{contents, times, the, reply_times, reply_holds}
use Rattle.armor.specs.InnerScan.{ReplySizes}
use Rattle.armor.proofs.Numerals.{mask_of_mask_bytes}
use Rattle.armor.proofs.Value.{grammar_exactly}
use Rattle.armor.proofs.Scan.{carried_is, kept_is}
use Rattle.armor.proofs.Carried.{carried_bytes}
use Rattle.armor.proofs.Replies.{held, sizes}
use Rattle.names.proofs.Sizes.{short_extra}
use Rattle.orders.specs.Orders.{orders_of, orders_good}
use Rattle.orders.proofs.Orders.{good_mask, good_hashes, good_extra_lem}
use Rattle.reply.specs.Replies.{reply_fields}
use Rattle.reply.specs.LaidOut.{reply_with, laid_out}
use Rattle.reply.proofs.Lengths.{setup_short}
use Rattle.gate.specs.Trial.{Trial, granted, orders_in}
use Rattle.demands.specs.Trial.{SetupReply}
use Rattle.demands.proofs.Client.Replies.{text_read}

-- what the fields of a reply hold, with eah or without
pub record Holds (fs : List Field) (s iv tag key : List ℕ) (hash : Hash) (mask : ℕ) (extra : List ℕ) : Type 0 where
  pub right : reply_times (λ k. times k fs) ≡ true
  pub s_is : the key_s fs ≡ s
  pub iv_is : the key_iv fs ≡ iv
  pub tag_is : the key_tag fs ≡ tag
  pub key_is : the other_key fs ≡ key
  pub hash_is : the key_h fs ≡ mask_bytes (hash_mask hash)
  pub mask_is : the key_ah fs ≡ mask_bytes mask
  pub extra_is : the key_eah fs ≡ extra

reply_holds_lem : (s iv tag key : List ℕ) (hash : Hash) (mask : ℕ) (extra : List ℕ) → Holds (reply_fields s iv tag key hash mask extra) s iv tag key hash mask extra
unfolding reply_fields contents times the reply_times key_number rank_of keys codes same
reply_holds_lem s iv tag key hash mask [] =
    record { right = refl; s_is = refl; iv_is = refl; tag_is = refl; key_is = refl; hash_is = refl; mask_is = refl; extra_is = refl }
reply_holds_lem s iv tag key hash mask (b ∷ bs) =
    record { right = refl; s_is = refl; iv_is = refl; tag_is = refl; key_is = refl; hash_is = refl; mask_is = refl; extra_is = refl }

-- a reply that a setup writes
module _ (t : Trial) (r : SetupReply t.setup_reply) where
  abbrev mask : ℕ
  mask = r.orders.numbers.mask

  abbrev extra : List ℕ
  extra = r.orders.extra

  -- is read back
  fields_are : granted t ≡ reply_fields r.s r.iv r.tag r.key r.hash mask extra
  unfolding granted
  fields_are = carried_is t.setup_reply _ (text_read t.setup_reply r)

  pub holds : Holds (granted t) r.s r.iv r.tag r.key r.hash mask extra
  holds =
      subst (λ (fs : List Field). Holds fs r.s r.iv r.tag r.key r.hash mask extra) (sym fields_are)
      (reply_holds_lem r.s r.iv r.tag r.key r.hash mask extra)

  hash_read : mask_of (mask_bytes (hash_mask r.hash)) ≡ hash_mask r.hash
  hash_read = mask_of_mask_bytes (hash_mask r.hash) (omega (arith, mask_small r.hash))

  mask_read : mask_of (mask_bytes mask) ≡ mask
  mask_read = mask_of_mask_bytes mask (omega (arith, good_mask r.orders r.good))

  -- tells its orders
  pub orders_told_lem : orders_in t ≡ orders_of mask (hash_mask r.hash) extra 0 0 0
  unfolding orders_in
  orders_told_lem = rw (holds.mask_is, holds.hash_is, holds.extra_is, mask_read, hash_read) refl

  alone : (h : Hash) → good_allowed (hash_mask h) ≡ true
  alone Sha256 = refl
  alone Sha512 = refl

  pub orders_pass : orders_good (orders_in t) ≡ true
  unfolding orders_good
  orders_pass = rw (orders_told_lem, lt-ltb mask (2 ^ 56) (good_mask r.orders r.good), alone r.hash, good_extra_lem r.orders r.good) refl

  -- and is laid out so
  pub laid : laid_out t.setup_reply ≡ true
  unfolding laid_out reply_holds reply_with granted
  laid =
      rw (
        holds.right,
        holds.s_is,
        holds.iv_is,
        holds.tag_is,
        holds.key_is,
        holds.hash_is,
        holds.mask_is,
        holds.extra_is,
        hash_read,
        mask_read,
        mask_named r.hash,
        eq-eqb (length r.key) 32 r.key_fits,
        le-leb (length extra) 128 (short_extra extra (good_extra_lem r.orders r.good)),
      ) (ap (same t.setup_reply) (sym r.is) ∙ same_self t.setup_reply)

-- a text that is laid out so carries something
carries : (v : List ℕ) (o : Option (List Field)) → grammar v ≡ o → reply_holds (get_or o []) ≡ true → grammar v ≡ some (carried v)
unfolding reply_holds reply_times times contents
carries v none e h = absurd (true≢false (sym h))
carries v (some fs) e h = kept_is v fs e

allowed_named : (m : ℕ) → good_allowed m ≡ true → has (named m) m ≡ true
unfolding named
allowed_named m e =
    tested (eqb m 1) (λ a. rw (eqb-true m 1 a) refl)
    (λ a. tested (eqb m 4) (λ b. rw (eqb-true m 4 b) refl) (λ b. rw (eqb-true m 5 (rw (a, b) at e)) refl))

-- with good orders some setup writes it
module _ (t : Trial) (laid : laid_out t.setup_reply ≡ true) (good : orders_good (orders_in t) ≡ true) where
  abbrev fs : List Field
  fs = carried t.setup_reply

  parts : (reply_holds fs ≡ true) × (same t.setup_reply (reply_with fs) ≡ true)
  unfolding laid_out
  parts = both (reply_holds fs) (same t.setup_reply (reply_with fs)) laid

  kept : grammar t.setup_reply ≡ some fs
  unfolding carried
  kept = carries t.setup_reply (grammar t.setup_reply) refl parts.0

  sized : ReplySizes fs
  sized = sizes fs ((grammar_exactly t.setup_reply fs).0 kept).1 (held fs parts.0)

  are_bytes : (k : ℕ) → Bytes (the k fs)
  are_bytes k = carried_bytes t.setup_reply fs k kept

  pub some_setup : SetupReply t.setup_reply
  unfolding orders_in granted reply_with
  some_setup = record {
    s = the key_s fs;
    iv = the key_iv fs;
    tag = the key_tag fs;
    key = the other_key fs;
    hash = named (mask_of (the key_h fs));
    orders = orders_in t;
    is = same_equal _ _ parts.1;
    good = good;
    allowed = allowed_named (mask_of (the key_h fs)) (good_hashes (orders_in t) good);
    s_some = sized.s.0;
    s_fits = sized.s.1;
    iv_fits = sized.iv;
    tag_fits = sized.tag;
    key_fits = sized.key;
    of_bytes = (are_bytes key_s, are_bytes key_iv, are_bytes key_tag, are_bytes other_key, are_bytes key_eah);
  }

-- such a reply is never longer than 459 bytes
pub reply_short : (t : Trial) → SetupReply t.setup_reply → length t.setup_reply ≤ 459
reply_short t r =
    rw r.is
    (setup_short r.s r.iv r.tag r.key r.hash _ _ r.s_fits r.iv_fits r.tag_fits r.key_fits
    (short_extra r.orders.extra (good_extra_lem r.orders r.good)))
