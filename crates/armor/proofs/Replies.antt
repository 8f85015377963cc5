-- What the set of fields of a setup's reply, the rules of its keys and the counts of a scan say of a whole reply.
-- Assumes nothing.
use mathlib.Core.Path.{◌≡◌, refl, sym, ◌∙◌}
use mathlib.Core.Bool.{true, false, ◌&&◌}
use mathlib.Core.List.{List, []}
use mathlib.Core.Option.{Option, none, get_or}
use Prim.Native.Nat.{ℕ, ◌<◌, ◌≤◌}
use native.Mathlib.Omega.{arith}
use lib.Dec.{eqb, leb}
use lib.ListN.{length}
use borrow.Author.Tests.{eqb-true, leb-true}
use Rattle.armor.specs.declared.seen.Seen.{Seen}
use Rattle.armor.specs.Keys.{obeys, keys, rule_at, key_t, key_lt, key_n, key_h, key_ah, key_r, key_s, key_c, key_iv, key_tag, key_eah, other_key}
use Rattle.armor.specs.Value.{Field, all_good, grammar, carried}
use Rattle.armor.specs.Fields.{contents, times, the, reply_times, reply_holds}
use Rattle.armor.specs.InnerScan.{Sound, ReplySizes, ReadyReply, Single, count_in}
use Rattle.cells.proofs.Tests.{both}
use Rattle.armor.proofs.Numerals.{first, second}
use Rattle.armor.proofs.Keys.{from_at}
use Rattle.armor.proofs.Value.{grammar_exactly}
use Rattle.armor.proofs.Texts.{mask_room, sized_room}
use Rattle.armor.proofs.Noting.{single, obeyed_once, reply_counts}
use Rattle.armor.proofs.Requests.{exact}

-- how often each key stands
pub record Required (count : ℕ → ℕ) : Type 0 where
  pub s : count key_s ≡ 1
  pub iv : count key_iv ≡ 1
  pub tag : count key_tag ≡ 1
  pub key : count other_key ≡ 1
  pub h : count key_h ≡ 1
  pub ah : count key_ah ≡ 1
  pub eah : count key_eah ≤ 1
  pub c : count key_c ≡ 0
  pub t : count key_t ≡ 0
  pub lt : count key_lt ≡ 0
  pub n : count key_n ≡ 0
  pub r : count key_r ≡ 0

pub right_parts : (n : ℕ → ℕ) → reply_times n ≡ true → Required n
unfolding reply_times
right_parts n e = search (first, second, eqb-true, leb-true) depth 8

pub record Held (fs : List Field) : Type 0 where
  pub has : Required (λ k. times k fs)
  pub key : length (the other_key fs) ≡ 32
  pub extra : length (the key_eah fs) ≤ 128

pub held : (fs : List Field) → reply_holds fs ≡ true → Held fs
unfolding reply_holds
held fs e =
    let p = both (reply_times (λ k. times k fs)) (eqb (length (the other_key fs)) 32 && leb (length (the key_eah fs)) 128) e in
    let sizes = both (eqb (length (the other_key fs)) 32) (leb (length (the key_eah fs)) 128) p.1 in
    record { has = right_parts (λ k. times k fs) p.0; key = eqb-true _ _ sizes.0; extra = leb-true _ _ sizes.1 }

-- no key is carried twice
once_or_not : (fs : List Field) → Required (λ k. times k fs) → (k : ℕ) → k < 12 → times k fs ≤ 1
once_or_not fs has k small = from_at (λ j. times j fs ≤ 1) 0 12 (omega arith) k (omega arith) (omega arith)

-- the sizes of what a reply's keys hold
pub sizes : (fs : List Field) → all_good fs ≡ true → Held fs → ReplySizes fs
unfolding rule_at keys
sizes fs good h =
    let obeyed : (k : ℕ) → times k fs ≡ 1 → obeys (rule_at k) (the k fs) ≡ true = λ k one. obeyed_once fs k good one in
    record {
      s = sized_room 1 118 (the key_s fs) (obeyed key_s h.has.s);
      iv = exact 12 (the key_iv fs) (obeyed key_iv h.has.iv);
      tag = exact 16 (the key_tag fs) (obeyed key_tag h.has.tag);
      key = h.key;
      h = mask_room (the key_h fs) (obeyed key_h h.has.h);
      ah = mask_room (the key_ah fs) (obeyed key_ah h.has.ah);
      eah = h.extra;
    }

-- a reply that breaks its grammar carries nothing
nothing_holds : (o : Option (List Field)) → o ≡ none → reply_holds (get_or o []) ≡ false
unfolding reply_holds reply_times times contents
nothing_holds o e = rw e refl

pub reply_breaks : (v : List ℕ) → grammar v ≡ none → reply_holds (carried v) ≡ false
unfolding carried
reply_breaks v e = nothing_holds (grammar v) e

-- one that keeps it
module _ (seen : Seen) (h : Sound seen) where
  pub reply_times_lem : reply_times (count_in seen) ≡ reply_times (λ k. times k (carried seen.value.now))
  reply_times_lem = reply_counts seen (carried seen.value.now) h.notes

  -- each key can be looked at
  pub reply_single : reply_times (count_in seen) ≡ true → Single seen
  reply_single e =
      single h.notes (once_or_not (carried seen.value.now) (right_parts (λ k. times k (carried seen.value.now)) (sym reply_times_lem ∙ e)))

  pub reply_ready : reply_holds (carried seen.value.now) ≡ true → ReadyReply seen
  reply_ready e =
      let fs = carried seen.value.now in
      let all = held fs e in
      record { single = single h.notes (once_or_not fs all.has); sizes = sizes fs ((grammar_exactly seen.value.now fs).0 h.kept).1 all }
