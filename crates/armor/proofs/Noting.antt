-- What notes of a value's fields say of its set of fields.
-- Assumes nothing.
use mathlib.Core.Path.{◌≡◌, refl, ap, ◌∙◌}
use mathlib.Core.Bool.{true, cond}
use mathlib.Core.List.{List, [], ◌∷◌}
use Prim.Native.Nat.{ℕ, ◌<◌, ◌≤◌, min}
use native.Mathlib.Omega.{arith}
use lib.Dec.{eqb, leb, lit<}
use lib.ListN.{length, get_or}
use borrow.Author.Tests.{eqb-true, eqb-false, eq-eqb, ne_eqb, leb-true, leb-false, le-leb, lt-leb}
use Rattle.std.specs.Prelude.{Option, Some, None, is_some, IfSome}
use Rattle.base_64.proofs.Exactly.{decoded_exactly, decoded_bytes}
use Rattle.armor.specs.declared.Span.{Span}
use Rattle.armor.specs.declared.seen.Seen.{Seen}
use Rattle.armor.specs.InnerAnswers.{Encodes}
use Rattle.armor.specs.Keys.{obeys, key_number, rule_at, rule_of, key_eah}
use Rattle.armor.specs.Value.{Field, all_good, carried, held, told}
use Rattle.armor.specs.Fields.{contents, times, the, right_times, reply_times}
use Rattle.armor.specs.InnerScan.{Notes, Single, count_in, text_in, span_in, tally_in}
use Rattle.cells.proofs.Tests.{tested, both}

-- counts that stop at two
pub count_bit : (c n b : ℕ) → c ≡ min 2 n → b < 2 → eqb c b ≡ eqb n b
count_bit c n b e h =
    tested (eqb n b) (λ p. let q : n ≡ b = eqb-true n b p in rw p (eq-eqb c b (omega arith)))
    (λ p. let q : n ≡ b → ⊥ = eqb-false n b p in rw p (ne_eqb c b (λ r. q (omega arith))))

count_few : (c n : ℕ) → c ≡ min 2 n → leb c 1 ≡ leb n 1
count_few c n e =
    tested (leb n 1) (λ p. let q : n ≤ 1 = leb-true n 1 p in rw p (le-leb c 1 (omega arith)))
    (λ p. let q : 1 < n = leb-false n 1 p in rw p (lt-leb c 1 (omega arith)))

module _ (c n : ℕ → ℕ) (h : (k : ℕ) → k < 12 → c k ≡ min 2 (n k)) where
  one : (k : ℕ) → k < 12 → eqb (c k) 1 ≡ eqb (n k) 1
  one k small = count_bit (c k) (n k) 1 (h k small) (lit< tt)

  no : (k : ℕ) → k < 12 → eqb (c k) 0 ≡ eqb (n k) 0
  no k small = count_bit (c k) (n k) 0 (h k small) (lit< tt)

  right_times_lem : right_times c ≡ right_times n
  unfolding right_times
  right_times_lem =
      simp (
        one 0 (lit< tt),
        one 1 (lit< tt),
        one 3 (lit< tt),
        one 4 (lit< tt),
        one 6 (lit< tt),
        one 7 (lit< tt),
        one 8 (lit< tt),
        one 9 (lit< tt),
        count_few (c 10) (n 10) (h 10 (lit< tt)),
        no 5 (lit< tt),
        no 11 (lit< tt),
      )

  reply_times_lem : reply_times c ≡ reply_times n
  unfolding reply_times
  reply_times_lem =
      simp (
        one 3 (lit< tt),
        one 4 (lit< tt),
        one 6 (lit< tt),
        one 8 (lit< tt),
        one 9 (lit< tt),
        one 11 (lit< tt),
        count_few (c 10) (n 10) (h 10 (lit< tt)),
        no 0 (lit< tt),
        no 1 (lit< tt),
        no 2 (lit< tt),
        no 5 (lit< tt),
        no 7 (lit< tt),
      )

module _ (seen : Seen) (fs : List Field) (h : Notes seen fs) where
  pub counted : (k : ℕ) → k < 12 → count_in seen k ≡ min 2 (times k fs)
  unfolding times
  counted k small = (h.kept k small).counted

  -- the counts of a request
  pub counts_are : right_times (count_in seen) ≡ right_times (λ k. times k fs)
  counts_are = right_times_lem (count_in seen) (λ k. times k fs) counted

  -- and of a setup's reply
  pub reply_counts : reply_times (count_in seen) ≡ reply_times (λ k. times k fs)
  reply_counts = reply_times_lem (count_in seen) (λ k. times k fs) counted

-- what stands in the places of keys that are carried once or not
pub single : {seen : Seen} → Notes seen (carried seen.value.now) → ((k : ℕ) → k < 12 → times k (carried seen.value.now) ≤ 1) → Single seen
unfolding times the
single h few = record { decodes = λ k small. (h.kept k small).decodes (few k small) }

pub told_of : {seen : Seen} {text : List ℕ} → Single seen → (k : ℕ) → k < 12 → text ≡ text_in seen k → told text ≡ the k (carried seen.value.now)
told_of h k small e = ap told e ∙ ap held (h.decodes k small)

-- where the text of eah stands
span_by : (n : ℕ) (s : Span) (v bs : List ℕ) → (eqb n 1 ≡ true → Encodes v bs s)
    → (is_some (cond (eqb n 1) (Some s) None) ≡ eqb n 1) × IfSome (cond (eqb n 1) (Some s) None) (λ t. Encodes v bs t)
span_by n s v bs h = tested (eqb n 1) (λ e. rw e (refl, h e)) (λ e. rw e (refl, tt))

pub extra_told : {seen : Seen} {o : Option Span} → Notes seen (carried seen.value.now) → Single seen → o ≡ span_in seen key_eah
    → (is_some o ≡ eqb (times key_eah (carried seen.value.now)) 1) × IfSome o (λ t. Encodes seen.value.now (the key_eah (carried seen.value.now)) t)
extra_told {seen} notes once e =
    let v = seen.value.now in
    let count = count_bit (count_in seen key_eah) (times key_eah (carried v)) 1 (counted seen (carried v) notes key_eah (lit< tt)) (lit< tt) in
    let text = text_in seen key_eah in
    let within = seen.within.texts key_eah (lit< tt) in
    let encodes : Encodes v (the key_eah (carried v)) (tally_in seen key_eah).text = record {
      in_order = within.in_order;
      within = within.within;
      text = (decoded_exactly text (the key_eah (carried v)) (decoded_bytes text (the key_eah (carried v)) (once.decodes key_eah (lit< tt)))).0 (once.decodes key_eah (lit< tt));
    } in
    let is = span_by (count_in seen key_eah) (tally_in seen key_eah).text v (the key_eah (carried v)) (λ _. encodes) in
    rw (e, ← count) is

-- what the fields of a good value hold keeps the rule of its key
all_obey : (k : ℕ) (fs : List Field) (b : List ℕ) (bs : List (List ℕ)) → all_good fs ≡ true → contents k fs ≡ b ∷ bs → obeys (rule_at k) b ≡ true
unfolding all_good contents rule_of
all_obey k [] b bs g e = absurd (let z : ◌≡◌ {A = ℕ} 0 1 = cc in omega arith)
all_obey k (f ∷ fs) b bs g e =
    let h = both (obeys (rule_of f.key) f.bytes) (all_good fs) g in
    tested (eqb (key_number f.key) k) (λ t. let same : f.bytes ≡ b = cc in rw (← (eqb-true (key_number f.key) k t), ← same) h.0)
    (λ t. all_obey k fs b bs h.1 (rw t at e))

-- the only content of a key
only_content : (cs : List (List ℕ)) → length cs ≡ 1 → cs ≡ get_or cs 0 [] ∷ []
only_content [] e = absurd (omega arith)
only_content (c ∷ []) e = refl
only_content (c ∷ d ∷ cs) e = absurd (omega arith)

pub obeyed_once : (fs : List Field) (k : ℕ) → all_good fs ≡ true → times k fs ≡ 1 → obeys (rule_at k) (the k fs) ≡ true
unfolding the times
obeyed_once fs k good one = all_obey k fs (get_or (contents k fs) 0 []) [] good (only_content (contents k fs) one)

-- a key that is not carried holds nothing
pub none_held : (k : ℕ) (fs : List Field) → times k fs ≡ 0 → the k fs ≡ []
unfolding times the
none_held k fs e = none_in (contents k fs) e
  where
    none_in : (cs : List (List ℕ)) → length cs ≡ 0 → get_or cs 0 [] ≡ []
    none_in [] e = refl
    none_in (c ∷ cs) e = absurd (omega arith)
