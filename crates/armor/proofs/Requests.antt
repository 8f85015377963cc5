-- What the set of fields of a request, the rules of its keys and the counts of a scan say of a whole value.
-- Assumes nothing.
use mathlib.Core.Path.{◌≡◌, refl, ap, ◌∙◌, sym, ap₂}
use mathlib.Core.Logic.{⊎_elim}
use mathlib.Core.Bool.{Bool, true, cond, ◌&&◌}
use mathlib.Core.List.{List}
use mathlib.Core.Option.{some, none}
use Prim.Native.Nat.{ℕ, ◌<◌, ◌≤◌}
use native.Mathlib.Omega.{arith}
use lib.Dec.{eqb, lit<}
use lib.ListN.{length}
use borrow.Author.Tests.{eqb-true, eqb-false, leb-true}
use Rattle.std.specs.Prelude.{Result, Ok, Err, ok_or}
use Rattle.std.specs.Prelude as Option
use Rattle.armor.specs.declared.seen.Seen.{Seen}
use Rattle.armor.specs.declared.Unread.{Unread}
use Rattle.armor.specs.Numerals.{mask_of}
use Rattle.armor.specs.Keys.{sized, obeys, keys, rule_at, key_t, key_lt, key_n, key_h, key_ah, key_r, key_s, key_c, key_iv, key_tag, key_eah, other_key, mask}
use Rattle.armor.specs.Value.{Field, all_good, grammar, carried, told, held as held_in}
use Rattle.armor.specs.Fields.{times, the, right_times, nonce_bit, request_fields, setup_fields}
use Rattle.armor.specs.InnerAnswers.{request_from, request_answer, setup_from, setup_answer}
use Rattle.armor.specs.InnerScan.{Sound, Sizes, Ready, count_in, text_in}
use Rattle.cells.proofs.Tests.{tested, both}
use Rattle.armor.proofs.Numerals.{first, second}
use Rattle.armor.proofs.Keys.{from_at}
use Rattle.armor.proofs.Value.{grammar_exactly}
use Rattle.armor.proofs.Texts.{number_room, mask_room, sized_room, either_room}
use Rattle.armor.proofs.Noting.{single, obeyed_once, none_held, count_bit, counted, counts_are}

-- how often each key stands
pub record Required (n : ℕ → ℕ) : Type 0 where
  pub s : n key_s ≡ 1
  pub c : n key_c ≡ 1
  pub t : n key_t ≡ 1
  pub lt : n key_lt ≡ 1
  pub h : n key_h ≡ 1
  pub ah : n key_ah ≡ 1
  pub iv : n key_iv ≡ 1
  pub tag : n key_tag ≡ 1
  pub eah : n key_eah ≤ 1
  pub r : n key_r ≡ 0
  pub other : n other_key ≡ 0

pub right_parts : (n : ℕ → ℕ) → right_times n ≡ true → Required n
unfolding right_times
right_parts n e = search (first, second, eqb-true, leb-true) depth 8

pub request_parts : (fs : List Field) → request_fields fs ≡ true → Required (λ k. times k fs) × (times key_n fs ≡ nonce_bit fs)
unfolding request_fields
request_parts fs e =
    let p = both (right_times (λ k. times k fs)) (eqb (times key_n fs) (nonce_bit fs)) e in
    (right_parts (λ k. times k fs) p.0, eqb-true (times key_n fs) (nonce_bit fs) p.1)

nonce_few : (fs : List Field) → times key_n fs ≡ nonce_bit fs → times key_n fs ≤ 1
unfolding nonce_bit
nonce_few fs e = omega arith

-- no key is carried twice
pub once_or_not : (fs : List Field) → request_fields fs ≡ true → (k : ℕ) → k < 12 → times k fs ≤ 1
once_or_not fs e k small =
    let parts = request_parts fs e in
    let few = nonce_few fs parts.1 in
    from_at (λ j. times j fs ≤ 1) 0 12 (omega arith) k (omega arith) (omega arith)

pub exact : (n : ℕ) (b : List ℕ) → obeys (sized n n) b ≡ true → length b ≡ n
exact n b e = let room = sized_room n n b e in omega (arith, room.0, room.1)

-- the sizes of what a request's keys hold
module _ (fs : List Field) (good : all_good fs ≡ true) (right : request_fields fs ≡ true) where
  has : Required (λ k. times k fs)
  has = (request_parts fs right).0

  held : (k : ℕ) → times k fs ≡ 1 → obeys (rule_at k) (the k fs) ≡ true
  held k one = obeyed_once fs k good one

  nonce_size : length (the key_n fs) ≤ 4
  unfolding rule_at keys
  nonce_size =
      let few = nonce_few fs (request_parts fs right).1 in
      tested (eqb (times key_n fs) 1) (λ e. number_room (the key_n fs) (held key_n (eqb-true (times key_n fs) 1 e)))
      (λ e. let ne = eqb-false (times key_n fs) 1 e in rw (none_held key_n fs (omega arith)) (omega arith))

  pub sizes : Sizes fs
  unfolding rule_at keys
  sizes = record {
    t = number_room (the key_t fs) (held key_t has.t);
    lt = number_room (the key_lt fs) (held key_lt has.lt);
    n = nonce_size;
    h = mask_room (the key_h fs) (held key_h has.h);
    ah = mask_room (the key_ah fs) (held key_ah has.ah);
    s = sized_room 1 118 (the key_s fs) (held key_s has.s);
    c = either_room 32 64 (the key_c fs) (held key_c has.c);
    iv = exact 12 (the key_iv fs) (held key_iv has.iv);
    tag = exact 16 (the key_tag fs) (held key_tag has.tag);
  }

-- c is at most as long as the longer of its two sizes
pub signature_room : {fs : List Field} → Sizes fs → length (the key_c fs) ≤ 64
signature_room sizes = ⊎_elim (λ e. omega arith) (λ e. omega arith) sizes.c

-- what is ready to be read
pub ready : {seen : Seen} → Sound seen → request_fields (carried seen.value.now) ≡ true → Ready seen
ready {seen} h e =
    let v = seen.value.now in
    record {
      notes = h.notes;
      single = single h.notes (once_or_not (carried v) e);
      sizes = sizes (carried v) ((grammar_exactly v (carried v)).0 h.kept).1 e;
    }

-- what a value that keeps its grammar comes to
pub request_by : (v : List ℕ) (t : Bool) → grammar v ≡ some (carried v) → request_fields (carried v) ≡ t → request_answer v ≡ cond t (Ok tt) (Err Unread.Fields)
unfolding request_answer
request_by v t e f = ap request_from e ∙ ap (λ (u : Bool). cond u (Ok tt) (Err Unread.Fields)) f

pub setup_by : (v : List ℕ) (t : Bool) → grammar v ≡ some (carried v) → setup_fields (carried v) ≡ t
    → setup_answer v ≡ cond t (Ok (mask_of (the key_r (carried v)))) (Err Unread.Fields)
unfolding setup_answer
setup_by v t e f = ap setup_from e ∙ ap (λ (u : Bool). cond u (Ok (mask_of (the key_r (carried v)))) (Err Unread.Fields)) f

-- what was made of nothing
pub error_is : {A : Type 0} (o : Option.Option A) (e f : Unread) → ◌≡◌ {A = Result A Unread} (Err f) (ok_or o e) → o ≡ Option.None → f ≡ e
error_is {A} o e f p q =
    let r : ◌≡◌ {A = Result A Unread} (Err f) (Err e) = p ∙ ap (λ (x : Option.Option A). ok_or x e) q in
    cc

-- a value that breaks its grammar
pub request_breaks : (v : List ℕ) → grammar v ≡ none → request_answer v ≡ Err Unread.Grammar
unfolding request_answer
request_breaks v e = ap request_from e

pub setup_breaks : (v : List ℕ) → grammar v ≡ none → setup_answer v ≡ Err Unread.Grammar
unfolding setup_answer
setup_breaks v e = ap setup_from e

-- one that keeps it
module _ (seen : Seen) (h : Sound seen) where
  -- its set of fields by the counts
  pub request_fields_lem : request_fields (carried seen.value.now) ≡ (right_times (count_in seen) && eqb (count_in seen key_n) (nonce_bit (carried seen.value.now)))
  unfolding request_fields nonce_bit
  request_fields_lem =
      let fs = carried seen.value.now in
      ap₂ ◌&&◌ (sym (counts_are seen fs h.notes)) (sym (count_bit (count_in seen key_n) (times key_n fs) (nonce_bit fs) (counted seen fs h.notes key_n (lit< tt)) (omega arith)))

  pub setup_fields_lem : setup_fields (carried seen.value.now) ≡ (eqb seen.total 1 && eqb (count_in seen key_r) 1)
  unfolding setup_fields
  setup_fields_lem =
      let fs = carried seen.value.now in
      ap₂ ◌&&◌ (sym (count_bit seen.total (length fs) 1 h.notes.total (lit< tt)))
      (sym (count_bit (count_in seen key_r) (times key_r fs) 1 (counted seen fs h.notes key_r (lit< tt)) (lit< tt)))

  -- a mask that is carried once can be read
  mask_there : (k : ℕ) → k < 12 → rule_at k ≡ mask → times k (carried seen.value.now) ≡ 1
      → (told (text_in seen k) ≡ the k (carried seen.value.now)) × (1 ≤ length (told (text_in seen k))) × (length (told (text_in seen k)) ≤ 9)
  unfolding times the
  mask_there k small e one =
      let fs = carried seen.value.now in
      let is : told (text_in seen k) ≡ the k fs = ap held_in ((h.notes.kept k small).decodes (omega arith)) in
      let room = mask_room (the k fs) (rw e at (obeyed_once fs k ((grammar_exactly seen.value.now fs).0 h.kept).1 one)) in
      (is, rw is room.0, rw is room.1)

  pub coverage_there : right_times (count_in seen) ≡ true
      → (told (text_in seen key_ah) ≡ the key_ah (carried seen.value.now)) × (1 ≤ length (told (text_in seen key_ah))) × (length (told (text_in seen key_ah)) ≤ 9)
  unfolding rule_at keys
  coverage_there e =
      mask_there key_ah (lit< tt) refl (right_parts (λ k. times k (carried seen.value.now)) (sym (counts_are seen (carried seen.value.now) h.notes) ∙ e)).ah

  pub client_there : (eqb seen.total 1 && eqb (count_in seen key_r) 1) ≡ true
      → (told (text_in seen key_r) ≡ the key_r (carried seen.value.now)) × (1 ≤ length (told (text_in seen key_r))) × (length (told (text_in seen key_r)) ≤ 9)
  unfolding rule_at keys setup_fields
  client_there e =
      let fs = carried seen.value.now in
      mask_there key_r (lit< tt) refl (eqb-true (times key_r fs) 1 (both (eqb (length fs) 1) (eqb (times key_r fs) 1) (setup_fields_lem ∙ e)).1)
