-- Laws of a scan: what a piece is, and how notes grow by one field.
-- Assumes nothing.
use mathlib.Core.Path.{◌≡◌, refl, sym, ap, ap₂, subst, ◌∙◌}
use mathlib.Core.Bool.{Bool, true, false, cond, not, ◌&&◌}
use mathlib.Core.List.{List, [], ◌∷◌, ◌++◌, append_assoc, append-nil}
use mathlib.Core.Option
use mathlib.Core.Option.{Option, none, some}
use Prim.Native.Nat.{ℕ, suc, ◌+◌, ◌-◌, ◌<◌, ◌≤◌, min}
use native.Mathlib.Nat.{not-suc-le-zero, zero-add}
use native.Mathlib.Numerals.{add-one}
use native.Mathlib.Decide.{dec_lt}
use native.Mathlib.Omega.{arith}
use lib.Dec.{eqb, leb}
use lib.ListN.{length, get_or, take, drop, length-append, length-take, length-drop, get_or-replicate, drop_of_length-le}
use lib.Seq.{get_or-set_same, get_or-set_other, drop-drop, take_all}
use borrow.Author.Tests.{eqb-true, eqb-false}
use Rattle.cells.specs.Runs.{cut}
use Rattle.cells.specs.Spans.{Spans}
use Rattle.cells.proofs.Cuts.{drop_take}
use Rattle.base_64.specs.Decoding.{bytes, decoded}
use Rattle.std.specs.Prelude.{set}
use Rattle.armor.specs.declared.Span.{Span}
use Rattle.armor.specs.declared.key.Key.{Key}
use Rattle.armor.specs.declared.tally.Tally.{Tally}
use Rattle.armor.specs.declared.seen.Seen.{Seen}
use Rattle.armor.specs.declared.scanning.Piece.{Piece}
use Rattle.armor.specs.InnerTallies.{no_tally}
use Rattle.armor.specs.Pieces.{colon, semicolon, up_to, after, pieces}
use Rattle.armor.specs.Keys.{Rule, key_number, rule_at, rule_of}
use Rattle.armor.specs.Value.{Field, text_obeys, piece_good, piece_field, field_of, with_field, fields_in, grammar, carried}
use Rattle.armor.specs.Fields.{contents}
use Rattle.armor.specs.InnerScan.{ReadAs, place, Ends, Kept, Notes, Sound, NoneSeen, OneMore, count_in}
use Rattle.cells.proofs.Tests.{tested, both}
use Rattle.armor.proofs.Value.{piece_field_lem, grammar_some}
use Rattle.armor.proofs.Pieces.{leading_up_to, pieces_cut, taken_up_to, dropped_after, split_at_first}

-- fields before others
abbrev pub before : List Field → Option (List Field) → Option (List Field)
before fs none = none
before fs (some gs) = some (fs ++ gs)

pub before_nil : (o : Option (List Field)) → before [] o ≡ o
before_nil none = refl
before_nil (some gs) = refl

pub before_more : (fs : List Field) (f : Field) (o : Option (List Field)) → before fs (with_field (some f) o) ≡ before (fs ++ f ∷ []) o
before_more fs f none = refl
before_more fs f (some gs) = ap some (sym (append_assoc fs (f ∷ []) gs))

good_next : (fs : List Field) (p : List ℕ) (ps : List (List ℕ)) → piece_good p ≡ true
    → before fs (fields_in (p ∷ ps)) ≡ before (fs ++ piece_field p ∷ []) (fields_in ps)
unfolding fields_in field_of
good_next fs p ps e = rw e (before_more fs (piece_field p) (fields_in ps))

-- contents of one field more
contents_more : (k : ℕ) (fs : List Field) (f : Field)
    → contents k (fs ++ f ∷ []) ≡ contents k fs ++ cond (eqb (key_number f.key) k) (f.bytes ∷ []) []
unfolding contents
contents_more k [] f = refl
contents_more k (g ∷ fs) f =
    let more = contents_more k fs f in
    tested (eqb (key_number g.key) k) (λ e. rw e (ap (λ (l : List (List ℕ)). g.bytes ∷ l) more)) (λ e. rw e more)

-- notes of contents with one more
kept_more : (v : List ℕ) {t : Tally} (held : List (List ℕ)) (text : Span) (bs : List ℕ) → Kept v t held
    → decoded (cut v text.start text.end) ≡ bytes bs → Kept v (record { count = min 2 (t.count + 1); text = text }) (held ++ bs ∷ [])
kept_more v [] text bs h is = record { counted = omega (arith, h.counted); decodes = λ few. is }
kept_more v (x ∷ xs) text bs h is =
    let more = length-append (x ∷ xs) (bs ∷ []) in
    record { counted = omega (arith, h.counted); decodes = λ few. absurd (omega arith) }

module _ (old new : Seen) (fs : List Field) (f : Field) (text : Span) (h : Notes old fs) (long : length old.tallies ≡ 12) (is : decoded (cut old.value.now text.start text.end) ≡ bytes f.bytes) (one : OneMore old (key_number f.key) text new) where
  abbrev next : Tally
  next = record { count = min 2 (count_in old (key_number f.key) + 1); text = text }

  kept_next : (k : ℕ) → k < 12 → Kept old.value.now (get_or (set old.tallies (key_number f.key) next) k no_tally) (contents k (fs ++ f ∷ []))
  kept_next k small =
      let j = key_number f.key in
      tested (eqb j k)
      (λ t. let here : k < length old.tallies = rw long small in rw (eqb-true j k t, get_or-set_same, contents_more k fs f, t)
      (kept_more old.value.now (contents k fs) text f.bytes (h.kept k small) is))
      (λ t. let other : k ≡ j → ⊥ = λ p. eqb-false j k t (sym p) in rw (
        get_or-set_other old.tallies j k next no_tally other,
        contents_more k fs f,
        t,
        append-nil (contents k fs),
      ) (h.kept k small))

  -- notes of fields with one more
  pub notes_more : Notes new (fs ++ f ∷ [])
  notes_more = record {
    total = omega (arith, one.total, h.total, length-append fs (f ∷ []));
    kept = λ k small. rw (one.of, one.tallies) (kept_next k small);
  }

-- a scan that has passed the fields of the pieces before byte at
pub record Progress (v : List ℕ) (seen : Seen) (at : ℕ) : Type 0 where
  pub fields : List Field
  pub of : seen.value.now ≡ v
  pub notes : Notes seen fields
  pub rest : fields_in (pieces v) ≡ before fields (fields_in (pieces (drop at v)))

no_notes : (v : List ℕ) (seen : Seen) → NoneSeen v seen → Notes seen []
unfolding contents decoded
no_notes v seen start = record {
  total = omega (arith, start.total);
  kept = λ k small.
      rw (start.tallies, get_or-replicate {A = Tally} 12 k no_tally no_tally small)
      (record { counted = omega arith; decodes = λ few. refl });
}

pub progress_none : (v : List ℕ) (seen : Seen) → NoneSeen v seen → Progress v seen 0
progress_none v seen start = record { fields = []; of = start.of; notes = no_notes v seen start; rest = sym (before_nil (fields_in (pieces v))) }

first_piece : (w : List ℕ) → 0 < length w → pieces w ≡ take (length (up_to semicolon w)) w ∷ pieces (drop (suc (length (up_to semicolon w))) w)
first_piece [] h = absurd (not-suc-le-zero h)
first_piece (x ∷ xs) h =
    pieces_cut x xs
    ∙ ap₂ (λ (p q : List ℕ). p ∷ pieces q) (sym (taken_up_to semicolon (x ∷ xs))) (sym (dropped_after semicolon (x ∷ xs)))

-- the piece at a byte of a value, and those after it
next_piece : (v : List ℕ) (at end : ℕ) → at < length v → Ends v at end → pieces (drop at v) ≡ cut v at end ∷ pieces (drop (end + 1) v)
next_piece v at end h e =
    let w = drop at v in
    let size_is : length (up_to semicolon w) ≡ end - at = omega (arith, e.is) in
    let next_is : at + suc (length (up_to semicolon w)) ≡ end + 1 = omega (arith, e.is) in
    first_piece w (omega (arith, length-drop at v))
    ∙ ap₂ (λ (p q : List ℕ). p ∷ pieces q)
    (ap (λ (i : ℕ). take i w) size_is)
    (drop-drop (suc (length (up_to semicolon w))) at v ∙ ap (λ (i : ℕ). drop i v) next_is)

obeyed_some : (rule : Rule) (text : List ℕ) → text_obeys rule text ≡ true → 0 < length text
unfolding text_obeys decoded
obeyed_some rule [] h = absurd (let z : ◌≡◌ {A = ℕ} 0 1 = cc in omega arith)
obeyed_some rule (x ∷ xs) h = omega arith

-- the text of a good piece starts within it
pub good_inside : (p : List ℕ) → piece_good p ≡ true → length (up_to colon p) + 1 ≤ length p
unfolding piece_good
good_inside p e =
    let h = both (leb 1 (length (up_to colon p))) (text_obeys (rule_of (up_to colon p)) (after colon p)) e in
    let whole = split_at_first colon p (obeyed_some (rule_of (up_to colon p)) (after colon p) h.1) in
    omega (arith, ap length whole, length-append (up_to colon p) (colon ∷ after colon p))

module _ (v : List ℕ) (seen : Seen) (at end : ℕ) (h : Progress v seen at) (inside : at < length v) (e : Ends v at end) where
  -- a scan with one piece more
  pub progress_more : (r : Piece) (new : Seen) → ReadAs (cut v at end) r → length seen.tallies ≡ 12
      → OneMore seen (place r.key) (record { start = at + r.start; end = end }) new → Progress v new (end + 1)
  progress_more r new read long one =
      let p = cut v at end in
      let f = piece_field p in
      let left_is : end - (at + r.start) ≡ end - at - r.start = omega arith in
      let text : cut v (at + r.start) end ≡ after colon p =
      ap₂ (λ (i : ℕ) (l : List ℕ). take i l) left_is (sym (drop-drop r.start at v))
      ∙ sym (drop_take (drop at v) r.start (end - at) (omega (arith, read.within, length-take (end - at) (drop at v))) (omega (arith, length-drop at v, e.within)))
      ∙ ap (λ (i : ℕ). drop i p) (read.start ∙ add-one _)
      ∙ dropped_after colon p
      in
      record {
        fields = h.fields ++ f ∷ [];
        of = one.of ∙ h.of;
        notes =
            notes_more seen new h.fields f (record { start = at + r.start; end = end }) h.notes long
            (rw h.of (ap decoded text ∙ (piece_field_lem p read.good).bytes_are))
            (rw (← read.key) one);
        rest = h.rest ∙ ap (λ (ps : List (List ℕ)). before h.fields (fields_in ps)) (next_piece v at end inside e)
            ∙ good_next h.fields p (pieces (drop (end + 1) v)) read.good;
      }

  -- a piece that is not good
  pub progress_bad : piece_good (cut v at end) ≡ false → grammar v ≡ none
  unfolding fields_in field_of
  progress_bad bad =
      grammar_some v (omega arith)
      ∙ h.rest
      ∙ ap (λ (ps : List (List ℕ)). before h.fields (fields_in ps)) (next_piece v at end inside e)
      ∙ simp bad

-- a scan that has passed all pieces
pub progress_all : (v : List ℕ) (seen : Seen) (at : ℕ) (h : Progress v seen at) → length v ≤ at → 0 < length v → grammar v ≡ some h.fields
unfolding fields_in pieces
progress_all v seen at h end more =
    grammar_some v more
    ∙ h.rest
    ∙ ap (λ (w : List ℕ). before h.fields (fields_in (pieces w))) (drop_of_length-le v end)
    ∙ ap some (append-nil h.fields)

pub carried_is : (v : List ℕ) (fs : List Field) → grammar v ≡ some fs → carried v ≡ fs
unfolding carried
carried_is v fs e = ap (λ (o : Option (List Field)). Option.get_or o []) e

pub kept_is : (v : List ℕ) (fs : List Field) → grammar v ≡ some fs → grammar v ≡ some (carried v)
kept_is v fs e = e ∙ ap some (sym (carried_is v fs e))

pub sound_of : (v : List ℕ) (seen : Seen) (at : ℕ) → Progress v seen at → length v ≤ at → 0 < length v → (seen.value.now ≡ v) × Sound seen
sound_of v seen at h end more =
    let all = progress_all v seen at h end more in
    let is = carried_is v h.fields all in
    (h.of, record { kept = rw h.of (kept_is v h.fields all); notes = subst (Notes seen) (sym (ap carried h.of ∙ is)) h.notes })

-- a value without pieces
pub nothing_read : (v : List ℕ) → length v ≡ 0 → grammar v ≡ none
unfolding grammar
nothing_read [] e = refl
nothing_read (x ∷ xs) e = absurd (omega arith)

-- where a piece ends
pub ends : (v : List ℕ) (at r : ℕ) → Spans (λ b. not (eqb b semicolon)) v at r → Ends v at r
ends v at r h = record { is = h.is ∙ ap (λ (n : ℕ). at + n) (leading_up_to semicolon (drop at v)); within = h.within }

-- a piece as the code reads it: the text starts after the first colon, or at the end
text_is : (p : List ℕ) (at start : ℕ) → at ≡ length (up_to colon p) → start ≡ min (length p) (at + 1)
    → drop start p ≡ after colon p
text_is p at start e s =
    let moved : drop start p ≡ drop (suc (length (up_to colon p))) p = elim (dec_lt at (length p)) [
      | yes h ↦ let next : start ≡ suc (length (up_to colon p)) = omega arith in ap (λ (i : ℕ). drop i p) next
      | no h ↦
          drop_of_length-le p {i = start} (omega arith) ∙ sym (drop_of_length-le p {i = suc (length (up_to colon p))} (omega arith))
    ] in
    moved ∙ dropped_after colon p

pub colon_at : (p : List ℕ) (at : ℕ) → Spans (λ b. not (eqb b colon)) p 0 at → at ≡ length (up_to colon p)
colon_at p at h = h.is ∙ zero-add _ ∙ leading_up_to colon p

pub piece_is : (p : List ℕ) (at start : ℕ) (key : Key) (good : Bool) → at ≡ length (up_to colon p) → start ≡ min (length p) (at + 1)
    → place key ≡ key_number (take at p) → good ≡ text_obeys (rule_at (place key)) (take (length p - start) (drop start p))
    → (piece_good p ≡ (leb 1 at && good)) × (place key ≡ key_number (up_to colon p))
unfolding piece_good rule_of
piece_is p at start key good e s k g =
    let key_is = k ∙ ap key_number (ap (λ (i : ℕ). take i p) e ∙ taken_up_to colon p) in
    let text = take_all (length p - start) (drop start p) (omega (arith, length-drop start p)) ∙ text_is p at start e s in
    let good_is = g ∙ ap₂ (λ (i : ℕ) (x : List ℕ). text_obeys (rule_at i) x) key_is text in
    (ap₂ (λ (n : ℕ) (u : Bool). leb 1 n && u) (sym e) (sym good_is), key_is)

pub read_as : (p : List ℕ) (r : Piece) (at : ℕ) → at ≡ length (up_to colon p) → r.start ≡ min (length p) (at + 1) → piece_good p ≡ true
    → place r.key ≡ key_number (up_to colon p) → ReadAs p r
read_as p r at e s good key =
    let inside = good_inside p good in
    record { good = good; key = key; start = omega arith; within = omega arith }
