-- The fields of a value are those whose text it is.
-- Assumes nothing.
use mathlib.Core.Path.{◌≡◌, refl, sym, ap, ap₂, subst, ◌∙◌}
use mathlib.Core.Logic.{◌↔◌, ◌⊎◌, inl, inr, ⊎_elim}
use mathlib.Core.Bool.{true}
use mathlib.Core.List.{List, [], ◌∷◌, ◌++◌, append_assoc}
use mathlib.Core.Option.{Option, none, some}
use Prim.Native.Nat.{ℕ, suc, ◌<◌, ◌≤◌}
use native.Mathlib.Nat.{not-suc-le-zero}
use native.Mathlib.Omega.{arith}
use lib.Dec.{eqb, leb}
use lib.ListN.{length, length-append, get_or-append}
use borrow.Author.Tests.{eqb-true, eqb-false, leb-true, le-leb}
use Rattle.base_64.specs.Encoding.{encoded}
use Rattle.base_64.specs.Decoding.{Decoding, nothing, bytes, decoded}
use Rattle.base_64.proofs.Exactly.{decoded_exactly, decoded_bytes}
use Rattle.base_64.proofs.Encoded.{length_encoded, encoded_no_semicolon}
use Rattle.armor.specs.Pieces.{colon, semicolon, up_to, after, onto, pieces, Without}
use Rattle.armor.specs.Keys.{Rule, obeys, rule_of}
use Rattle.armor.specs.Value.{Field, field, Formed, AllFormed, field_text, joined, texts_of, all_good, ValueOf, decoded_obeys, text_obeys, piece_good, piece_field, field_of, with_field, fields_in, grammar}
use Rattle.armor.specs.Value
use Rattle.cells.proofs.Tests.{tested, both}
use Rattle.armor.proofs.Numerals.{at_once}
use Rattle.armor.proofs.Pieces.{without_none, without_first, without_rest, up_to_without, split_at_first, up_to_joined, after_joined, pieces_cut, pieces_one, pieces_next}

-- what a piece has to be for it to be a field
pub record IsField (p : List ℕ) (f : Field) : Type 0 where
  pub key_is : up_to colon p ≡ f.key
  pub bytes_are : decoded (after colon p) ≡ bytes f.bytes
  pub named : 0 < length f.key
  pub held : 0 < length f.bytes
  pub good : obeys (rule_of f.key) f.bytes ≡ true

pub obeyed_parts : (rule : Rule) (d : Decoding) → decoded_obeys rule d ≡ true
    → (d ≡ bytes (Value.held d)) × (1 ≤ length (Value.held d)) × (obeys rule (Value.held d) ≡ true)
obeyed_parts rule nothing e = absurd (let z : ◌≡◌ {A = ℕ} 0 1 = cc in omega arith)
obeyed_parts rule (bytes bs) e =
    let p = both (leb 1 (length bs)) (obeys rule bs) e in
    (refl, leb-true 1 (length bs) p.0, p.1)

pub piece_field_lem : (p : List ℕ) → piece_good p ≡ true → IsField p (piece_field p)
unfolding piece_good text_obeys
piece_field_lem p e =
    let key = up_to colon p in
    let h = both (leb 1 (length key)) (decoded_obeys (rule_of key) (decoded (after colon p))) e in
    let d = obeyed_parts (rule_of key) (decoded (after colon p)) h.1 in
    record { key_is = refl; bytes_are = d.0; named = leb-true 1 (length key) h.0; held = d.1; good = d.2 }

field_of_lem : (p : List ℕ) (f : Field) → field_of p ≡ some f → IsField p f
unfolding field_of
field_of_lem p f e =
    tested (piece_good p) (λ g. let same : piece_field p ≡ f = cc in subst (IsField p) same (piece_field_lem p g))
    (λ g. absurd (let z : ◌≡◌ {A = ℕ} 0 1 = cc in omega arith))

of_field : (p : List ℕ) (f : Field) → IsField p f → field_of p ≡ some f
unfolding field_of piece_good text_obeys
of_field p f h =
    let named : 1 ≤ length f.key = h.named in
    let held : 1 ≤ length f.bytes = h.held in
    rw (h.key_is, h.bytes_are) (simp (le-leb 1 (length f.key) named, le-leb 1 (length f.bytes) held, h.good))

-- a field's text is cut into that field
text_key : (f : Field) → Formed f → up_to colon (field_text f) ≡ f.key
unfolding field_text
text_key f h = up_to_joined colon f.key (encoded f.bytes) h.no_colon

text_content : (f : Field) → Formed f → decoded (after colon (field_text f)) ≡ bytes f.bytes
unfolding field_text
text_content f h =
    ap decoded (after_joined colon f.key (encoded f.bytes) h.no_colon) ∙ (decoded_exactly (encoded f.bytes) f.bytes h.of_bytes).1 refl

text_field : (f : Field) → Formed f → obeys (rule_of f.key) f.bytes ≡ true → IsField (field_text f) f
text_field f h good = record { key_is = text_key f h; bytes_are = text_content f h; named = h.named; held = h.held; good = good }

-- runs without a byte, joined and taken apart
without_joined : (b : ℕ) (xs ys : List ℕ) → Without b xs → Without b ys → Without b (xs ++ ys)
without_joined b [] ys h g = g
without_joined b (x ∷ xs) ys h g = without_first b x (xs ++ ys) (h 0 (omega arith)) (without_joined b xs ys (without_rest b x xs h) g)

without_front : (b : ℕ) (xs ys : List ℕ) → Without b (xs ++ ys) → Without b xs
without_front b xs ys h i inside e = h i (omega (arith, length-append xs ys)) (get_or-append xs ys 0 i inside ∙ e)

-- a piece without ; that is a field is that field's text
field_text_lem : (p : List ℕ) (f : Field) → Without semicolon p → IsField p f → (p ≡ field_text f) × Formed f
unfolding field_text
field_text_lem p f no_semicolon h =
    let are_bytes = decoded_bytes (after colon p) f.bytes h.bytes_are in
    let text : after colon p ≡ encoded f.bytes = (decoded_exactly (after colon p) f.bytes are_bytes).0 h.bytes_are in
    let there : 0 < length (after colon p) = rw text (omega (arith, length_encoded f.bytes, h.held)) in
    let whole : p ≡ f.key ++ colon ∷ encoded f.bytes =
    split_at_first colon p there ∙ ap₂ (λ (k t : List ℕ). k ++ colon ∷ t) h.key_is text
    in (
      whole,
      record {
        named = h.named;
        no_colon = subst (Without colon) h.key_is (up_to_without colon p);
        no_semicolon = without_front semicolon f.key (colon ∷ encoded f.bytes) (subst (Without semicolon) whole no_semicolon);
        held = h.held;
        of_bytes = are_bytes;
      },
    )

text_without : (f : Field) → Formed f → Without semicolon (field_text f)
unfolding field_text
text_without f h =
    without_joined semicolon f.key (colon ∷ encoded f.bytes) h.no_semicolon
    (without_first semicolon colon (encoded f.bytes) (λ e. omega arith) (encoded_no_semicolon f.bytes))

text_some : (f : Field) → Formed f → 0 < length (field_text f)
unfolding field_text
text_some f h = omega (arith, h.named, length-append f.key (colon ∷ encoded f.bytes))

-- the pieces of joined texts
pieces_texts : (fs : List Field) → AllFormed fs → pieces (joined (texts_of fs)) ≡ texts_of fs
unfolding joined texts_of pieces
pieces_texts [] h = refl
pieces_texts (f ∷ []) h = pieces_one (field_text f) (text_some f h.0) (text_without f h.0)
pieces_texts (f ∷ g ∷ fs) h =
    pieces_next (field_text f) (joined (texts_of (g ∷ fs))) (text_without f h.0) ∙ ap (λ (ps : List (List ℕ)). field_text f ∷ ps) (pieces_texts (g ∷ fs) h.1)

pieces_closed : (fs : List Field) → 0 < length fs → AllFormed fs → pieces (joined (texts_of fs) ++ semicolon ∷ []) ≡ texts_of fs
unfolding joined texts_of pieces
pieces_closed [] more h = absurd (not-suc-le-zero more)
pieces_closed (f ∷ []) more h = pieces_next (field_text f) [] (text_without f h.0)
pieces_closed (f ∷ g ∷ fs) more h =
    ap pieces (append_assoc (field_text f) (semicolon ∷ joined (texts_of (g ∷ fs))) (semicolon ∷ []))
    ∙ pieces_next (field_text f) (joined (texts_of (g ∷ fs)) ++ semicolon ∷ []) (text_without f h.0)
    ∙ ap (λ (ps : List (List ℕ)). field_text f ∷ ps) (pieces_closed (g ∷ fs) (omega arith) h.1)

fields_texts : (fs : List Field) → AllFormed fs → all_good fs ≡ true → fields_in (texts_of fs) ≡ some fs
unfolding fields_in texts_of all_good
fields_texts [] h good = refl
fields_texts (f ∷ fs) h good =
    let g = both (obeys (rule_of f.key) f.bytes) (all_good fs) good in
    ap₂ with_field (of_field (field_text f) f (text_field f h.0 g.0)) (fields_texts fs h.1 g.1)

length_texts : (fs : List Field) → length (texts_of fs) ≡ length fs
unfolding texts_of
length_texts [] = refl
length_texts (f ∷ fs) = ap suc (length_texts fs)

pieces_value : (v : List ℕ) (fs : List Field) → ValueOf v fs → pieces v ≡ texts_of fs
pieces_value v fs h =
    ⊎_elim (λ e. ap pieces e ∙ pieces_texts fs h.formed) (λ e. ap pieces e ∙ pieces_closed fs h.one_or_more h.formed) h.text

pub grammar_some : (v : List ℕ) → 0 < length v → grammar v ≡ fields_in (pieces v)
unfolding grammar
grammar_some [] h = absurd (not-suc-le-zero h)
grammar_some (x ∷ xs) h = refl

of_value : (v : List ℕ) (fs : List Field) → ValueOf v fs → all_good fs ≡ true → grammar v ≡ some fs
unfolding grammar pieces
of_value [] fs h good = absurd (omega (arith, ap length (pieces_value [] fs h), length_texts fs, h.one_or_more))
of_value (x ∷ xs) fs h good = ap fields_in (pieces_value (x ∷ xs) fs h) ∙ fields_texts fs h.formed good

-- pieces have no ;
abbrev AllWithout : List (List ℕ) → Type 0
AllWithout [] = Unit
AllWithout (p ∷ ps) = Without semicolon p × AllWithout ps

onto_without : (x : ℕ) (ps : List (List ℕ)) → (x ≡ semicolon → ⊥) → AllWithout ps → AllWithout (onto x ps)
onto_without x [] ne h = (without_first semicolon x [] ne (without_none semicolon), tt)
onto_without x (p ∷ ps) ne h = (without_first semicolon x p ne h.0, h.1)

pieces_without : (v : List ℕ) → AllWithout (pieces v)
unfolding pieces
pieces_without [] = tt
pieces_without (x ∷ xs) =
    tested (eqb x semicolon) (λ e. rw e (without_none semicolon, pieces_without xs))
    (λ e. rw e (onto_without x (pieces xs) (eqb-false x semicolon e) (pieces_without xs)))

-- a value is its pieces, joined again
abbrev Joins : List ℕ → List (List ℕ) → Type 0
Joins v ps = (v ≡ joined ps) ⊎ (v ≡ joined ps ++ semicolon ∷ [])

joined_onto : (x : ℕ) (ps : List (List ℕ)) → joined (onto x ps) ≡ x ∷ joined ps
unfolding joined
joined_onto x [] = refl
joined_onto x (p ∷ []) = refl
joined_onto x (p ∷ q ∷ ps) = refl

joined_more : (x y : ℕ) (ys : List ℕ) → joined (pieces (x ∷ y ∷ ys)) ≡ x ∷ joined (pieces (y ∷ ys))
unfolding pieces joined
joined_more x y ys =
    tested (eqb x semicolon) (λ e. rw (e, pieces_cut y ys, eqb-true x semicolon e)) (λ e. rw e (joined_onto x (pieces (y ∷ ys))))

joins : (x : ℕ) (xs : List ℕ) → Joins (x ∷ xs) (pieces (x ∷ xs))
unfolding pieces joined
joins x [] = tested (eqb x semicolon) (λ e. rw e (inr (ap (λ (y : ℕ). y ∷ []) (eqb-true x semicolon e)))) (λ e. rw e (inl refl))
joins x (y ∷ ys) =
    let more = joined_more x y ys in
    ⊎_elim (λ e. inl (rw more (ap (λ (l : List ℕ). x ∷ l) e))) (λ e. inr (rw more (ap (λ (l : List ℕ). x ∷ l) e))) (joins y ys)

-- pieces that are fields are the texts of these, and these keep their rules
abbrev Texts : List (List ℕ) → List Field → Type 0
Texts ps fs = (ps ≡ texts_of fs) × AllFormed fs × (all_good fs ≡ true)

texts_by : (p : List ℕ) (ps : List (List ℕ)) (fs : List Field) (o : Option Field) (os : Option (List Field)) → field_of p ≡ o
    → Without semicolon p → ((gs : List Field) → os ≡ some gs → Texts ps gs) → with_field o os ≡ some fs → Texts (p ∷ ps) fs
unfolding texts_of all_good
texts_by p ps fs none os e w rest h = absurd (let z : ◌≡◌ {A = ℕ} 0 1 = cc in omega arith)
texts_by p ps fs (some f) none e w rest h = absurd (let z : ◌≡◌ {A = ℕ} 0 1 = cc in omega arith)
texts_by p ps fs (some f) (some gs) e w rest h =
    let is = field_of_lem p f e in
    let one = field_text_lem p f w is in
    let more = rest gs refl in
    let are : f ∷ gs ≡ fs = cc in
    subst (Texts (p ∷ ps)) are (ap₂ ◌∷◌ one.0 more.0, (one.1, more.1), at_once is.good more.2)

texts_of_lem : (ps : List (List ℕ)) → AllWithout ps → (fs : List Field) → fields_in ps ≡ some fs → Texts ps fs
unfolding fields_in texts_of all_good
texts_of_lem [] w fs e = let are : ◌≡◌ {A = List Field} [] fs = cc in subst (Texts []) are (refl, tt, refl)
texts_of_lem (p ∷ ps) w fs e = texts_by p ps fs (field_of p) (fields_in ps) refl w.0 (texts_of_lem ps w.1) e

value_of : (v : List ℕ) (fs : List Field) → grammar v ≡ some fs → ValueOf v fs × (all_good fs ≡ true)
unfolding grammar
value_of [] fs e = absurd (let z : ◌≡◌ {A = ℕ} 0 1 = cc in omega arith)
value_of (x ∷ xs) fs e =
    let v = x ∷ xs in
    let parts = texts_of_lem (pieces v) (pieces_without v) fs e in (
      record {
        one_or_more = omega (arith, length_texts fs, ap length (sym (pieces_cut x xs) ∙ parts.0));
        formed = parts.1;
        text = subst (Joins v) parts.0 (joins x xs);
      },
      parts.2,
    )

-- the fields that are found are those whose text the value is, where they keep their rules
pub grammar_exactly : (v : List ℕ) (fs : List Field) → (grammar v ≡ some fs) ↔ (ValueOf v fs × (all_good fs ≡ true))
grammar_exactly v fs = (value_of v fs, λ h. of_value v fs h.0 h.1)

-- a value is the text of one list of fields at most, whether these keep their rules or not
text_same : (f g : Field) → Formed f → Formed g → field_text f ≡ field_text g → f ≡ g
text_same f g h k e =
    let left = text_content f h in
    let right = text_content g k in
    let content : f.bytes ≡ g.bytes = cc in
    ap₂ field (sym (text_key f h) ∙ ap (up_to colon) e ∙ text_key g k) content

texts_same : (fs gs : List Field) → AllFormed fs → AllFormed gs → texts_of fs ≡ texts_of gs → fs ≡ gs
unfolding texts_of
texts_same [] [] h k e = refl
texts_same [] (g ∷ gs) h k e = absurd (let z : ◌≡◌ {A = ℕ} 0 1 = cc in omega arith)
texts_same (f ∷ fs) [] h k e = absurd (let z : ◌≡◌ {A = ℕ} 0 1 = cc in omega arith)
texts_same (f ∷ fs) (g ∷ gs) h k e =
    let first : field_text f ≡ field_text g = cc in
    let rest : texts_of fs ≡ texts_of gs = cc in
    ap₂ ◌∷◌ (text_same f g h.0 k.0 first) (texts_same fs gs h.1 k.1 rest)

pub fields_determined : (v : List ℕ) (fs gs : List Field) → ValueOf v fs → ValueOf v gs → fs ≡ gs
fields_determined v fs gs h k = texts_same fs gs h.formed k.formed (sym (pieces_value v fs h) ∙ pieces_value v gs k)
