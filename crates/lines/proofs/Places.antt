-- Where a line stands in a block: from the places to the line, and back.
-- Assumes nothing.
use mathlib.Core.Path.{◌≡◌, sym, ap, ◌∙◌}
use mathlib.Core.List.{List, ◌∷◌, ◌++◌}
use mathlib.Core.Bool.{Bool, true, ◌&&◌, and-eq-true_iff}
use Prim.Native.Nat.{ℕ, ◌+◌, ◌<◌}
use native.Mathlib.Omega.{arith}
use borrow.Author.Tests.{ltb-true, lt-ltb, eqb-true}
use lib.Dec.{ltb, eqb}
use lib.ListN.{length, get_or, drop}
use Rattle.cells.specs.Spans.{Spans}
use Rattle.names.specs.Names.{token_byte}
use Rattle.cells.proofs.Spans.{span_all, stops}
use Rattle.lines.specs.Lines.{Line, colon, CR, LF, value_byte, good_line, line_text}
use Rattle.lines.specs.InnerPlaces.{line_between, WholeLine}
use Rattle.cells.proofs.Cuts.{length_cut, cut_split, inside, drop_at, stands, onward}
use Rattle.lines.proofs.Lines.{good_parts, good_line_lem, colon_ends, return_ends, line_parts}

-- what the code tests: a name and a colon after it, and what ends a line
abbrev pub named : List ℕ → ℕ → ℕ → Bool
named block at c = ltb at c && eqb (get_or block c 0) colon

abbrev pub ended : List ℕ → ℕ → Bool
ended block e = eqb (get_or block e 0) CR && eqb (get_or block (e + 1) 0) LF

named_parts : (block : List ℕ) (at c : ℕ) → named block at c ≡ true → (at < c) × (get_or block c 0 ≡ colon)
named_parts block at c h =
    let both = (and-eq-true_iff (ltb at c) (eqb (get_or block c 0) colon)).0 h in
    (ltb-true _ _ both.0, eqb-true _ _ both.1)

-- a token, a colon, bytes of a value, CR and LF are a line
pub whole : (block : List ℕ) (at c e : ℕ) → Spans token_byte block at c → named block at c ≡ true → Spans value_byte block (c + 1) e
    → ended block e ≡ true → WholeLine block at c e
whole block at c e s n t m =
    let l = line_between block at c e in
    let parts = named_parts block at c n in
    let ends = (and-eq-true_iff (eqb (get_or block e 0) CR) (eqb (get_or block (e + 1) 0) LF)).0 m in
    let feed : get_or block (e + 1) 0 ≡ LF = eqb-true _ _ ends.1 in
    let last : e + 1 < length block = inside block (e + 1) (λ z. omega arith) in
    let value : c < e = omega (arith, t.is) in
    let twice : e + 1 + 1 ≡ e + 2 = omega arith in
    let text : drop at block ≡ l.name ++ (colon ∷ (l.value ++ (CR ∷ LF ∷ drop (e + 2) block))) =
    cut_split block at c (omega (arith, parts.0))
    ∙ ap (λ (xs : List ℕ). l.name ++ xs)
    (drop_at block c colon parts.1 (λ z. omega arith)
    ∙ ap (λ (xs : List ℕ). colon ∷ xs)
    (cut_split block (c + 1) e (omega arith)
    ∙ ap (λ (xs : List ℕ). l.value ++ xs)
    (drop_at block e CR (eqb-true _ _ ends.0) (λ z. omega arith)
    ∙ ap (λ (xs : List ℕ). CR ∷ xs) (drop_at block (e + 1) LF feed (λ z. omega arith) ∙ ap (λ (k : ℕ). LF ∷ drop k block) twice))))
    in
    record {
      named = parts.0;
      ordered = value;
      within = omega arith;
      good = good_line_lem l (omega (arith, parts.0, length_cut block at c s.within)) (span_all token_byte block at c s) (span_all value_byte block (c + 1) e t);
      text = text ∙ sym (line_parts l (drop (e + 2) block));
    }

-- where a good line stands the tests hold
module _ (block : List ℕ) (at : ℕ) (l : Line) (rest : List ℕ) (g : good_line l ≡ true) (h : drop at block ≡ line_text l ++ rest) (c : ℕ) (s : Spans token_byte block at c) where
  abbrev after : List ℕ
  after = l.value ++ (CR ∷ LF ∷ rest)

  name_stops : (c ≡ at + length l.name) × (drop c block ≡ colon ∷ after)
  name_stops = stops token_byte block l.name after at c colon s (h ∙ line_parts l rest) (good_parts l g).1 colon_ends

  pub named_there : named block at c ≡ true
  named_there = rw (stands block after c colon name_stops.1, lt-ltb at c (omega (arith, name_stops.0, (good_parts l g).0)))

  pub ended_there : (e : ℕ) → Spans value_byte block (c + 1) e → ended block e ≡ true
  ended_there e t =
      let value = (stops value_byte block l.value (LF ∷ rest) (c + 1) e CR t (onward block after c colon name_stops.1) (good_parts l g).2 return_ends).1 in
      rw (stands block (LF ∷ rest) e CR value, stands block rest (e + 1) LF (onward block (LF ∷ rest) e CR value))
