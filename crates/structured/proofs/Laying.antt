-- A text that is laid piece by piece: what a loop that lays it knows on its way.
-- Assumes nothing.
use mathlib.Core.Path.{◌≡◌, refl, sym, ap, ◌∙◌}
use mathlib.Core.List.{List, [], ◌∷◌, ◌++◌, append_assoc, append-nil}
use Prim.Native.Nat.{ℕ, ◌+◌, ◌≤◌, ◌<◌}
use native.Mathlib.Omega.{arith}
use lib.ListN.{length, set, length-append}
use Rattle.cells.specs.InnerLaid.{Laid}
use Rattle.cells.proofs.Runs.{stored, length_spliced}
use Rattle.cells.proofs.Laid.{laid_none, laid_more}

-- from byte at on some of a text is laid in a run that was `out`, up to byte end, and the rest is not yet
pub record Laying (out now : List ℕ) (at end : ℕ) (text rest : List ℕ) : Type 0 where
  pub front : List ℕ
  pub laid : Laid out now at end front
  pub parts : text ≡ front ++ rest
  pub fits : at + length text ≤ length out

pub laying_none : (out : List ℕ) (at : ℕ) {text rest : List ℕ} → at + length text ≤ length out → text ≡ rest → Laying out out at at text rest
laying_none out at h e = record { front = []; laid = laid_none out at; parts = e; fits = h }

module _ {out now : List ℕ} {at end : ℕ} {text rest : List ℕ} (w : Laying out now at end text rest) where
  sizes : length text ≡ length w.front + length rest
  sizes = ap length w.parts ∙ length-append w.front rest

  pub laying_same : length now ≡ length out
  laying_same = ap length w.laid.is ∙ length_spliced out w.front at (omega (arith, sizes, w.fits))

  laying_fits : end + length rest ≤ length now
  laying_fits = omega (arith, sizes, w.fits, w.laid.ends, laying_same)

  -- the next piece fits
  pub laying_next : (piece more : List ℕ) → rest ≡ piece ++ more → end + length piece ≤ length now
  laying_next piece more e = omega (arith, laying_fits, ap length e, length-append piece more)

  -- a piece more
  pub laying_more : {left : List ℕ} {next : ℕ} {piece more : List ℕ} → rest ≡ piece ++ more → Laid now left end next piece → Laying out left at next text more
  laying_more {piece = piece} {more = more} e l = record {
    front = w.front ++ piece;
    laid = laid_more w.laid l (omega (arith, laying_next piece more e, laying_same, l.ends));
    parts = w.parts ∙ ap (λ (r : List ℕ). w.front ++ r) e ∙ sym (append_assoc w.front piece more);
    fits = w.fits;
  }

  -- the rest, told otherwise
  pub laying_as : {more : List ℕ} → rest ≡ more → Laying out now at end text more
  laying_as e = rw e at w

  -- nothing is left
  pub laying_all : rest ≡ [] → Laid out now at end text
  laying_all e = rw (w.parts ∙ ap (λ (r : List ℕ). w.front ++ r) e ∙ append-nil w.front) w.laid

-- a byte that is stored
pub laid_byte : (out : List ℕ) (at b : ℕ) → at < length out → Laid out (set out at b) at (at + 1) (b ∷ [])
laid_byte out at b h = record { is = stored out (b ∷ []) at (omega arith); ends = refl }

-- a text between two bytes
pub laid_between : {out first second left : List ℕ} {at start end last x y : ℕ} {text : List ℕ} → Laid out first at start (x ∷ [])
    → Laid first second start end text → Laid second left end last (y ∷ []) → at + (length text + 2) ≤ length out → Laid out left at last (x ∷ (text ++ (y ∷ [])))
laid_between p q r h = laid_more (laid_more p q (omega (arith, p.ends, q.ends))) r (omega (arith, p.ends, q.ends, r.ends))
