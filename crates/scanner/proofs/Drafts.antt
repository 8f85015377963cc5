-- What is asked of a request before its value is made: its sizes, and its head by the notes on it.
-- Assumes nothing.
use mathlib.Core.Path.{◌≡◌, refl, sym, ◌∙◌}
use mathlib.Core.Bool.{Bool, true, false, not, ◌&&◌, ◌||◌, and-true, and-false, or-false}
use mathlib.Core.List.{List, []}
use Prim.Native.Nat.{ℕ, ◌≤◌}
use borrow.Author.Tests.{leb-true}
use lib.Dec.{leb}
use lib.ListN.{length}
use Rattle.std.specs.Prelude.{Result, Ok, Err}
use Rattle.std.specs.Result.{is_err}
use Rattle.cells.proofs.Tests.{both}
use Rattle.lines.specs.Lines.{lines_in, good_block}
use Rattle.lines.specs.Values.{repeated}
use Rattle.lines.specs.InnerNotes.{NotedIs, NotesOf}
use Rattle.lines.specs.declared.remarks.Notes.{Notes}
use Rattle.lines.specs.declared.noting.Unnoted.{Unnoted}
use Rattle.lines.specs.declared.noting.Unnoted.TheVariants.{NotLines, Twice}
use Rattle.lines.proofs.Lines.{lines_none, good_none}
use Rattle.lines.proofs.Notes.{unrepeated}
use Rattle.scanner.specs.Sign.{Draft, long_from, draft_fits}

-- sizes that fit
pub record Fitting (d : Draft) (out : List ℕ) : Type 0 where
  pub method : length d.method ≤ 16
  pub head : length d.head ≤ 16384
  pub path_some : 1 ≤ length d.path
  pub path : length d.path ≤ 2048
  pub body : length d.body ≤ 65536
  pub room : 4096 ≤ length out

pub fitting : (d : Draft) (out : List ℕ) → draft_fits d out ≡ true → Fitting d out
unfolding draft_fits
fitting d out e =
    let method = both (long_from 1 16 d.method) _ e in
    let head = both (leb (length d.head) 16384) _ method.1 in
    let path = both (long_from 1 2048 d.path) _ head.1 in
    let body = both (leb (length d.body) 65536) (leb 4096 (length out)) path.1 in
    let long = both (leb 1 (length d.path)) (leb (length d.path) 2048) path.0 in
    record {
      method = leb-true _ 16 (both (leb 1 (length d.method)) (leb (length d.method) 16) method.0).1;
      head = leb-true _ 16384 head.0;
      path_some = leb-true 1 _ long.0;
      path = leb-true _ 2048 long.1;
      body = leb-true _ 65536 body.0;
      room = leb-true 4096 _ body.1;
    }

-- what the notes on a head tell of a draft, with nothing set aside
module _ (names : List (List ℕ)) (head : List ℕ) (notes : Notes) (token : Bool) where
  by_repeats : (twice : Bool) → (good_block head && good_block []) ≡ true → (repeated names (lines_in head) || repeated names (lines_in [])) ≡ twice
      → ((token && good_block head) && not (repeated names (lines_in head))) ≡ (token && not twice)
  by_repeats twice g t =
      let good : good_block head ≡ true = (both (good_block head) (good_block []) g).0 in
      let same : repeated names (lines_in head) ≡ twice = sym (or-false (repeated names (lines_in head))) ∙ rw (lines_none, unrepeated names) at t in
      rw (good, same, and-true token) refl

  pub noted_head : (r : Result (Unit {0}) Unnoted) → NotedIs names head [] notes r
      → ((token && good_block head) && not (repeated names (lines_in head))) ≡ (token && not (is_err r))
  noted_head (Ok u) n = by_repeats false n.good n.twice_is
  noted_head (Err Twice) n = by_repeats true n.good n.twice_is
  noted_head (Err NotLines) n =
      let bad : good_block head ≡ false = sym (and-true (good_block head)) ∙ rw good_none at n in
      rw (bad, and-false token) refl

-- and the notes themselves
pub noted_are : {names : List (List ℕ)} {head aside : List ℕ} (notes : Notes) (r : Result (Unit {0}) Unnoted) → NotedIs names head aside notes r
    → is_err r ≡ false → NotesOf names head aside notes
noted_are notes (Ok u) n e = n.are
noted_are notes (Err Twice) n e = cc
noted_are notes (Err NotLines) n e = cc
