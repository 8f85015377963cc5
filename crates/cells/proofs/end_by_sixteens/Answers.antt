use Rattle.std.proofs.Common.{◌≡◌, ◌≤◌, ◌++◌, ◌+◌, ◌-◌, ℕ, List, length, take, drop, sym, ap, ◌∙◌, arith}
use Rattle.std.proofs.Math.ListN.{length-append, length-drop}
use lib.Seq.{drop-drop, take-append_seam, drop-append_seam}
use Rattle.std.specs.Slice.Iter.{chunks_exact_rest}
use Rattle.cells.specs.Spans.{all}
use Rattle.cells.specs.Runs.{cut}
use Rattle.cells.proofs.Cuts.{cut_rest}
use Rattle.cells.proofs.Spans.{passed_none, passed_part}
use Rattle.cells.proofs.end_by_sixteens.Goals as goal

-- sixteen elements that stand from index i on, and the others
module _ (run xs rest : List ℕ) (i : ℕ) (h : drop i run ≡ xs ++ rest) (size : length xs ≡ 16) (within : i ≤ length run) where
  long : i + 16 ≤ length run
  long = omega (arith, ap length h, length-append xs rest, length-drop i run)

  are : cut run i (i + 16) ≡ xs
  are =
      let n : i + 16 - i ≡ length xs = omega (arith, size) in
      ap (λ (k : ℕ). take k (drop i run)) n ∙ ap (take (length xs)) h ∙ take-append_seam xs rest

  others : drop (i + 16) run ≡ rest
  others =
      let n : i + 16 ≡ i + length xs = omega (arith, size) in
      ap (λ (k : ℕ). drop k run) n ∙ sym (drop-drop (length xs) i run) ∙ ap (drop (length xs)) h ∙ drop-append_seam xs rest

pub loop-sixteen-init : goal.loop-sixteen-init
loop-sixteen-init g c =
    let of = c.chunks_exact-sixteen-items in
    let made = c.into_iter-sixteen-iterator.ensures.into_iter_gives in (
      c.requires.callable,
      c.requires.within,
      rw made of.ensures.size,
      rw made (sym (of.ensures.rest ∙ cut_rest c.args.run.now c.args.at)),
      λ p says. passed_none p _ _ c.requires.within,
    )

pub loop-sixteen-preserved : goal.loop-sixteen-preserved
loop-sixteen-preserved g c =
    let turn = c.loop-sixteen in
    let inv = turn.invariant in
    let steps = c.in-Some.ensures.steps in
    let size : length c.in-Some.sixteen.now ≡ 16 = steps.1.1 ∙ inv.2 in
    let whole : drop turn.i c.args.run.now ≡ c.in-Some.sixteen.now ++ chunks_exact_rest c.next.new.self = inv.3 ∙ steps.1.0 in (
      inv.0,
      long _ _ _ turn.i whole size inv.1,
      steps.0 ∙ inv.2,
      others _ _ _ turn.i whole size inv.1,
      λ p says.
          passed_part p _ _ turn.i (turn.i + 16) (inv.4 p says) (omega arith) (long _ _ _ turn.i whole size inv.1)
          (ap (all p) (are _ _ _ turn.i whole size inv.1) ∙ sym (c.all.ensures p says) ∙ c.if-not-all.false),
    )

pub returns : goal.returns
returns g c p says =
    let rest = c.end.ensures p says in
    record { is = omega (arith, rest.is, (c.loop-sixteen.invariant.4 p says).same); within = rest.within }
