use Rattle.std.proofs.Common.{rules, ◌≡◌, refl, sym, ◌∙◌, arith}
use borrow.Author.Tests.{eqb-true}
use Rattle.lines.specs.InnerNotes.{marked_in}
use Rattle.lines.proofs.Named.{good_at, good_there}
use Rattle.lines.proofs.Marks.{noting_start, noting_next, noting_end}
use Rattle.lines.proofs.noting.note_block.Goals as goal
use Rattle.lines.proofs.noting.note_block.Goals.{in-Some-number, in_default-number}

pub loop-line-init : goal.loop-line-init
loop-line-init c = (omega arith, search rules, refl, λ ns on apart i h. noting_start {i = i} (omega (arith, on.few)))

pub loop-line-preserved : goal.loop-line-preserved
loop-line-preserved c =
    let whole = c.in-Some.ensures in
    let loop = c.loop-line in
    let notes : c.match-number.notes ≡ marked_in loop.notes c.number.result loop.at =
    elim c.match-number.branch [
      | in-Some-number w ↦ rw (w.notes-is, w.marked.ensures, w.in-Some-number.is)
      | in_default-number w ↦ rw (w.notes-is, w.in_default-number.is)
    ] in (
      whole.within,
      search rules,
      loop.invariant.2 ∙ good_at _ _ _ _ whole,
      λ ns on apart i h. rw notes
          (noting_next ns c.number.result loop.notes whole (omega arith) apart (omega (arith, on.few)) (c.number.ensures ns on) h (loop.invariant.3 ns on apart i h)),
    )

pub returns : goal.returns
returns c =
    let loop = c.loop-line in
    let there = good_there _ _ loop.invariant.0 c.in_default.ensures in
    record {
      size = loop.invariant.1;
      taken = (
        sym (loop.invariant.2 ∙ there),
        λ ns on apart t i h. noting_end (omega (arith, eqb-true _ _ t)) (loop.invariant.3 ns on apart i h),
      );
    }
