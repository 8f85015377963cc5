-- A record with the IV stands at the IV's rank, so there is none where the entry there names another.
use Rattle.std.proofs.Common.{sym, ap, ◌∙◌, arith}
use borrow.Author.Tests.{le-ltb}
use mathlib.Core.Bool.{true≢false}
use Rattle.table.specs.Table.{holds}
use Rattle.table.proofs.Records.{length_records, records_at}
use Rattle.index.proofs.Held.{indexed_holds, holds_long}
use Rattle.index.proofs.Finding.{missing, answered}
use Rattle.index.proofs.lookup.find.Goals as goal
use Rattle.index.proofs.lookup.find.Goals.{then-place-n, else-place-n}

pub rank-at-requires : goal.rank-at-requires
rank-at-requires c = record { ps = _; holds = indexed_holds c.requires }

pub returns-then-n-at : goal.returns-then-n-at
returns-then-n-at c = record {
  is = sym (missing c.requires _ c.rank-at.ensures (λ l m e. absurd (omega (arith, c.if-n-at.true, length_records c.args.table.now))));
  within = tt;
}

pub read-place-requires : goal.read-place-requires
read-place-requires c =
    omega (arith, c.if-n-at.false, holds_long (indexed_holds c.requires), length_records c.args.table.now)

pub returns : goal.returns
returns c =
    let long = length_records c.args.table.now in
    let answer = answered c.requires c.args.iv.now c.rank-at.ensures c.read-place.result c.if-place-n.then_some c.read-place.ensures in
    rw c.then_some.ensures (elim c.if-place-n.branch [
      | then-place-n w ↦
          let here = ap (holds c.args.iv.now) (records_at c.args.table.now _ w.if-place-n.true) ∙ sym w.has_iv.ensures ∙ sym w.then_some-is in
          answer (λ e. (omega (arith, w.if-place-n.true), here ∙ e)) (λ e l h. true≢false (sym h ∙ here ∙ e))
      | else-place-n w ↦ answer (λ e. absurd (true≢false (sym e ∙ w.then_some-is ∙ le-ltb _ _ w.if-place-n.false))) (λ e l h. omega (arith, w.if-place-n.false))
    ])
