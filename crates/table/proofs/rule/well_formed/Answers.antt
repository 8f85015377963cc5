use Rattle.std.proofs.Common.{rules, ◌+◌, arith, ◌∙◌, ℕ}
use Rattle.std.proofs.lemmas.Iterator.{YieldsList-from_range}
use Rattle.std.proofs.lemmas.Iterator.Search.{all_from_yields_List}
use borrow.Author.Tests.{tests}
use Rattle.table.proofs.Scan.{each_fits}
use Rattle.table.specs.Table.{places, record_at, records}
use Rattle.table.specs.WellFormed.{fitting}
use lib.ListN.{drop}
use Rattle.table.proofs.rule.well_formed.Goals as goal

pub returns : goal.returns
returns c =
    let t = c.args.table.now in
    all_from_yields_List (λ (k : ℕ). fitting (record_at t k) (drop (k + 1) (records t))) _ _ _ c.all.ensures.ran
    (YieldsList-from_range 0 (places t) (places t) (cc) (omega arith)) (λ x b q k. search (rules, tests))
    ∙ each_fits t 0 (places t) (omega arith)
