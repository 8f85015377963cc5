-- The chunks of two bytes are the entries.
use Rattle.std.proofs.Common.{◌/◌, List, ℕ, length, ap, ◌∙◌, rules}
use Rattle.std.proofs.lemmas.Iterator.{YieldsList-from_slice}
use Rattle.std.proofs.lemmas.Iterator.Search.{all_from_yields_List}
use borrow.Author.Tests.{tests}
use lib.Dec.{eqb}
use Rattle.index.specs.Index.{vacant}
use Rattle.index.specs.InnerEntries.{entry_at, vacant_at}
use Rattle.index.proofs.Finding.{chunk_entry}
use Rattle.index.proofs.Fitting.{every_list}
use Rattle.index.proofs.rule.are_vacant.Goals as goal

pub returns : goal.returns
returns c =
    let run = c.args.entries.now in
    let n = length run / 2 in
    let chunks = c.as_chunks.result.0.now in
    all_from_yields_List (λ (e : List ℕ). eqb (entry_at e 0) vacant) _ _ _ c.all.ensures.ran (YieldsList-from_slice chunks (cc)) (λ x b q k. search (rules, tests))
    ∙ every_list (λ (e : List ℕ). eqb (entry_at e 0) vacant) (vacant_at run) chunks n c.as_chunks.ensures.front_len
    (λ k d l. rw c.as_chunks.ensures.front (ap (λ (e : ℕ). eqb e vacant) (chunk_entry run n k d l)))
