-- An entry that names a used record is compared with the one before it.
use Rattle.std.proofs.Common.{arith, sym, ◌∙◌, ◌≡◌, ◌<◌, ◌+◌, ◌-◌, ◌/◌, ap, ap₂, true, List, [], ℕ, length, get_or}
use borrow.Author.Tests.{lt-ltb, le-ltb}
use lib.Dec.{ltb}
use Rattle.std.specs.Simd.{first_chunks}
use Rattle.cells.specs.Runs.{Bytes}
use Rattle.table.specs.Table.{records}
use Rattle.table.proofs.Records.{length_records}
use Rattle.index.specs.InnerEntries.{entry_at, used_at, rises_at, every}
use Rattle.index.proofs.Keys.{iv_of, lower_number, told_within, used_within}
use Rattle.index.proofs.Held.{used_told}
use Rattle.index.proofs.Finding.{chunk_entry}
use Rattle.index.proofs.Fitting.{every_at, every_none, every_more, every_not, risen_used, rises_unused, rises_later, rises_at_lem}
use Rattle.index.proofs.rule.climb.Goals as goal
use Rattle.index.proofs.rule.climb.Goals.{else-k-gt0-via-then-k-gt0+else-last-next, else-k-gt0-via-else-k-gt0}

-- the chunks of two bytes are the entries
chunked : (run : List ℕ) (chunks : List (List ℕ)) (k : ℕ) → chunks ≡ first_chunks 2 (length run / 2) run → k < length run / 2
    → entry_at (get_or chunks k []) 0 ≡ entry_at run k
chunked run chunks k f l = rw f (chunk_entry run (length run / 2) k [] l)

-- what the two numbers tell of an entry behind the first
compared : (table index : List ℕ) (k : ℕ) → Bytes table → every (rises_at (records table) index) k ≡ true
    → used_at (records table) (entry_at index k) ≡ true → 0 < k
    → rises_at (records table) index k ≡ ltb (iv_of table index (k - 1)) (iv_of table index k)
compared table index k bytes rises named o =
    let before : k - 1 < k = omega arith in
    let last_used = risen_used (records table) index (k - 1) (every_at _ k rises (k - 1) before) in
    rises_later (records table) index k named o
    ∙ lower_number table (entry_at index (k - 1)) (entry_at index k) bytes (omega (arith, last_used.0, length_records table))
    (used_within table _ named)

pub loop-k-init : goal.loop-k-init
loop-k-init c = (every_none _, λ o. absurd (omega arith))

pub returns-then-not-is_used : goal.returns-then-not-is_used
returns-then-not-is_used c =
    let inside : c.loop-k.k < length c.args.entries.now / 2 = omega (arith, c.loop-k-test.true, c.as_chunks.ensures.front_len) in
    let is : c.place_of-place.result ≡ entry_at c.args.entries.now c.loop-k.k =
    c.place_of-place.ensures ∙ chunked c.args.entries.now c.as_chunks.result.0.now c.loop-k.k c.as_chunks.ensures.front inside in
    sym (every_not _ _ _ inside
    (rises_unused (records c.args.table.now) c.args.entries.now _ (rw is at (sym c.is_used.ensures ∙ c.if-not-is_used.true))))

pub overflow_mul-place : goal.overflow_mul-place
overflow_mul-place c = let inside = told_within _ _ c.is_used.ensures c.if-not-is_used.false in omega (arith, inside)

pub overflow_add-place : goal.overflow_add-place
overflow_add-place c = let inside = told_within _ _ c.is_used.ensures c.if-not-is_used.false in omega (arith, inside)

pub key_at-next-requires : goal.key_at-next-requires
key_at-next-requires c = let inside = told_within _ _ c.is_used.ensures c.if-not-is_used.false in omega arith

pub returns-then-last-next : goal.returns-then-last-next
returns-then-last-next c =
    let inside : c.loop-k.k < length c.args.entries.now / 2 = omega (arith, c.loop-k-test.true, c.as_chunks.ensures.front_len) in
    let is : c.place_of-place.result ≡ entry_at c.args.entries.now c.loop-k.k =
    c.place_of-place.ensures ∙ chunked c.args.entries.now c.as_chunks.result.0.now c.loop-k.k c.as_chunks.ensures.front inside in
    let loop = c.loop-k in
    let named = rw is at (sym c.is_used.ensures ∙ c.if-not-is_used.false) in
    sym (every_not _ _ _ inside
    (compared c.args.table.now c.args.entries.now loop.k (λ i. (c.type_inv.table i).fits) loop.invariant.0 named c.if-k-gt0.true
    ∙ ap₂ ltb (sym (loop.invariant.1 c.if-k-gt0.true)) (sym (rw is at c.key_at-next.ensures)) ∙ le-ltb _ _ c.if-last-next.true))

pub loop-k-preserved : goal.loop-k-preserved
loop-k-preserved c =
    let inside : c.loop-k.k < length c.args.entries.now / 2 = omega (arith, c.loop-k-test.true, c.as_chunks.ensures.front_len) in
    let is : c.place_of-place.result ≡ entry_at c.args.entries.now c.loop-k.k =
    c.place_of-place.ensures ∙ chunked c.args.entries.now c.as_chunks.result.0.now c.loop-k.k c.as_chunks.ensures.front inside in
    let table = c.args.table.now in
    let index = c.args.entries.now in
    let loop = c.loop-k in
    let named = rw is at (sym c.is_used.ensures ∙ c.if-not-is_used.false) in
    let keyed = rw is at c.key_at-next.ensures in
    let same : loop.k ≡ loop.k + 1 - 1 = omega arith in (
      every_more _ _ loop.invariant.0 (elim c.else-k-gt0.branch [
        | else-k-gt0-via-then-k-gt0+else-last-next w ↦
            compared table index loop.k (λ i. (c.type_inv.table i).fits) loop.invariant.0 named w.if-k-gt0.true
            ∙ ap₂ ltb (sym (loop.invariant.1 w.if-k-gt0.true)) (sym keyed) ∙ lt-ltb _ _ w.if-last-next.false
        | else-k-gt0-via-else-k-gt0 w ↦
            rises_at_lem (records table) index loop.k (used_told (records table) _ named) (λ o. absurd (omega (arith, w.if-k-gt0.false)))
      ]),
      λ o. keyed ∙ ap (iv_of table index) same,
    )
