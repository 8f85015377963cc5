-- Of a table whose records are sound, the entries tell the rest.
use Rattle.std.proofs.Common.{◌≡◌, ap, ap₂, ◌∙◌, ℕ, ◌+◌, ◌-◌, ◌*◌, ◌/◌, ◌≤◌, List, length, take, drop, arith}
use Rattle.std.specs.Prelude.{◌&&◌, Some}
use Rattle.table.specs.Table.{places, records}
use Rattle.table.proofs.Records.{length_records}
use lib.Dec.{eqb}
use Rattle.index.specs.Index.{vacant}
use Rattle.index.specs.InnerEntries.{rises_at, vacant_at, every, used_to, TallyIs}
use Rattle.index.proofs.Ranked.{used_most}
use Rattle.index.proofs.Fitting.{every_alike, entry_behind, rises_front, fits_exactly, unsound}
use Rattle.index.proofs.rule.fits.Goals as goal

few : (table : List ℕ) (count : ℕ) → TallyIs (records table) (Some count) → count ≤ places table
few table count told = omega (arith, told.1, used_most (records table) (length (records table)), length_records table)

pub returns-in_default : goal.returns-in_default
returns-in_default c = unsound _ _ c.in_default.ensures

pub overflow_mul-count : goal.overflow_mul-count
overflow_mul-count c = omega (arith, few _ _ c.in-Some.ensures, c.requires)

pub split_at-requires : goal.split_at-requires
split_at-requires c = omega (arith, few _ _ c.in-Some.ensures, c.requires)

pub returns : goal.returns
returns c =
    let table = c.args.table.now in
    let index = c.args.index.now in
    let rs = records table in
    let long = length_records table in
    let count = c.in-Some.count in
    let counted = c.in-Some.ensures.1 in
    let m = used_to rs (length rs) in
    let cut = c.split_at.ensures in
    let half : length c.split_at.result.0.now / 2 ≡ count = omega (arith, cut.front_len) in
    let rest : length c.split_at.result.1.now / 2 ≡ length rs - m = omega (arith, cut.back_len, c.requires.1) in
    ap₂ ◌&&◌
    (c.climb.ensures ∙ ap₂ (λ (l : List ℕ) (n : ℕ). every (rises_at rs l) n) cut.front half
    ∙ every_alike (rises_at rs (take (2 * count) index)) (rises_at rs index) count (λ k l. rises_front rs index count k l)
    ∙ ap (every (rises_at rs index)) counted)
    (c.are_vacant.ensures ∙ ap₂ (λ (l : List ℕ) (n : ℕ). every (vacant_at l) n) cut.back rest
    ∙ every_alike (vacant_at (drop (2 * count) index)) (λ k. vacant_at index (count + k)) (length rs - m)
    (λ k l. ap (λ (n : ℕ). eqb n vacant) (entry_behind index count k))
    ∙ ap (λ (c : ℕ). every (λ k. vacant_at index (c + k)) (length rs - m)) counted)
    ∙ fits_exactly rs index (omega (arith, c.requires)) (λ i. (c.type_inv.index i).fits) (omega (arith, c.requires)) c.in-Some.ensures.0
