-- An IV is read only where a used record stands, which is within the table.
use Rattle.std.proofs.Common.{sym, ap₂, ◌∙◌, ◌+◌, ◌*◌, arith}
use lib.Dec.{ltb}
use lib.Seq.{take_all}
use Rattle.table.specs.Record.{size}
use Rattle.index.proofs.Keys.{iv_bytes, precedes_twelve, told_within}
use Rattle.index.proofs.order.is_low.Goals as goal

pub overflow_mul-place : goal.overflow_mul-place
overflow_mul-place c = omega (arith, told_within _ _ c.is_used.ensures c.if-is_used.true)

pub overflow_add-place : goal.overflow_add-place
overflow_add-place c = omega (arith, told_within _ _ c.is_used.ensures c.if-is_used.true)

pub key_at-requires : goal.key_at-requires
key_at-requires c = let inside = told_within _ _ c.is_used.ensures c.if-is_used.true in omega arith

pub returns-then-is_used : goal.returns-then-is_used
returns-then-is_used c =
    let table = c.args.table.now in
    let iv = c.args.iv.now in
    let inside = told_within _ _ c.is_used.ensures c.if-is_used.true in
    ap₂ ltb c.key_at.ensures c.key_at-then-is_used.ensures
    ∙ sym (precedes_twelve table iv (size * c.args.place + 1) 0 (λ i. (c.type_inv.table i).fits) c.fits-iv (omega arith) (omega arith))
    ∙ rw (← c.is_used.ensures, c.if-is_used.true, iv_bytes _ _ inside, take_all 12 iv (omega arith))
