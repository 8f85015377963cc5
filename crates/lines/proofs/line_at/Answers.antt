-- Where a test fails no good line stands, and where both hold one does.
use Rattle.std.proofs.Common.{sym, ◌∙◌}
use mathlib.Core.Bool.{true≢false}
use Rattle.lines.proofs.Places.{whole, named_there, ended_there}
use Rattle.lines.proofs.line_at.Goals as goal

pub returns-then-not-at-colon : goal.returns-then-not-at-colon
returns-then-not-at-colon c = λ l rest g h.
    true≢false (sym (named_there _ _ l rest g h _ c.token_end-colon.ensures) ∙ (rw c.byte_at.ensures at c.if-not-at-colon.true))

pub returns-then-not-byte_at : goal.returns-then-not-byte_at
returns-then-not-byte_at c = λ l rest g h.
    true≢false
    (sym (ended_there _ _ l rest g h _ c.token_end-colon.ensures _ c.value_end-end.ensures)
    ∙ (rw (c.byte_at-2.ensures, c.byte_at-3.ensures) at c.if-not-byte_at.true))

pub returns : goal.returns
returns c =
    whole _ _ _ _ c.token_end-colon.ensures (rw c.byte_at.ensures at c.if-not-at-colon.false) c.value_end-end.ensures
    (rw (c.byte_at-2.ensures, c.byte_at-3.ensures) at c.if-not-byte_at.false)
