-- Answers for `one::sound`.
-- Assumes nothing.
use Rattle.std.proofs.Common.{rules, sym}
use Rattle.table.specs.Record.{Fits}
use Rattle.table.proofs.One.{one_rule}
use Rattle.gate.proofs.Numbers.{state_indexed}
use Rattle.gate.proofs.one.sound.Goals as goal

pub returns-then-record_sound : goal.returns-then-record_sound
returns-then-record_sound c =
    let fits : Fits c.args.«record» = search rules in
    simp (state_indexed, one_rule _ fits, ← c.record_sound.ensures, c.if-record_sound.true)

pub returns-else-record_sound : goal.returns-else-record_sound
returns-else-record_sound c =
    let fits : Fits c.args.«record» = search rules in
    simp (state_indexed, one_rule _ fits, ← c.record_sound.ensures, c.if-record_sound.false)
