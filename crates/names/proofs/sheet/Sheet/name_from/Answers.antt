use Rattle.std.proofs.Common.{sym, ◌∙◌}
use Rattle.names.proofs.Starts.{known_named, extra_named}
use Rattle.names.proofs.sheet.Sheet.name_from.Goals as goal

pub returns-then-start-lt1024 : goal.returns-then-start-lt1024
returns-then-start-lt1024 c = c.name_at.ensures ∙ sym (known_named _ _ _ c.if-start-lt1024.true)

pub returns : goal.returns
returns c = c.name_at-2.ensures ∙ sym (extra_named _ _ _ c.if-start-lt1024.false c.requires)
