-- A free record is sound if it is the freed one.
use Rattle.std.proofs.Common.{rules, ◌≡◌}
use Rattle.std.proofs.lemmas.Bool.Decides.{same_from_decides}
use Rattle.std.specs.Bool.{Decides}
use Rattle.table.specs.WellFormed.{sound}
use Rattle.table.proofs.Meaning.{free_decides}
use Rattle.table.proofs.rule.record_sound.Goals as goal

pub returns-then-session-eq0 : goal.returns-then-session-eq0
returns-then-session-eq0 c =
    let told : Decides c.eq.result (c.args.session ≡ c.freed.result) = search rules in
    same_from_decides _ _ (rw c.freed.ensures at told) (free_decides c.args.session c.if-session-eq0.true)

pub returns : goal.returns
unfolding sound
returns c = search rules
