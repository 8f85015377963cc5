-- Answers for `setup::until`.
-- Assumes nothing.
use Rattle.std.proofs.Common.{◌+◌, ◌∙◌, sym, arith}
use Rattle.std.proofs.lemmas.Option.{cond_some}
use borrow.Author.Tests.{lt-ltb, le-ltb}
use Rattle.gate.specs.Setup.{chosen_of, lasting_part}
use Rattle.gate.proofs.Starting.{no_common}
use Rattle.gate.proofs.setup.until.Goals as goal

pub returns-in_default : goal.returns-in_default
unfolding lasting_part
returns-in_default c s m h e = simp (m, h, no_common _ _ c.in_default.ensures)

pub returns-in_default-checked_add : goal.returns-in_default-checked_add
unfolding lasting_part
returns-in_default-checked_add c s m h e =
    let common = cond_some _ _ _ (sym c.in-Some.ensures) in
    simp (m, h, e, common.0, lt-ltb 4294967295 (c.args.clock.0 + c.args.life) (omega (arith, c.in_default-checked_add.ensures)))

pub returns : goal.returns
unfolding lasting_part chosen_of
returns c s m h e =
    let common = cond_some _ _ _ (sym c.in-Some.ensures) in
    let until = c.in-Some-checked_add.ensures in
    record {
      none = simp (m, h, e, common.0, le-ltb 4294967295 (c.args.clock.0 + c.args.life) (omega (arith, until.0)));
      is = until.1;
      by = rw (m, h) (sym common.1);
    }
