-- The part is kept behind the line that is begun, if both fit.
-- Assumes nothing.
use Rattle.std.proofs.Common.{◌≡◌, ◌+◌, ◌<◌, length, refl, arith, rules}
use Rattle.logs.proofs.States.{took_kept, took_over}
use Rattle.logs.proofs.state.State.keep.Goals as goal
use Rattle.logs.proofs.state.State.keep.Goals.{else-self-le8192-via-then-self-le8192+else-part-self, else-self-le8192-via-else-self-le8192}

pub returns-then-part-self : goal.returns-then-part-self
returns-then-part-self c =
    let room : length c.args.self.now.begun ≡ 8192 = search rules in
    took_kept c.args.self.now _ c.args.part.now c.requires refl (omega arith) (omega arith) c.put_at-self.ensures

pub returns-else-self-le8192 : goal.returns-else-self-le8192
returns-else-self-le8192 c =
    let over : 8192 < c.args.self.now.size + length c.args.part.now = elim c.else-self-le8192.branch [
      | else-self-le8192-via-then-self-le8192+else-part-self w ↦ omega arith
      | else-self-le8192-via-else-self-le8192 w ↦ omega arith
    ] in
    took_over c.args.self.now _ c.args.part.now c.requires refl over refl
