-- What reading a setup's reply comes to.
-- Assumes nothing.
use Rattle.std.specs.Prelude.{◌≡◌, true, false, List, ℕ, Option, Some, None}
use Rattle.armor.specs.declared.Reply.{Reply}
use Rattle.armor.specs.Value.{carried}
use Rattle.armor.specs.InnerAnswers.{HoldsReply}
use Rattle.reply.specs.LaidOut.{laid_out}

abbrev pub ReadsLaidOut : List ℕ → Option Reply → Type 0
ReadsLaidOut text None = laid_out text ≡ false
ReadsLaidOut text (Some r) = (laid_out text ≡ true) × HoldsReply (carried text) r
