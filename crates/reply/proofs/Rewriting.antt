-- What a setup would write of what was read from a reply.
-- Assumes nothing.
use mathlib.Core.Path.{◌≡◌}
use mathlib.Core.List.{List}
use Rattle.armor.specs.declared.Reply.{Reply}
use Rattle.armor.specs.Value.{Field}
use Rattle.armor.specs.InnerAnswers.{HoldsReply}
use Rattle.reply.specs.InnerWritten.{reply_text}
use Rattle.reply.specs.LaidOut.{reply_with}

pub written_with : (fs : List Field) (r : Reply) → HoldsReply fs r → reply_text r ≡ reply_with fs
unfolding reply_with
written_with fs r held = cc
