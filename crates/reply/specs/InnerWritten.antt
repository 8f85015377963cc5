-- The reply of a setup, by what it carries.
-- Assumes nothing.
use Rattle.std.specs.Prelude.{List, ℕ}
use Rattle.cells.specs.InnerRun.{run_of}
use Rattle.hashes.specs.Hashes.{named}
use Rattle.armor.specs.declared.Reply.{Reply}
use Rattle.reply.specs.Replies.{setup_reply}

abbrev pub reply_text : Reply → List ℕ
reply_text r = setup_reply (run_of r.s) r.iv r.tag r.key (named r.h) r.ah (run_of r.eah)
