-- `reply_good` meets its contract: sizes are looked at only where each key stands as often as it should.
-- Assumes nothing.
use Rattle.std.proofs.Common.{length, sym, ap, ◌∙◌, lit<}
use Rattle.armor.specs.Keys.{key_eah, other_key}
use Rattle.armor.specs.Fields.{reply_holds}
use Rattle.armor.proofs.Noting.{told_of}
use Rattle.armor.proofs.Replies.{reply_times_lem, reply_single}
use Rattle.armor.proofs.contents.reply_good.Goals as goal

pub returns-then-not-reply_times_good : goal.returns-then-not-reply_times_good
unfolding reply_holds
returns-then-not-reply_times_good c =
    simp (sym (reply_times_lem c.args.seen.now c.requires) ∙ sym c.reply_times_good.ensures ∙ c.if-not-reply_times_good.true)

pub returns : goal.returns
unfolding reply_holds
returns c =
    let right = sym c.reply_times_good.ensures ∙ c.if-not-reply_times_good.false in
    let single = reply_single c.args.seen.now c.requires right in
    let key = c.size.ensures ∙ ap length (told_of single other_key (lit< tt) c.text.ensures) in
    let extra = c.size-2.ensures ∙ ap length (told_of single key_eah (lit< tt) c.text-2.ensures) in
    simp (key, extra, sym (reply_times_lem c.args.seen.now c.requires) ∙ right)
