-- `reply_times_good` meets its contract.
-- Assumes nothing.
use Rattle.armor.specs.Fields.{reply_times}
use Rattle.armor.proofs.contents.reply_times_good.Goals as goal

pub returns : goal.returns
unfolding reply_times
returns c =
    simp (
      c.count.ensures,
      c.count-2.ensures,
      c.count-3.ensures,
      c.count-4.ensures,
      c.count-5.ensures,
      c.count-6.ensures,
      c.count-7.ensures,
      c.count-8.ensures,
      c.count-9.ensures,
      c.count-10.ensures,
      c.count-11.ensures,
      c.count-12.ensures,
    )
