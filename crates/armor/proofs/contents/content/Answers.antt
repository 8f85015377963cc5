-- `content` meets its contract: the text fits, so it is decoded.
-- Assumes nothing.
use Rattle.std.proofs.Common.{◌∙◌}
use Rattle.armor.proofs.Texts.{content_is}
use Rattle.armor.proofs.contents.content.Goals as goal

pub returns : goal.returns
returns c =
    let is = content_is c.args.text.now c.args.out.now c.decode.new.out c.decode.result c.decode.ensures c.requires in
    (c.unwrap_or.ensures ∙ is.0, is.1)
