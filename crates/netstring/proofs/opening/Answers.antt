use Rattle.std.proofs.Common.{rules, ◌<◌, ◌∙◌}
use Rattle.netstring.proofs.Laid.{opened}
use Rattle.netstring.proofs.opening.Goals as goal

pub returns : goal.returns
returns c =
    let few : c.len.result < 21 = search rules in
    c.of.ensures ∙ opened c.args.size c.len.result (search rules) (search rules) few
