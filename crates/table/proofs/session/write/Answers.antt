use Rattle.std.proofs.Common.{◌≡◌, length, rules}
use Rattle.table.proofs.Records.{written}
use Rattle.table.proofs.session.write.Goals as goal

pub returns : goal.returns
returns c =
    let a = c.args in
    let iv : length a.session.iv ≡ 12 = search rules in
    written a.session a.out.now c.requires iv c.put_byte.ensures c.put_at.ensures.is c.put32.ensures c.put_byte-2.ensures
    c.put32-2.ensures c.put64.ensures c.put_byte-3.ensures
