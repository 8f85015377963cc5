-- The cipher text, and the tag of what was written.
-- Assumes nothing.
use Rattle.gcm.specs.Gcm.{crypted, sealed}
use Rattle.gcm.proofs.seal.Goals as goal

pub returns : goal.returns
unfolding crypted sealed
returns c =
    let key = c.args.key.now in
    let expands = c.expand-keys.ensures in
    let next = c.next.ensures in
    let first = c.pre_counter.ensures in
    let crypts = c.stream.ensures key expands in
    (simp (crypts, next, first), simp (c.tag_of.ensures key expands, crypts, next, first))
