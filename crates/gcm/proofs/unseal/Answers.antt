-- A wrong tag leaves everything as it was, and the right one gives the text.
-- Assumes nothing.
use Rattle.std.proofs.Common.{◌≡◌, true, false, [], sym, ap, ◌∙◌}
use Rattle.cells.specs.Runs.{same}
use Rattle.gcm.specs.Gcm.{crypted, tag_of, opened}
use Rattle.gcm.proofs.unseal.Goals as goal

pub returns-then-not-same : goal.returns-then-not-same
unfolding opened
returns-then-not-same c =
    let key = c.args.key.now in
    let tag = c.args.tag.now in
    let right = c.tag_of.ensures key c.expand-keys.ensures in
    let wrong : same tag (tag_of key c.args.iv.now [] c.args.cipher.now) ≡ false = sym (c.same.ensures ∙ ap (same tag) right) ∙ c.if-not-same.true in
    (rw wrong, rw wrong)

pub returns : goal.returns
unfolding crypted opened
returns c =
    let key = c.args.key.now in
    let tag = c.args.tag.now in
    let expands = c.expand-keys.ensures in
    let right = c.tag_of.ensures key expands in
    let found : same tag (tag_of key c.args.iv.now [] c.args.cipher.now) ≡ true = sym (c.same.ensures ∙ ap (same tag) right) ∙ c.if-not-same.false in
    (rw found, rw found (simp (c.stream.ensures key expands, c.next.ensures, c.pre_counter.ensures)))
