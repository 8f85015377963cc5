-- `invalidate` meets its contract: one field at the front, which holds the code.
-- Assumes nothing.
use Rattle.std.proofs.Common.{◌≡◌, List, ℕ, take, ap, subst, ◌∙◌, zero-add}
use Rattle.cells.specs.InnerLaid.{Laid}
use Rattle.cells.proofs.Runs.{spliced_front}
use Rattle.cells.specs.Text.{codes}
use Rattle.hmac.specs.Hmac.{hmac_of}
use Rattle.armor.specs.Value.{field, field_text}
use Rattle.reply.specs.Replies.{invalidation}
use Rattle.reply.proofs.invalidate.Goals as goal

pub returns : goal.returns
unfolding invalidation codes
returns c =
    let a = c.args in
    let finish = c.finish-code in
    let code : take c.size.result finish.result ≡ hmac_of a.hash a.key.now (codes "Session Expired") =
    ap (λ (n : ℕ). take n finish.result) c.size.ensures
    ∙ finish.ensures a.hash _ (c.absorb.ensures.appended a.hash _ c.begin-state.ensures.1)
    in
    let put = c.put_field in
    let laid = subst (λ (l : List ℕ). Laid a.out.now put.new.out 0 put.result (field_text (field (codes "i") l))) code put.ensures.1 in
    (laid.ends ∙ zero-add _, laid.is ∙ spliced_front a.out.now _)
