-- Answers for `trying::against`, one stage after the other.
-- Assumes nothing.
use Rattle.std.proofs.Common.{[], true, false, sym, ap, ◌∙◌}
use Rattle.std.proofs.lemmas.Result.{err_from_is_err_and}
use Rattle.gate.specs.Trial.{trial_of, granted, key_in, orders_in}
use Rattle.stages.specs.Parts.{fields_of}
use Rattle.stages.proofs.Stages.{read_under}
use Rattle.gate.proofs.Trials.{unread, other_token, same_token_lem}
use Rattle.gate.proofs.trying.against.Goals as goal

pub returns-in_err-request : goal.returns-in_err-request
returns-in_err-request c text held by =
    let a = c.args.asked.now in
    let b = a.brought in
    let t = trial_of text a.value.now b.method.now b.lines.head.now b.lines.aside.now b.path.now b.body.now in
    let refusal = err_from_is_err_and c.from_residual.result c.from_residual.ensures.1 in
    let read = c.in_err-request.ensures.told (orders_in t) (read_under by) 0 [] b.path.now b.body.now [] in
    rw (refusal.1, refusal.2) (unread t _ read.is)

pub returns-then-not-same_token : goal.returns-then-not-same_token
unfolding granted
returns-then-not-same_token c text held by =
    let a = c.args.asked.now in
    let b = a.brought in
    let t = trial_of text a.value.now b.method.now b.lines.head.now b.lines.aside.now b.path.now b.body.now in
    let read = c.in_ok-request.ensures.told (orders_in t) (read_under by) 0 [] b.path.now b.body.now [] in
    other_token t (sym read.is) (sym (c.same_token.ensures _ _ read.read.lies held) ∙ c.if-not-same_token.true)

pub signs-requires : goal.signs-requires
signs-requires c = c.in_ok-request.ensures.noted

pub returns-then-not-signs : goal.returns-then-not-signs
unfolding granted key_in fields_of
returns-then-not-signs c text held by =
    let a = c.args.asked.now in
    let b = a.brought in
    let t = trial_of text a.value.now b.method.now b.lines.head.now b.lines.aside.now b.path.now b.body.now in
    let read = c.in_ok-request.ensures.told (orders_in t) (read_under by) 0 [] b.path.now b.body.now [] in
    same_token_lem t (sym read.is) _ false (sym (c.same_token.ensures _ _ read.read.lies held) ∙ c.if-not-same_token.false) (sym held.key)
    (sym c.if-not-signs.true ∙ c.signs.ensures (orders_in t) by.covered 0 [] a.value.now [] read.read.holds read.read.lies)

pub returns : goal.returns
unfolding granted key_in fields_of
returns c text held by =
    let a = c.args.asked.now in
    let b = a.brought in
    let t = trial_of text a.value.now b.method.now b.lines.head.now b.lines.aside.now b.path.now b.body.now in
    let read = c.in_ok-request.ensures.told (orders_in t) (read_under by) 0 [] b.path.now b.body.now [] in
    same_token_lem t (sym read.is) _ true (sym (c.same_token.ensures _ _ read.read.lies held) ∙ c.if-not-same_token.false) (sym held.key)
    (sym c.if-not-signs.false ∙ c.signs.ensures (orders_in t) by.covered 0 [] a.value.now [] read.read.holds read.read.lies)
