-- Answers for `judge::judged`, one stage after the other.
-- Assumes nothing.
use Rattle.std.proofs.Common.{ℕ, ◌%◌, sym, ap, eqb}
use Rattle.std.proofs.lemmas.Result.{err_from_is_err_and}
use Rattle.stages.specs.Parts.{fields_of, iv_of, limits}
use Rattle.gate.specs.InnerSizes.{request_by}
use Rattle.stages.proofs.Stages.{read_under}
use Rattle.gate.proofs.Judging.{unread, unopened, stands}
use Rattle.gate.proofs.judge.judged.Goals as goal

pub returns-in_err-request : goal.returns-in_err-request
returns-in_err-request g c table finds o reply by =
    let a = c.args in
    let b = a.asked.now.brought in
    let refusal = err_from_is_err_and c.from_residual.result c.from_residual.ensures.1 in
    let read = c.in_err-request.ensures.told o (read_under by) a.clock.0 a.server_key.now b.path.now b.body.now reply in
    rw (refusal.1, refusal.2) (unread _ table _ (sym read.is))

pub returns-in_err-token : goal.returns-in_err-token
returns-in_err-token g c table finds o reply by =
    let a = c.args in
    let b = a.asked.now.brought in
    let refusal = err_from_is_err_and c.from_residual-in_err-token.result c.from_residual-in_err-token.ensures.1 in
    let read = c.in_ok-request.ensures.told o (read_under by) a.clock.0 a.server_key.now b.path.now b.body.now reply in
    let opens = c.in_err-token.ensures o a.clock.0 a.asked.now.value.now b.method.now b.lines.head.now b.lines.aside.now b.path.now b.body.now reply read.read.lies in
    rw (refusal.1, refusal.2) (unopened _ table _ (sym read.is) (sym opens.is))

pub vouch-vouched-requires : goal.vouch-vouched-requires
vouch-vouched-requires g c = c.in_ok-request.ensures.noted

pub returns : goal.returns
unfolding fields_of iv_of limits
returns g c table finds o reply by =
    let a = c.args in
    let b = a.asked.now.brought in
    let read = c.in_ok-request.ensures.told o (read_under by) a.clock.0 a.server_key.now b.path.now b.body.now reply in
    let opens = c.in_ok-token.ensures o a.clock.0 a.asked.now.value.now b.method.now b.lines.head.now b.lines.aside.now b.path.now b.body.now reply read.read.lies in
    let vouched = c.vouch-vouched.ensures o by.covered a.server_key.now a.asked.now.value.now reply read.read.holds read.read.lies opens in
    let session =
    stands (request_by o a.clock.0 a.server_key.now a.asked.now reply) table c.read.new.fields.iv c.find-session.result read.read.lies.vector
    (finds _ _ c.find-session.ensures)
    in (
      sym read.is,
      c.settle.ensures.settled o a.server_key.now a.asked.now.value.now b.method.now b.lines.head.now b.lines.aside.now b.path.now b.body.now reply table
          read.read.holds vouched opens.holds by.limits (ap (λ (m : ℕ). eqb (m % 2) 1) by.covered.mask) session,
    )
