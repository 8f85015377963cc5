-- From part to part, a line goes under the status where its parts lead, and under none where one is missing.
-- Assumes nothing.
use Rattle.std.proofs.Common.{None, ◌∙◌, drop}
use Rattle.logs.specs.InnerParts.{status_part}
use Rattle.logs.proofs.Statuses.{under_long, under_by, log_parts, ident_on, user_on, date_on, request_on, only_as}
use Rattle.logs.proofs.line.status.Goals as goal

pub returns-then-line-gt-LONGEST : goal.returns-then-line-gt-LONGEST
returns-then-line-gt-LONGEST c = under_long c.args.line.now c.if-line-gt-LONGEST.true

pub returns-in_err-ident : goal.returns-in_err-ident
returns-in_err-ident c =
    let l = c.args.line.now in
    let none = c.in_err-ident.ensures in
    rw c.from_residual.ensures (under_by l None c.if-line-gt-LONGEST.false (λ s a b. log_parts l s ∙ none (ident_on l s)))

pub returns-in_err-user : goal.returns-in_err-user
returns-in_err-user c =
    let l = c.args.line.now in
    let ident = c.in_ok-ident.ensures in
    let none = c.in_err-user.ensures in
    rw c.from_residual-in_err-user.ensures
    (under_by l None c.if-line-gt-LONGEST.false (λ s a b. log_parts l s ∙ ident.is (ident_on l s) ∙ none (user_on l s)))

pub returns-in_err-date : goal.returns-in_err-date
returns-in_err-date c =
    let l = c.args.line.now in
    let ident = c.in_ok-ident.ensures in
    let user = c.in_ok-user.ensures in
    let none = c.in_err-date.ensures in
    rw c.from_residual-in_err-date.ensures
    (under_by l None c.if-line-gt-LONGEST.false (λ s a b. log_parts l s ∙ ident.is (ident_on l s) ∙ user.is (user_on l s) ∙ none (date_on l s)))

pub returns-in_err-request : goal.returns-in_err-request
returns-in_err-request c =
    let l = c.args.line.now in
    let ident = c.in_ok-ident.ensures in
    let user = c.in_ok-user.ensures in
    let date = c.in_ok-date.ensures in
    let none = c.in_err-request.ensures in
    rw c.from_residual-in_err-request.ensures
    (under_by l None c.if-line-gt-LONGEST.false
    (λ s a b. log_parts l s ∙ ident.is (ident_on l s) ∙ user.is (user_on l s) ∙ date.is (date_on l s) ∙ none (request_on l s)))

pub returns-in_err-status : goal.returns-in_err-status
returns-in_err-status c =
    let l = c.args.line.now in
    let ident = c.in_ok-ident.ensures in
    let user = c.in_ok-user.ensures in
    let date = c.in_ok-date.ensures in
    let request = c.in_ok-request.ensures in
    let none = c.in_err-status.ensures in
    rw c.from_residual-in_err-status.ensures
    (under_by l None c.if-line-gt-LONGEST.false
    (λ s a b. log_parts l s ∙ ident.is (ident_on l s) ∙ user.is (user_on l s) ∙ date.is (date_on l s) ∙ request.is (request_on l s) ∙ none (status_part s)))

pub returns : goal.returns
returns c =
    let l = c.args.line.now in
    let ident = c.in_ok-ident.ensures in
    let user = c.in_ok-user.ensures in
    let date = c.in_ok-date.ensures in
    let request = c.in_ok-request.ensures in
    let status = c.in_ok-status.ensures in
    under_by l c.ending.result c.if-line-gt-LONGEST.false
    (only_as (λ s. status_part s (drop c.in_ok-status.status l)) _
    (λ s a b. log_parts l s ∙ ident.is (ident_on l s) ∙ user.is (user_on l s) ∙ date.is (date_on l s) ∙ request.is (request_on l s) ∙ status.is (status_part s))
    c.ending.result c.ending.ensures)
