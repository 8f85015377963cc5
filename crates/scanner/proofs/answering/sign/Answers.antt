-- No session, no nonce left, a part that no gate would take, or a value and the session after it.
-- Assumes nothing.
use Rattle.std.proofs.Common.{◌≡◌, refl, sym, ap, ◌∙◌, arith, List, ℕ, ◌≤◌, Some}
use mathlib.Core.Path.{ap₂, subst}
use Rattle.std.proofs.lemmas.Result.{err_from_is_err_and}
use Rattle.scanner.specs.State.{Session, state_of, session_in, good_session}
use Rattle.scanner.specs.Sign.{Draft, draft_of, draft_good, value_in, message_in}
use Rattle.scanner.specs.InnerSteps.{session_at, draft_in, AfterIs, Signs, PutsValue}
use Rattle.scanner.proofs.States.{tells}
use Rattle.scanner.proofs.Drafts.{fitting}
use Rattle.scanner.proofs.Steps.{refused, sign_none, sign_last, sign_unfit, sign_bad, sign_done}
use Rattle.scanner.proofs.answering.sign.Goals as goal

pub returns-in_err-session-clause-is : goal.returns-in_err-session-clause-is
returns-in_err-session-clause-is c =
    let refusal = err_from_is_err_and c.from_residual.result c.from_residual.ensures.1 in
    let none = c.in_err-session.ensures.ok_part in
    rw (refusal.1, refusal.2, refused c.read.result _ _ none c.in_err-session.ensures.value)
    (sign_none (draft_of c.args.clock c.args.method.now c.args.head.now c.args.path.now c.args.body.now) c.args.state.now c.args.out.now (rw none at c.read.ensures))

pub returns-then-session-gt-LAST_NONCE-clause-is : goal.returns-then-session-gt-LAST_NONCE-clause-is
returns-then-session-gt-LAST_NONCE-clause-is c =
    let reads = rw c.in_ok-session.ensures.ok_part at c.read.ensures in
    sign_last (draft_of c.args.clock c.args.method.now c.args.head.now c.args.path.now c.args.body.now) c.args.state.now c.args.out.now reads.0
    (omega (arith, ap (λ (k : Session). k.next) reads.1, c.if-session-gt-LAST_NONCE.true))

-- the next nonce, where one is left
left : (state : List ℕ) (k : Session) → k ≡ session_in state → k.next ≤ 4294967295 → (session_in state).next ≤ 4294967295
left state k e h = omega (arith, ap (λ (l : Session). l.next) e, h)

pub returns-in_err-brought-clause-is : goal.returns-in_err-brought-clause-is
returns-in_err-brought-clause-is c =
    let reads = rw c.in_ok-session.ensures.ok_part at c.read.ensures in
    let refusal = err_from_is_err_and c.from_residual-in_err-brought.result c.from_residual-in_err-brought.ensures.1 in
    let none = c.in_err-brought.ensures.ok_part in
    rw (refusal.1, refusal.2, refused c.brought.result _ _ none c.in_err-brought.ensures.value)
    (sign_unfit (draft_of c.args.clock c.args.method.now c.args.head.now c.args.path.now c.args.body.now) c.args.state.now c.args.out.now reads.0
    (left c.args.state.now (session_at c.in_ok-session.session) reads.1 c.if-session-gt-LAST_NONCE.false) ((rw none at c.brought.ensures) c.args.clock))

pub code-requires : goal.code-requires
code-requires c =
    let reads = rw c.in_ok-session.ensures.ok_part at c.read.ensures in
    let brings = (rw c.in_ok-brought.ensures.ok_part at c.brought.ensures) c.args.clock in
    (ap good_session reads.1 ∙ (tells c.args.state.now reads.0).good, c.if-session-gt-LAST_NONCE.false, brings.2)

pub returns-in_err-code-clause-is : goal.returns-in_err-code-clause-is
returns-in_err-code-clause-is c =
    let reads = rw c.in_ok-session.ensures.ok_part at c.read.ensures in
    let brings = (rw c.in_ok-brought.ensures.ok_part at c.brought.ensures) c.args.clock in
    let refusal = err_from_is_err_and c.from_residual-in_err-code.result c.from_residual-in_err-code.ensures.1 in
    let none = c.in_err-code.ensures.ok_part in
    let bad = rw none at c.code.ensures in
    rw (refusal.1, refusal.2, refused c.code.result _ _ none c.in_err-code.ensures.value)
    (sign_bad (draft_of c.args.clock c.args.method.now c.args.head.now c.args.path.now c.args.body.now) c.args.state.now c.args.out.now reads.0
    (left c.args.state.now (session_at c.in_ok-session.session) reads.1 c.if-session-gt-LAST_NONCE.false) brings.0
    (ap₂ (λ (d : Draft) (k : Session). draft_good d k.grant) (sym brings.1) (sym reads.1) ∙ bad))

pub put-size-requires : goal.put-size-requires
put-size-requires c =
    let brings = (rw c.in_ok-brought.ensures.ok_part at c.brought.ensures) c.args.clock in
    (c.if-session-gt-LAST_NONCE.false, (fitting _ _ brings.0).room)

pub returns-clause-is : goal.returns-clause-is
unfolding value_in
returns-clause-is c =
    let reads = rw c.in_ok-session.ensures.ok_part at c.read.ensures in
    let brings = (rw c.in_ok-brought.ensures.ok_part at c.brought.ensures) c.args.clock in
    let signs : Signs (draft_in c.args.clock c.in_ok-brought.brought) (session_at c.in_ok-session.session) (Some c.in_ok-code.code) =
    rw c.in_ok-code.ensures.ok_part at c.code.ensures in
    let draft = (draft_of c.args.clock c.args.method.now c.args.head.now c.args.path.now c.args.body.now) in
    let made =
    subst (λ (d : Draft). Signs d (session_in c.args.state.now) (Some c.in_ok-code.code)) brings.1
    (subst (λ (k : Session). Signs (draft_in c.args.clock c.in_ok-brought.brought) k (Some c.in_ok-code.code)) reads.1 signs) in
    let put = subst (λ (k : Session). PutsValue k c.args.clock c.in_ok-code.code c.args.out.now c.put-size.new.out c.put-size.result) reads.1 c.put-size.ensures.0 in
    let after = subst (λ (k : Session). AfterIs k c.args.clock c.after-next.result) reads.1 c.after-next.ensures in
    sign_done draft c.args.state.now c.args.out.now reads.0
    (left c.args.state.now (session_at c.in_ok-session.session) reads.1 c.if-session-gt-LAST_NONCE.false) brings.0 made.0
    (put (message_in (session_in c.args.state.now) draft) refl refl refl (sym made.1)) (c.advance.ensures ∙ ap state_of after)
