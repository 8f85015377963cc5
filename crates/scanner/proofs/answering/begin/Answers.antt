-- A state of another size, a reply that is too long, one that no setup writes, or a new session.
-- Assumes nothing.
use Rattle.std.proofs.Common.{◌≡◌, refl, ap, ◌∙◌, List, ℕ}
use Rattle.cells.specs.InnerRun.{run_of}
use Rattle.hashes.specs.Hashes.{named}
use Rattle.armor.specs.declared.Reply.{Reply}
use Rattle.armor.specs.Value.{Field, carried}
use Rattle.armor.specs.InnerAnswers.{HoldsReply}
use Rattle.orders.specs.Orders.{orders_of}
use Rattle.reply.specs.LaidOut.{orders_told, is_reply}
use Rattle.scanner.specs.State.{state_of}
use Rattle.scanner.specs.Begin.{grant_in, begun_with}
use Rattle.scanner.specs.InnerSteps.{session_of}
use Rattle.scanner.proofs.Steps.{begin_size, begin_long, begin_other, begin_done}
use Rattle.scanner.proofs.answering.begin.Goals as goal

pub returns-then-state-ne-SIZE : goal.returns-then-state-ne-SIZE
returns-then-state-ne-SIZE c = begin_size _ _ _ c.if-state-ne-SIZE.true

pub returns-then-setup_reply-gt-MOST_REPLY : goal.returns-then-setup_reply-gt-MOST_REPLY
returns-then-setup_reply-gt-MOST_REPLY c = begin_long _ _ _ c.if-state-ne-SIZE.false c.if-setup_reply-gt-MOST_REPLY.true

orders_are : (fs : List Field) (r : Reply) (extra : List ℕ) → HoldsReply fs r → extra ≡ run_of r.eah → orders_of r.ah r.h extra 0 0 0 ≡ orders_told fs
unfolding orders_told
orders_are fs r extra h e = rw (e, h.extra, h.coverage, h.hash) refl

pub returns-in_default : goal.returns-in_default
unfolding is_reply
returns-in_default c =
    let bad = rw c.in_default.is at c.read-brought.ensures in
    begin_other c.args.time c.args.setup_reply.now c.args.state.now c.if-state-ne-SIZE.false c.if-setup_reply-gt-MOST_REPLY.false (rw bad refl)

pub returns-then-not-are_good : goal.returns-then-not-are_good
unfolding is_reply
returns-then-not-are_good c =
    let held = rw c.in-Some.is at c.read-brought.ensures in
    begin_other c.args.time c.args.setup_reply.now c.args.state.now c.if-state-ne-SIZE.false c.if-setup_reply-gt-MOST_REPLY.false
    (rw (held.0, ← (orders_are _ _ _ held.1 c.as_slice.ensures), ← c.are_good.ensures, c.if-not-are_good.true) refl)

-- the session that a reply begins
session_is : (text : List ℕ) (r : Reply) (time : ℕ) → HoldsReply (carried text) r
    → session_of time 0 r.ah (named r.h) r.iv r.tag r.key (run_of r.s) (run_of r.eah) ≡ begun_with time text
unfolding begun_with grant_in
session_is text r time h = rw (h.coverage, h.hash, h.vector, h.tag, h.key, h.token, h.extra) refl

pub returns : goal.returns
unfolding is_reply
returns c =
    let held = rw c.in-Some.is at c.read-brought.ensures in
    begin_done c.args.time c.args.setup_reply.now c.args.state.now c.if-state-ne-SIZE.false c.if-setup_reply-gt-MOST_REPLY.false
    (rw (held.0, ← (orders_are _ _ _ held.1 c.as_slice.ensures), ← c.are_good.ensures, c.if-not-are_good.false) refl)
    (c.write.ensures ∙ ap state_of (c.begun.ensures ∙ session_is c.args.setup_reply.now c.in-Some.reply c.args.time held.1))
