-- `admitting::admit` meets its contract, one test after the other.
-- Assumes nothing.
use Rattle.std.proofs.Common.{◌≡◌, ℕ, true, refl}
use Rattle.std.proofs.lemmas.Bool.{eq-eqb}
use borrow.Author.Tests.{ne_eqb}
use lib.Dec.{eqb}
use Rattle.stages.proofs.Stages.{turned_away, let_through, stored}
use Rattle.stages.proofs.admitting.admit.Goals as goal

same : (n : ℕ) → eqb n n ≡ true
same n = eq-eqb n n refl

pub returns-in_default : goal.returns-in_default
returns-in_default c q table s a = turned_away q table _ _ _ _ a _ s _ (simp c.in_default.is)

pub returns-then-from-mask : goal.returns-then-from-mask
returns-then-from-mask c q table s a =
    turned_away q table _ _ _ _ a _ s _
    (simp (c.in-Some.is, ← c.from.ensures, ← c.named-hash.ensures, ← c.mask.ensures, ne_eqb c.from.result c.mask.result c.if-from-mask.true))

pub returns-then-idle : goal.returns-then-idle
returns-then-idle c q table s a =
    turned_away q table _ _ _ _ a _ s _ (simp (c.in-Some.is, ← c.from.ensures, ← c.named-hash.ensures, ← c.mask.ensures, c.if-from-mask.false, same, ← c.idle.ensures, c.if-idle.true))

pub returns-then-too_old : goal.returns-then-too_old
returns-then-too_old c q table s a =
    turned_away q table _ _ _ _ a _ s _ (simp (c.in-Some.is, ← c.from.ensures, ← c.named-hash.ensures, ← c.mask.ensures, c.if-from-mask.false, same, ← c.idle.ensures, c.if-idle.false, ← c.too_old.ensures, c.if-too_old.true))

pub returns-then-too_far_ahead : goal.returns-then-too_far_ahead
returns-then-too_far_ahead c q table s a =
    turned_away q table _ _ _ _ a _ s _ (simp (c.in-Some.is, ← c.from.ensures, ← c.named-hash.ensures, ← c.mask.ensures, c.if-from-mask.false, same, ← c.idle.ensures, c.if-idle.false, ← c.too_old.ensures, c.if-too_old.false, ← c.too_far_ahead.ensures, c.if-too_far_ahead.true))

pub returns-then-not-nonces : goal.returns-then-not-nonces
returns-then-not-nonces c q table s a =
    let_through q table _ _ _ _ a _ s (simp (c.in-Some.is, ← c.from.ensures, ← c.named-hash.ensures, ← c.mask.ensures, c.if-from-mask.false, same, ← c.idle.ensures, c.if-idle.false, ← c.too_old.ensures, c.if-too_old.false, ← c.too_far_ahead.ensures, c.if-too_far_ahead.false, c.if-not-nonces.true)) c.if-not-nonces.true

pub returns-in-Accepted : goal.returns-in-Accepted
returns-in-Accepted c q table s a =
    stored q table _ _ _ _ a _ s _ c.in-Some.is (simp (c.in-Some.is, ← c.from.ensures, ← c.named-hash.ensures, ← c.mask.ensures, c.if-from-mask.false, same, ← c.idle.ensures, c.if-idle.false, ← c.too_old.ensures, c.if-too_old.false, ← c.too_far_ahead.ensures, c.if-too_far_ahead.false, c.if-not-nonces.false, ← c.window.ensures, ← c.step-stepped.ensures, c.in-Accepted.is)) c.if-not-nonces.false _ c.window.ensures _ c.step-stepped.ensures _ c.with_window.ensures

pub returns-in-TooOld : goal.returns-in-TooOld
returns-in-TooOld c q table s a = turned_away q table _ _ _ _ a _ s _ (simp (c.in-Some.is, ← c.from.ensures, ← c.named-hash.ensures, ← c.mask.ensures, c.if-from-mask.false, same, ← c.idle.ensures, c.if-idle.false, ← c.too_old.ensures, c.if-too_old.false, ← c.too_far_ahead.ensures, c.if-too_far_ahead.false, c.if-not-nonces.false, ← c.window.ensures, ← c.step-stepped.ensures, c.in-TooOld.is))

pub returns-in-Seen : goal.returns-in-Seen
returns-in-Seen c q table s a = turned_away q table _ _ _ _ a _ s _ (simp (c.in-Some.is, ← c.from.ensures, ← c.named-hash.ensures, ← c.mask.ensures, c.if-from-mask.false, same, ← c.idle.ensures, c.if-idle.false, ← c.too_old.ensures, c.if-too_old.false, ← c.too_far_ahead.ensures, c.if-too_far_ahead.false, c.if-not-nonces.false, ← c.window.ensures, ← c.step-stepped.ensures, c.in-Seen.is))
