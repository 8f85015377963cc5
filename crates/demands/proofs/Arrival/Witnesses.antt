-- What Arrival asks of two histories can be met: a session's requests in two orders, around another session's, each accepted.
-- Assumes nothing.
use mathlib.Core.Path.{◌≡◌, refl, sym, ◌∙◌}
use mathlib.Core.Bool.{false, true≢false}
use mathlib.Core.List.Permᴰ
use mathlib.Core.List.{List, [], ◌∷◌}
use lib.Dec.{lit<}
use Rattle.cells.specs.Runs.{same}
use Rattle.window.specs.Window.{bit, moved, marked, step_of}
use Rattle.table.specs.declared.session.Record.{Record}
use Rattle.demands.specs.History.{Call, judging, judging_one, after}
use Rattle.demands.specs.Struck.{bears, unstruck, session_in}
use Rattle.demands.specs.Arrival.{AllAccepted, Reordered}
use Rattle.demands.proofs.Shared.Answers.{next}
use Rattle.demands.proofs.Struck.Kept.{undisturbed}
use Rattle.demands.proofs.Struck.Steps.{ours, theirs, new, both_sessions, sent, turn_about, us, them, bears_own, one_decided, asks_one, at_first, we_ask}

-- two pictures of one page, with the nonces 1 and 3, and a request of another session
abbrev first_picture : Call
first_picture = judging (sent ours 1)

abbrev other_picture : Call
other_picture = judging (sent ours 3)

abbrev theirs_between : Call
theirs_between = judging_one 1 (sent theirs 1)

-- latest first
abbrev pub in_turn : List Call
in_turn = other_picture ∷ theirs_between ∷ first_picture ∷ []

abbrev pub out_of_turn : List Call
out_of_turn = first_picture ∷ other_picture ∷ theirs_between ∷ []

pub record Witnesses : Type 0 where
  pub reordered : Reordered ours in_turn out_of_turn
  pub accepted : AllAccepted ours both_sessions in_turn
  pub accepted_so : AllAccepted ours both_sessions out_of_turn
  pub session : session_in ours (after both_sessions in_turn).table ≡ next 3 (next 1 (new ours))

reorders : Reordered ours in_turn out_of_turn
unfolding unstruck same
reorders = record {
  own = rw (bears_own us 1 (lit< tt), bears_own us 3 (lit< tt), bears_own them 1 (lit< tt)) (Permᴰ.swap refl refl);
  others = rw (bears_own us 1 (lit< tt), bears_own us 3 (lit< tt), bears_own them 1 (lit< tt)) refl;
}

-- theirs is not ours, nor ours theirs
unowned : (bears ours theirs_between ≡ false) × (bears theirs first_picture ≡ false)
unfolding same
unowned = (rw (bears_own them 1 (lit< tt)) refl, rw (bears_own us 1 (lit< tt)) refl)

-- theirs with its first nonce
abbrev asked_once : Record
asked_once = next 1 (new theirs)

pub witnesses : Witnesses
unfolding after step_of bit moved marked
witnesses =
    let first = we_ask both_sessions (new ours) (new theirs) at_first.0 refl refl 1 (lit< tt) refl in
    let place = (undisturbed both_sessions at_first.0.ready theirs first_picture tt unowned.1).place ∙ at_first.1 in
    let between = one_decided them 1 (lit< tt) _ 1 place (new theirs) (next 1 (new ours)) (turn_about first.1) refl refl in
    let after_between = asks_one them 1 (lit< tt) _ 1 place (new theirs) (next 1 (new ours)) (turn_about first.1) between in
    let last = we_ask _ (next 1 (new ours)) asked_once (turn_about after_between) refl refl 3 (lit< tt) refl in
    let theirs_first = one_decided them 1 (lit< tt) both_sessions 1 at_first.1 (new theirs) (new ours) (turn_about at_first.0) refl refl in
    let after_theirs = asks_one them 1 (lit< tt) both_sessions 1 at_first.1 (new theirs) (new ours) (turn_about at_first.0) theirs_first in
    let higher = we_ask _ (new ours) asked_once (turn_about after_theirs) refl refl 3 (lit< tt) refl in
    let lower = we_ask _ (next 3 (new ours)) asked_once higher.1 refl refl 1 (lit< tt) refl in
    record {
      reordered = reorders;
      accepted = (λ b. (refl, last.0), (λ b. absurd (true≢false (sym b ∙ unowned.0)), (λ b. (refl, first.0), tt)));
      accepted_so = (λ b. (refl, lower.0), (λ b. (refl, higher.0), (λ b. absurd (true≢false (sym b ∙ unowned.0)), tt)));
      session = last.1.session;
    }
