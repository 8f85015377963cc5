-- Notes on the head, and then the code of the signed text.
-- Assumes nothing.
use Rattle.std.proofs.Common.{refl, sym, ap, ◌∙◌, arith, length}
use Rattle.names.specs.Covered.{covered_names}
use Rattle.scanner.specs.Requests.{client_code}
use Rattle.scanner.specs.Sign.{draft_good}
use Rattle.scanner.specs.InnerSteps.{session_at}
use Rattle.scanner.proofs.States.{extra_good}
use Rattle.scanner.proofs.Drafts.{noted_head, noted_are}
use Rattle.scanner.proofs.signing.code.Goals as goal
use Rattle.scanner.proofs.signing.code.Goals.{then-not-is_token-via-then-not-is_token, then-not-is_token-via-else-not-is_token+then-is_err}

pub invariant_of-covered : goal.invariant_of-covered
invariant_of-covered c = record { good = extra_good (session_at c.args.session.now) c.requires.0 }

pub returns-then-not-is_token : goal.returns-then-not-is_token
unfolding draft_good
returns-then-not-is_token c =
    let k = c.args.session.now in
    let noted = rw c.requires.2 at c.note-noted.ensures in
    let told = noted_head (covered_names k.mask k.extra.now) c.args.brought.now.lines.head.now c.note-noted.new.notes c.is_token.result c.note-noted.result noted in
    rw (← c.is_token.ensures, told)
    (elim c.then-not-is_token.branch [
      | then-not-is_token-via-then-not-is_token w ↦ rw w.if-not-is_token.true refl
      | then-not-is_token-via-else-not-is_token+then-is_err w ↦ rw (w.if-not-is_token.false, ← w.is_err.ensures.value, w.if-is_err.true) refl
    ])

pub code-requires-clause-key : goal.code-requires-clause-key
code-requires-clause-key c = omega (arith, ap length c.as_slice.ensures, c.args.session.now.key_size)

pub code-requires-clause-notes : goal.code-requires-clause-notes
code-requires-clause-notes c = noted_are _ c.note-noted.result c.note-noted.ensures (sym c.is_err.ensures.value ∙ c.if-is_err.false)

pub returns : goal.returns
unfolding client_code draft_good
returns c =
    let k = c.args.session.now in
    let noted = rw c.requires.2 at c.note-noted.ensures in
    let told = noted_head (covered_names k.mask k.extra.now) c.args.brought.now.lines.head.now c.note-noted.new.notes c.is_token.result c.note-noted.result noted in
    (rw (← c.is_token.ensures, told, c.if-not-is_token.false, ← c.is_err.ensures.value, c.if-is_err.false) refl, rw (c.as_slice.ensures, c.requires.2) at c.code.ensures)
