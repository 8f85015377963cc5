-- A run that begins with a 0 has the length 0 or none; another's digits are gathered up to the colon.
use Rattle.std.proofs.Common.{[], ◌∷◌, ◌≡◌, ◌-◌, get_or, drop, None, Some, arith}
use Rattle.std.proofs.lemmas.Bool.Decides.{Decides-eqb}
use Rattle.std.proofs.lemmas.Slice.Eq.{starts_is, strip_prefix_is}
use Rattle.netstring.proofs.Scanned.{only_zero, zero_found, no_zero, read_no_digit, read_ended, read_more, read_too_large}
use Rattle.netstring.proofs.reading.length.Goals as goal
use Rattle.netstring.proofs.reading.length.Goals.{in_default-via-in-58+else-i-gt0, in_default-via-in_default+then-b-lt48, in_default-via-in_default+else-b-lt48+else-b-lt58}

pub returns-in_err-strip_prefix : goal.returns-in_err-strip_prefix
returns-in_err-strip_prefix c =
    let run = c.args.run.now in
    rw c.from_residual.ensures
    (only_zero run (drop 1 run) ((starts_is Decides-eqb run (48 ∷ []) _ c.starts_with.ensures.value).0 c.if-starts_with.true)
    (strip_prefix_is Decides-eqb run (48 ∷ 58 ∷ []) None c.in_err-strip_prefix.ensures.cases))

pub returns-then-starts_with : goal.returns-then-starts_with
returns-then-starts_with c =
    zero_found (strip_prefix_is Decides-eqb c.args.run.now (48 ∷ 58 ∷ []) (Some c.in_ok-strip_prefix.field-0) c.in_ok-strip_prefix.ensures.cases)

pub returns-in_default : goal.returns-in_default
returns-in_default c =
    let no = read_no_digit c.args.run.now c.loop-i.i c.loop-i.value c.loop-i.invariant in
    elim c.in_default.branch [
      | in_default-via-in-58+else-i-gt0 w ↦ no (λ o e. omega arith) (λ l h. omega arith)
      | in_default-via-in_default+then-b-lt48 w ↦ no (λ o e. omega arith) (λ l h. omega arith)
      | in_default-via-in_default+else-b-lt48+else-b-lt58 w ↦ no (λ o e. omega arith) (λ l h. omega arith)
    ]

pub returns-then-run-value : goal.returns-then-run-value
returns-then-run-value c =
    let run = c.args.run.now in
    let loop = c.loop-i in
    let zero = no_zero run _ (starts_is Decides-eqb run (48 ∷ []) _ c.starts_with.ensures.value).1 c.if-starts_with.false (omega arith) in
    read_too_large run loop.i loop.value loop.invariant (omega arith) (omega arith) (omega arith) zero (omega arith)

pub loop-i-preserved : goal.loop-i-preserved
loop-i-preserved c =
    let run = c.args.run.now in
    let loop = c.loop-i in
    let zero = no_zero run _ (starts_is Decides-eqb run (48 ∷ []) _ c.starts_with.ensures.value).1 c.if-starts_with.false (omega arith) in
    let digit : c.from.result ≡ get_or run loop.i 0 - 48 = omega (arith, c.from.ensures) in
    rw digit (read_more run loop.i loop.value loop.invariant (omega arith) (omega arith) (omega arith) zero)

pub returns : goal.returns
returns c = read_ended c.args.run.now c.loop-i.i c.loop-i.value c.loop-i.invariant (omega arith)
