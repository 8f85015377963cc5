-- `decode` meets its contract: measured first, so that a buffer is written only where all fits in.
-- Assumes nothing.
use Rattle.std.proofs.Common.{◌∙◌, sym, ap, ap₂, List, ℕ, ◌++◌, drop, Ok, Err}
use Rattle.std.specs.Prelude.{Option, Result, ok_or}
use Rattle.std.proofs.lemmas.Bool.{le-leb, lt-leb}
use Rattle.std.proofs.lemmas.Result.{err_from_is_err_and}
use Rattle.cells.specs.Runs.{fronted}
use Rattle.base_64.specs.declared.Undecoded.{Undecoded}
use Rattle.base_64.specs.declared.Undecoded.TheVariants.{Bad}
use Rattle.base_64.specs.InnerAnswers.{outcome}
use Rattle.base_64.proofs.Exactly.{known}
use Rattle.base_64.proofs.Filling.{answered}
use Rattle.base_64.proofs.decode.Goals as goal

pub returns-in_err-n : goal.returns-in_err-n
returns-in_err-n c =
    let none = answered c.args.text.now c.args.out.now _ (sym c.in_err-n.ensures.ok_part ∙ c.size.ensures) in
    let p = err_from_is_err_and c.from_residual.result c.from_residual.ensures.1 in
    let bad = p.1 ∙ ap Err p.2 ∙ c.in_err-n.ensures.value ∙ ap (λ (n : Option ℕ). ok_or n Bad) c.in_err-n.ensures.ok_part in
    ap (λ (e : Result ℕ Undecoded). outcome e c.args.out.now) bad ∙ none

pub returns-then-out-n : goal.returns-then-out-n
returns-then-out-n c =
    simp (lt-leb _ _ c.if-out-n.true) at (answered c.args.text.now c.args.out.now _ (sym c.in_ok-n.ensures.ok_part ∙ c.size.ensures))

pub returns : goal.returns
unfolding fronted
returns c =
    let size = sym c.in_ok-n.ensures.ok_part ∙ c.size.ensures in
    let fits = le-leb c.in_ok-n.n _ c.if-out-n.false in
    ap (outcome (Ok c.in_ok-n.n))
    (ap₂ (λ (l : List ℕ) (n : ℕ). l ++ drop n c.args.out.now) c.fill.ensures (sym (known c.args.text.now c.in_ok-n.n (sym size)).2))
    ∙ simp fits at (answered c.args.text.now c.args.out.now _ size)
