-- `read_setup` meets its contract.
-- Assumes nothing.
use Rattle.std.proofs.Common.{◌&&◌, true, false, ℕ, eqb, Ok, Err, sym, ap, subst, ◌∙◌}
use Rattle.std.proofs.lemmas.Result.{err_from_is_err_and}
use Rattle.armor.specs.Numerals.{mask_of}
use Rattle.armor.specs.Value.{told}
use Rattle.armor.specs.InnerAnswers.{setup_answer}
use Rattle.armor.specs.InnerScan.{Scanned}
use Rattle.armor.proofs.Requests.{error_is, setup_by, setup_breaks, setup_fields_lem, client_there}
use Rattle.armor.proofs.read_setup.Goals as goal

pub returns-in_err-seen : goal.returns-in_err-seen
returns-in_err-seen c =
    let v = c.args.value.now in
    let p = err_from_is_err_and c.from_residual.result c.from_residual.ensures.1 in
    let err = p.1 ∙ ap Err (p.2 ∙ error_is _ _ _ c.in_err-seen.ensures.value c.in_err-seen.ensures.ok_part) in
    let broken = subst (Scanned v) c.in_err-seen.ensures.ok_part c.scan_value.ensures in
    err ∙ sym (setup_breaks v broken)

pub returns-then-not-alone : goal.returns-then-not-alone
returns-then-not-alone c =
    let read = subst (Scanned c.args.value.now) c.in_ok-seen.ensures.ok_part c.scan_value.ensures in
    let alone = ap (λ (n : ℕ). eqb c.in_ok-seen.seen.total 1 && eqb n 1) (sym c.count.ensures) ∙ c.if-not-alone.true in
    sym (rw read.0 at (setup_by _ false read.1.kept (setup_fields_lem _ read.1 ∙ alone)))

pub mask_in-requires : goal.mask_in-requires
mask_in-requires c =
    let read = subst (Scanned c.args.value.now) c.in_ok-seen.ensures.ok_part c.scan_value.ensures in
    let alone = ap (λ (n : ℕ). eqb c.in_ok-seen.seen.total 1 && eqb n 1) (sym c.count.ensures) ∙ c.if-not-alone.false in
    let there = client_there _ read.1 alone in
    rw c.text.ensures (there.1, there.2)

pub returns : goal.returns
returns c =
    let read = subst (Scanned c.args.value.now) c.in_ok-seen.ensures.ok_part c.scan_value.ensures in
    let alone = ap (λ (n : ℕ). eqb c.in_ok-seen.seen.total 1 && eqb n 1) (sym c.count.ensures) ∙ c.if-not-alone.false in
    let there = client_there _ read.1 alone in
    ap Ok (c.mask_in.ensures ∙ ap mask_of (ap told c.text.ensures ∙ there.0))
    ∙ sym (ap setup_answer (sym read.0) ∙ setup_by _ true read.1.kept (setup_fields_lem _ read.1 ∙ alone))
