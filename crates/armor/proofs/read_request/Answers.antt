-- `read_request` meets its contract.
-- Assumes nothing.
use Rattle.std.proofs.Common.{true, false, List, ℕ, Err, sym, ap, subst, ◌∙◌}
use Rattle.std.proofs.lemmas.Result.{err_from_is_err_and}
use Rattle.armor.specs.InnerAnswers.{Carries}
use Rattle.armor.specs.InnerScan.{Scanned}
use Rattle.armor.proofs.Requests.{error_is, ready, request_by, request_breaks}
use Rattle.armor.proofs.read_request.Goals as goal

pub returns-in_err-seen : goal.returns-in_err-seen
returns-in_err-seen c =
    let v = c.args.value.now in
    let p = err_from_is_err_and c.from_residual.result c.from_residual.ensures.1 in
    let err = p.1 ∙ ap Err (p.2 ∙ error_is _ _ _ c.in_err-seen.ensures.value c.in_err-seen.ensures.ok_part) in
    let broken = subst (Scanned v) c.in_err-seen.ensures.ok_part c.scan_value.ensures in
    rw err (request_breaks v broken)

pub returns-then-not-fields_good : goal.returns-then-not-fields_good
returns-then-not-fields_good c =
    let read = subst (Scanned c.args.value.now) c.in_ok-seen.ensures.ok_part c.scan_value.ensures in
    rw read.0 at (request_by _ false read.1.kept (sym c.fields_good.ensures ∙ c.if-not-fields_good.true))

pub request_of-requires : goal.request_of-requires
request_of-requires c =
    let read = subst (Scanned c.args.value.now) c.in_ok-seen.ensures.ok_part c.scan_value.ensures in
    ready read.1 (sym c.fields_good.ensures ∙ c.if-not-fields_good.false)

pub returns : goal.returns
returns c =
    let read = subst (Scanned c.args.value.now) c.in_ok-seen.ensures.ok_part c.scan_value.ensures in
    let q = c.request_of in
    subst (λ (v : List ℕ). Carries v q.new.fields q.result) read.0 (record {
      is = request_by _ true read.1.kept (sym c.fields_good.ensures ∙ c.if-not-fields_good.false);
      holds = q.ensures.0;
      lies = q.ensures.1;
    })
