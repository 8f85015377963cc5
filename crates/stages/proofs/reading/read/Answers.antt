-- `reading::read` meets its contract.
-- Assumes nothing.
use Rattle.std.proofs.Common.{sym, ◌∙◌}
use Rattle.std.proofs.lemmas.Result.{err_from_is_err_and}
use Rattle.stages.proofs.Stages.{unread, good_fields, read_on}
use Rattle.stages.proofs.reading.read.Goals as goal

pub returns-in_err-request : goal.returns-in_err-request
returns-in_err-request c =
    let refusal = err_from_is_err_and c.from_residual.result c.from_residual.ensures.1 in
    rw refusal.1 (record {
      told = λ o by clock server_key path body reply. record { is = unread _ _ _ c.in_err-request.ensures refusal.2; read = tt };
      noted = tt;
    })

pub compare-requires : goal.compare-requires
compare-requires c =
    let told = c.in_ok-request.ensures in
    (good_fields _ told.is, told.holds, told.lies)

pub returns-in_err-compare : goal.returns-in_err-compare
returns-in_err-compare c =
    let refusal = err_from_is_err_and c.from_residual-in_err-compare.result c.from_residual-in_err-compare.ensures.1 in
    rw (refusal.1, refusal.2) (record {
      told = λ o by clock server_key path body reply. record {
        is = c.in_err-compare.ensures.told o by clock server_key path body reply ∙ sym (read_on _ c.in_ok-request.ensures.is);
        read = tt;
      };
      noted = tt;
    })

pub returns : goal.returns
returns c =
    let carries = c.in_ok-request.ensures in
    record {
      told = λ o by clock server_key path body reply. record {
        is = c.in_ok-compare.ensures.told o by clock server_key path body reply ∙ sym (read_on _ carries.is);
        read = record { holds = carries.holds; lies = carries.lies };
      };
      noted = c.in_ok-compare.ensures.noted;
    }
