-- `settling::settle` meets its contract.
-- Assumes nothing.
use Rattle.std.proofs.Common.{rules, refl, sym}
use Rattle.std.proofs.lemmas.Result.{MatchResult-weaker}
use Rattle.stages.specs.Request.{request_of}
use Rattle.stages.specs.Parts.{fields_of, nonce_of, time_of, last_time_of}
use Rattle.stages.specs.InnerStages.{Asks}
use Rattle.stages.proofs.Stages.{read_hash, settled}
use Rattle.stages.proofs.settling.settle.Goals as goal

pub returns-clause-settled : goal.returns-clause-settled
unfolding nonce_of time_of last_time_of fields_of
returns-clause-settled c o server_key value method head aside path body reply table h is about l nonces s =
    let a = c.args in
    let q = request_of o a.clock.0 server_key value method head aside path body reply in
    let asks : Asks q a.clock.0 a.request.now a.limits.now a.nonces =
    record { clock = refl; t = sym h.time; lt = sym h.last_time; within = sym l; hash = read_hash q h refl; nonces = sym nonces; n = sym h.nonce }
    in
    settled q table a.session s _ (search rules) _ about _ (read_hash q h c.named.ensures) _ is _
    (MatchResult-weaker a.vouched c.and_then.ensures (λ v admitted. search rules) (λ r e. e))
