-- What the code answers of a request that is held against a setup's reply.
-- Assumes nothing.
use Rattle.std.specs.Prelude.{◌≡◌, Bool, List, ◌++◌, ℕ, Result, ⊤}
use Rattle.armor.specs.declared.Reply.{Reply}
use Rattle.armor.specs.declared.Fields.{Fields}
use Rattle.armor.specs.Value.{Field, carried}
use Rattle.armor.specs.InnerAnswers.{Lies, HoldsReply}
use Rattle.orders.specs.Orders.{OrderedBy}
use Rattle.orders.specs.declared.Ordered.{Ordered}
use Rattle.stages.specs.declared.refusal.Refusal.{Refusal}
use Rattle.stages.specs.InnerRefusals.{number_in}
use Rattle.stages.specs.Checks.{first}
use Rattle.stages.specs.Parts.{reading_part}
use Rattle.gate.specs.declared.asked.Asked.{Asked}
use Rattle.gate.specs.Trial.{trial_of, orders_in, request_in, grant_part, same_token}

-- whether a request's token is the reply's, of any fields that they carry
abbrev pub SameTokenIs : Fields → Reply → Bool → Type 0
SameTokenIs fields reply r = (fs gs : List Field) → Lies fs fields → HoldsReply gs reply → r ≡ same_token fs gs

-- 4 to 8 and 11, of any reply that carries this and tells orders that say this
abbrev pub AgainstIs : Ordered → Reply → Asked → Result ⊤ Refusal → Type 0
AgainstIs ordered reply a r =
    (text : List ℕ)
    → let b = a.brought in
    let t = trial_of text a.value.now b.method.now b.lines.head.now b.lines.aside.now b.path.now b.body.now in
    HoldsReply (carried text) reply → OrderedBy (orders_in t) ordered → number_in r ≡ first (reading_part (request_in t) ++ grant_part t)
