-- How what the code finds of a request and of a setup's reply makes up the checks of a trial.
-- Assumes nothing.
use mathlib.Core.Path.{◌≡◌, refl, sym, ap, subst, ◌∙◌}
use mathlib.Core.Bool.{Bool, true, false, cond, not}
use mathlib.Core.List.{List, [], ◌++◌}
use Prim.Native.Nat.{ℕ}
use Rattle.cells.specs.Runs.{same}
use Rattle.armor.specs.Value.{carried}
use Rattle.armor.specs.declared.Reply.{Reply}
use Rattle.armor.specs.InnerAnswers.{HoldsReply}
use Rattle.cells.specs.InnerRun.{run_of}
use Rattle.std.specs.Prelude.{Result, ⊤}
use Rattle.orders.specs.Orders.{orders_of, orders_good, OrderedBy}
use Rattle.orders.specs.declared.Ordered.{Ordered}
use Rattle.gate.specs.declared.asked.Asked.{Asked}
use Rattle.gate.specs.InnerSizes.{Brings}
use Rattle.gate.specs.InnerTrials.{AgainstIs}
use Rattle.reply.specs.LaidOut.{laid_out}
use Rattle.stages.specs.declared.refusal.Refusal.{Refusal}
use Rattle.stages.specs.InnerRefusals.{number_of, number_in}
use Rattle.stages.specs.Request.{Request, request_of}
use Rattle.stages.specs.Checks.{first}
use Rattle.stages.specs.Parts.{fields_of, signature_of, code_under, reading_part}
use Rattle.stages.proofs.Checks.{passed_by, stopped_by}
use Rattle.stages.proofs.Parts.{reading_numbered}
use Rattle.gate.specs.Trial.{Trial, trial_of, granted, key_in, orders_in, request_in, trial_fits, reply_part, trial_checks, tried, same_token, grant_part}
use Rattle.gate.proofs.Numbers.{never_zero}

module _ (t : Trial) where
  abbrev q : Request
  q = request_of (orders_in t) 0 [] t.value t.method t.head t.aside t.path t.body []

  request_is : request_in t ≡ q
  unfolding request_in
  request_is = refl

  -- a request that breaks a rule of reading
  pub unread : (e : Refusal) → number_of e ≡ first (reading_part q) → number_of e ≡ first (reading_part (request_in t) ++ grant_part t)
  unread e told =
      subst (λ (p : Request). number_of e ≡ first (reading_part p ++ grant_part t)) (sym request_is)
      (told ∙ sym (stopped_by (reading_part q) (grant_part t) (reading_numbered q) (λ z. never_zero e (told ∙ z))))

  -- one that breaks none
  module _ (read : first (reading_part q) ≡ 0) where
    rest : first (reading_part (request_in t) ++ grant_part t) ≡ first (grant_part t)
    rest =
        passed_by (reading_part (request_in t)) (grant_part t) (reading_numbered (request_in t)) (ap (λ (p : Request). first (reading_part p)) request_is ∙ read)

    pub other_token : same_token (carried t.value) (granted t) ≡ false → 8 ≡ first (reading_part (request_in t) ++ grant_part t)
    unfolding grant_part fields_of
    other_token z = sym (rest ∙ rw request_is (simp z))

    pub same_token_lem : (key : List ℕ) (signed : Bool) → same_token (carried t.value) (granted t) ≡ true → key_in t ≡ key
        → signed ≡ same (signature_of q) (code_under key q) → cond (not signed) 11 0 ≡ first (reading_part (request_in t) ++ grant_part t)
    unfolding grant_part fields_of
    same_token_lem key signed z k told = sym (rest ∙ rw request_is (simp (z, k, ← told)))

  -- 1 and 23
  pub unsized : trial_fits t ≡ false → 1 ≡ tried t
  unfolding tried trial_checks reply_part
  unsized e = simp e

  module _ (fits : trial_fits t ≡ true) where
    pub not_laid_out : laid_out t.setup_reply ≡ false → 23 ≡ tried t
    unfolding tried trial_checks reply_part
    not_laid_out e = simp (fits, e)

    module _ (laid : laid_out t.setup_reply ≡ true) where
      pub bad_orders : orders_good (orders_in t) ≡ false → 23 ≡ tried t
      unfolding tried trial_checks reply_part
      bad_orders e = simp (fits, laid, e)

      pub held_against : orders_good (orders_in t) ≡ true → (n : ℕ) → n ≡ first (reading_part (request_in t) ++ grant_part t) → n ≡ tried t
      unfolding tried trial_checks reply_part
      held_against e n told = sym (simp (fits, laid, e) (sym told))

-- the orders that a reply tells
pub orders_told : (t : Trial) (r : Reply) → HoldsReply (carried t.setup_reply) r → orders_in t ≡ orders_of r.ah r.h (run_of r.eah) 0 0 0
unfolding orders_in granted
orders_told t r held = cc

-- what was found of a request as the sizes' check told it was found of the trial's
pub against_for : (t : Trial) (ordered : Ordered) (reply : Reply) (a : Asked) (r : Result ⊤ Refusal) → Brings t.value t.method t.head t.aside t.path t.body a
    → AgainstIs ordered reply a r → HoldsReply (carried t.setup_reply) reply → OrderedBy (orders_in t) ordered
    → number_in r ≡ first (reading_part (request_in t) ++ grant_part t)
against_for t ordered reply a r b told held =
    subst (λ (p : Trial). OrderedBy (orders_in p) ordered → number_in r ≡ first (reading_part (request_in p) ++ grant_part p)) same (told t.setup_reply held)
  where
    same : trial_of t.setup_reply a.value.now a.brought.method.now a.brought.lines.head.now a.brought.lines.aside.now a.brought.path.now a.brought.body.now ≡ t
    same = rw (b.value, b.method, b.head, b.aside, b.path, b.body)
