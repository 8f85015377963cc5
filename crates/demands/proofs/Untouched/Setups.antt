-- What a setup does, by its number.
-- Assumes nothing.
use mathlib.Core.Path.{◌≡◌, refl, subst}
use mathlib.Core.Bool.{Bool, true, false, cond}
use mathlib.Core.List.{[], Memᴰ}
use Prim.Native.Nat.{ℕ, ◌≤◌, ◌<◌, ◌^◌}
use native.Mathlib.Omega.{arith}
use borrow.Author.Tests.{eqb-true, eqb-false}
use lib.Dec.{eqb}
use lib.ListN.{length}
use Rattle.hashes.specs.Hashes.{hash_mask}
use Rattle.gcm.specs.Gcm.{sealed}
use Rattle.gcm.proofs.Opening.{length_crypted, length_tag}
use Rattle.names.proofs.Sizes.{short_extra}
use Rattle.orders.proofs.Orders.{good_extra_lem}
use Rattle.token.specs.Token.{token_text, sealed_token}
use Rattle.token.proofs.Text.{Sized, length_text}
use Rattle.reply.proofs.Lengths.{setup_short}
use Rattle.table.specs.Record.{begun}
use Rattle.table.specs.Table.{records}
use Rattle.table.specs.WellFormed.{WellFormed}
use Rattle.table.proofs.Meaning.{well_formed_is}
use Rattle.table.proofs.Sessions.{begun_fits}
use Rattle.gate.specs.Calls.{Setup}
use Rattle.gate.specs.State.{State, indexed, untouched, replied}
use Rattle.stages.specs.Checks.{first}
use Rattle.gate.specs.Entry.{state_checks, entry_checks}
use Rattle.gate.specs.Setup as S
use Rattle.gate.specs.Setup.{expiry_of, offer_part, lasting_part, room_part, setup_checks, reply_of, setup_outcome, set_up}
use Rattle.demands.specs.Order.{Exactly}
use Rattle.demands.proofs.Shared.Order.{first_among, first_exactly}
use Rattle.gate.proofs.Numbers.{setup_numbered}
use Rattle.gate.proofs.Starting.{Lent, lent, opened}
use Rattle.demands.proofs.Shared.Stored.{replaced, taken_within}
use Rattle.demands.proofs.Shared.Answers.{begun_table, fronted_replied}
use Rattle.demands.proofs.Shared.Indexes.{begun_right}
use Rattle.demands.proofs.Shared.Passed.{Takes, setup_takes}
use Rattle.demands.specs.Effects.{setup_numbers, Begun, SetupEffects}

begins : (s : Setup) (state : State) → Takes s state → WellFormed (records state.table) → Begun s state (setup_outcome 0 s state)
begins s state t w = record {
  place = t.place;
  lowest = t.takes;
  session =
      rw (begun_table s state.table t.place t.takes)
      (replaced state.table t.place (begun s.iv (expiry_of s) (hash_mask (S.chosen_of s))) (taken_within state.table s.clock t.place t.takes) (begun_fits s.iv (expiry_of s) (S.chosen_of s) t.long t.small));
  index = begun_right s state t w;
  reply = fronted_replied 0 (reply_of s) s.reply (indexed (S.with_session s state.table));
}

setup_by : (s : Setup) (state : State) (n : ℕ) → Memᴰ n setup_numbers → Exactly (setup_checks s state) n → (n ≡ 0 → Takes s state × WellFormed (records state.table))
    → SetupEffects s state (setup_outcome n s state)
setup_by s state n m x takes = by (eqb n 0) refl
  where
    by : (t : Bool) → eqb n 0 ≡ t
        → SetupEffects s state (cond t (replied 0 (reply_of s) s.reply (indexed (S.with_session s state.table))) (untouched n s.reply state))
    by true e =
        let z = eqb-true n 0 e in
        record {
          listed = Memᴰ.head refl;
          in_order = subst (Exactly (setup_checks s state)) z x;
          refused = λ h. absurd (omega arith);
          passed = λ o. begins s state (takes z).0 (takes z).1;
        }
    by false e = record {
      listed = m;
      in_order = x;
      refused = λ h. record { long = refl; reply = refl; state = refl };
      passed = λ o. absurd (eqb-false n 0 e o);
    }

pub setup_effects : (s : Setup) (state : State) → SetupEffects s state (set_up s state)
unfolding set_up setup_checks S.entry_part offer_part lasting_part room_part entry_checks state_checks
setup_effects s state =
    setup_by s state (first (setup_checks s state)) (first_among (setup_checks s state)) (first_exactly (setup_checks s state) (setup_numbered s state))
    (λ e. (setup_takes s state e, well_formed_is (records state.table) (opened s state e).formed))

pub token_sized : (s : Setup) (state : State) → Lent s state → expiry_of s < 2 ^ 32 → Sized (S.new_token s).key (S.new_token s).id (S.new_token s).expiry
unfolding S.new_token
token_sized s state size small = record { key_size = size.session_key; id_some = size.session_id_some; id_fits = size.session_id_fits; in_range = small }

-- the reply is short
reply_within : (s : Setup) (state : State) → first (setup_checks s state) ≡ 0 → length (reply_of s) ≤ 459
unfolding reply_of S.sealed_of sealed_token sealed
reply_within s state e =
    let entered = opened s state e in
    let size = lent s state entered.sizes in
    let text = length_text (S.new_token s) (token_sized s state size (setup_takes s state e).small) in
    setup_short _ s.iv _ s.session_key _ _ _
    (omega (arith, length_crypted s.server_key s.iv (token_text (S.new_token s)), text.1))
    size.iv (length_tag s.server_key s.iv [] _) size.session_key (short_extra _ (good_extra_lem _ entered.orders))

pub setup_length : (s : Setup) (state : State) → (set_up s state).length ≤ 459
unfolding set_up
setup_length s state = by (eqb (first (setup_checks s state)) 0) refl
  where
    by : (t : Bool) → eqb (first (setup_checks s state)) 0 ≡ t
        → (cond t (replied 0 (reply_of s) s.reply (indexed (S.with_session s state.table))) (untouched (first (setup_checks s state)) s.reply state)).length ≤ 459
    by true e = reply_within s state (eqb-true _ 0 e)
    by false e = omega arith
