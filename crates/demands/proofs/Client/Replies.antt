-- A reply that some setup writes is read back; what a setup that is done writes is one, and its token opens.
-- Assumes nothing.
use mathlib.Core.Path.{◌≡◌, refl, ap, ◌∙◌}
use mathlib.Core.List.{List, []}
use mathlib.Core.Option.{some}
use Prim.Native.Nat.{ℕ}
use native.Mathlib.Omega.{arith}
use Rattle.cells.specs.Runs.{same}
use Rattle.cells.specs.Spans.{all}
use Rattle.cells.specs.Text.{codes}
use Rattle.hashes.proofs.Hashes.{chosen_common}
use Rattle.gcm.specs.Gcm.{sealed}
use Rattle.gcm.proofs.Opening.{length_crypted, length_tag}
use Rattle.gcm.proofs.SealedBytes.{bytes_crypted, bytes_tag}
use Rattle.armor.specs.Keys.{keys, rank_of, key_number, rule_at, rule_of, obeys}
use Rattle.armor.specs.Value.{field, grammar}
use Rattle.names.proofs.Sizes.{short_extra}
use Rattle.orders.proofs.Orders.{good_mask, good_extra_lem}
use Rattle.token.specs.Token.{token_text, sealed_token, opened_token}
use Rattle.token.proofs.Text.{length_text, bytes_text}
use Rattle.token.proofs.Exactly.{fits_so, opened_token_lem}
use Rattle.reply.specs.Replies.{reply_fields, setup_reply}
use Rattle.stages.specs.Checks.{first}
use Rattle.gate.specs.Calls.{Setup}
use Rattle.gate.specs.State.{State}
use Rattle.gate.specs.Setup.{offered, chosen_of, setup_checks, new_token, sealed_of, reply_of}
use Rattle.gate.proofs.Starting.{lent, opened}
use Rattle.demands.specs.Client.{LentBytes}
use Rattle.demands.specs.Trial.{SetupReply}
use Rattle.demands.proofs.Shared.Passed.{setup_takes}
use Rattle.demands.proofs.Untouched.Setups.{token_sized}
use Rattle.demands.proofs.Client.Fields.{plain, Good, AllGood, read_back, sized_good, exact_good, orders_good_lem}

-- its fields keep their keys' rules
pub reply_good : (text : List ℕ) (r : SetupReply text)
    → AllGood (reply_fields r.s r.iv r.tag r.key r.hash r.orders.numbers.mask r.orders.extra)
unfolding reply_fields plain codes all rule_of rule_at key_number rank_of keys same obeys
reply_good text r =
    let key_good : Good (field (codes "kh") r.key) =
    record { named = refl; held = omega (arith, r.key_fits); short = omega (arith, r.key_fits); of_bytes = r.of_bytes.3; keeps = refl } in
    let short = short_extra r.orders.extra (good_extra_lem r.orders r.good) in (
      sized_good (codes "s") r.s 1 118 refl refl (omega arith) (omega arith) r.s_some r.s_fits r.of_bytes.0,
      (
        exact_good (codes "iv") r.iv 12 refl refl (omega arith) (omega arith) r.iv_fits r.of_bytes.1,
        (
          exact_good (codes "tag") r.tag 16 refl refl (omega arith) (omega arith) r.tag_fits r.of_bytes.2,
          (key_good, orders_good_lem r.hash r.orders.numbers.mask r.orders.extra (good_mask r.orders r.good) short r.of_bytes.4),
        ),
      ),
    )

pub text_read : (text : List ℕ) (r : SetupReply text)
    → grammar text ≡ some (reply_fields r.s r.iv r.tag r.key r.hash r.orders.numbers.mask r.orders.extra)
unfolding setup_reply reply_fields
text_read text r = ap grammar r.is ∙ read_back _ _ (reply_good text r)

-- what a setup that is done writes
unfoldable pub setup_writes : (s : Setup) (state : State) → first (setup_checks s state) ≡ 0 → LentBytes s → (text : List ℕ) → text ≡ reply_of s → SetupReply text
unfolding reply_of sealed_of new_token sealed_token sealed chosen_of
setup_writes s state done lent_bytes text wrote =
    let entered = opened s state done in
    let size = lent s state entered.sizes in
    let takes = setup_takes s state done in
    let sealed_text = length_text (new_token s) (token_sized s state size takes.small) in
    let long = length_crypted s.server_key s.iv (token_text (new_token s)) in
    record {
      s = (sealed_of s).cipher;
      iv = s.iv;
      tag = (sealed_of s).tag;
      key = s.session_key;
      hash = chosen_of s;
      orders = s.orders;
      is = wrote;
      good = entered.orders;
      allowed = (chosen_common (offered s) s.orders.numbers.hashes takes.common).1;
      s_some = omega (arith, long, sealed_text.0);
      s_fits = omega (arith, long, sealed_text.1);
      iv_fits = size.iv;
      tag_fits = length_tag s.server_key s.iv [] (sealed_of s).cipher;
      key_fits = size.session_key;
      of_bytes = (
        bytes_crypted s.server_key s.iv (token_text (new_token s)) lent_bytes.server_key
            (bytes_text (new_token s) lent_bytes.session_key lent_bytes.session_id),
        lent_bytes.iv,
        bytes_tag s.server_key s.iv [] (sealed_of s).cipher lent_bytes.server_key,
        lent_bytes.session_key,
        lent_bytes.extra,
      );
    }

-- and its token opens
pub setup_opens : (s : Setup) (state : State) → first (setup_checks s state) ≡ 0
    → opened_token s.server_key s.iv (sealed_of s).cipher (sealed_of s).tag ≡ some (new_token s)
unfolding sealed_of
setup_opens s state done =
    let size = lent s state (opened s state done).sizes in
    opened_token_lem s.server_key s.iv (new_token s) (fits_so (new_token s) (token_sized s state size (setup_takes s state done).small))
