-- A scanner's request that arrives as signed is the request of a client's fair message.
-- Assumes nothing.
use mathlib.Core.Path.{◌≡◌, refl, ap, ◌∙◌}
use mathlib.Core.Bool.{◌&&◌}
use mathlib.Core.List.{List}
use Prim.Native.Nat.{ℕ, ◌<◌, ◌^◌}
use native.Mathlib.Omega.{arith}
use Rattle.cells.proofs.Tests.{both}
use Rattle.names.specs.Names.{is_token}
use Rattle.lines.specs.Lines.{good_block}
use Rattle.signed.specs.SignedText.{request_text, signed_of}
use Rattle.scanner.specs.Requests as Own
use Rattle.scanner.specs.Requests.{Grant}
use Rattle.scanner.specs.State.{Session}
use Rattle.scanner.specs.Sign.{Draft, draft_good, message_in, value_in}
use Rattle.scanner.proofs.Drafts.{fitting}
use Rattle.scanner.proofs.Calls.{Made, made, value_is, Kept, kept_told}
use Rattle.stages.specs.Request.{request_of}
use Rattle.gate.specs.Calls.{Setup}
use Rattle.demands.specs.Client.{Message, client_code, client_fields, client_request, Fair}
use Rattle.demands.specs.Scanner.{grant_of, World, Arrival, arriving, Proper}
use Rattle.demands.proofs.Scanner.Client.{told, client_value, value_told}

-- a session's message, with the lines that came
abbrev pub arrived : Session → Draft → Arrival → Message
arrived k d a = record {
  method = d.method;
  head = a.head;
  aside = a.aside;
  path = d.path;
  body = d.body;
  time = d.clock;
  last_time = k.last_time;
  nonce = k.next;
}

module _ (s : Setup) (k : Session) (grant : k.grant ≡ grant_of s) (w : World) (kept : Kept k w.scanner) (d : Draft) (out : List ℕ) (a : Arrival)
    (small : d.clock < 2 ^ 32) (p : Proper s d out a w) where
  abbrev m : Message
  m = arrived k d a

  same_value : client_value s (told (message_in k d)) ≡ client_value s m
  unfolding client_fields client_code request_text signed_of
  same_value = rw p.as_signed refl

  pub request_is : arriving s d out a w.scanner ≡ client_request s m a.clock a.reply
  unfolding value_in client_request
  request_is =
      ap (λ (v : List ℕ). request_of s.orders a.clock s.server_key v d.method a.head a.aside d.path d.body a.reply)
      (value_is d w.scanner out p.made
      ∙ ap (λ (l : Session). value_in l d) (kept_told kept)
      ∙ ap (λ (g : Grant). Own.client_value g (message_in k d)) grant
      ∙ value_told s (message_in k d)
      ∙ same_value)

  passed : Made d w.scanner out
  passed = made d w.scanner out p.made

  pub fair : Fair s m a.clock a.reply
  unfolding draft_good
  fair =
      let size = fitting d out passed.fits in
      record {
        method_fits = size.method;
        head_fits = p.head_fits;
        aside_fits = p.aside_fits;
        path_some = size.path_some;
        path_fits = size.path;
        body_fits = size.body;
        reply_room = p.reply_room;
        method_good = (both (is_token d.method) (good_block d.head) (both (is_token d.method && good_block d.head) _ passed.good).0).0;
        lines = p.lines;
        once = p.once;
        time_fits = small;
        last_time_fits = kept.sized.last_time;
        nonce_fits = let left = passed.left in omega (arith, rw (kept_told kept) at left);
        lasts = p.lasts;
        active = rw (kept_told kept) at p.active;
        timely = p.timely;
        near = p.near;
      }
