-- A scanner of ours and the gate that set it up: document 02, K14. 'For a scanner set up by our gate whose clock agrees with it, under the same
-- orders and server key, whose requests arrive as signed, once each and in the order made, no other call bearing its IV, passing checks 1 to 7,
-- with no gap beyond the idle limit, each in time, before expiry and while its record stands, every request is accepted.'
-- What happens stands with the latest first, as in History.
-- Assumes nothing.
use Rattle.std.specs.Prelude.{◌≡◌, true, false, ◌&&◌, ◌||◌, List, [], ◌∷◌, ℕ, ◌+◌, ◌≤◌, ◌<◌, ◌^◌, length, take}
use Rattle.names.specs.Covered.{covered_names}
use Rattle.lines.specs.Lines.{lines_in, good_block}
use Rattle.lines.specs.Values.{repeated}
use Rattle.orders.specs.Orders.{limits_of}
use Rattle.signed.specs.SignedText.{covered_values}
use Rattle.table.specs.Session.{place_of}
use Rattle.stages.specs.Request.{Request, request_of}
use Rattle.stages.specs.Checks.{nowhere}
use Rattle.scanner.specs.Requests.{Grant}
use Rattle.scanner.specs.State.{session_in}
use Rattle.scanner.specs.Begin.{begun}
use Rattle.scanner.specs.Sign.{Draft, signed}
use Rattle.gate.specs.Calls.{Setup}
use Rattle.gate.specs.State.{State}
use Rattle.gate.specs.Setup.{chosen_of, expiry_of, sealed_of, reply_of, set_up}
use Rattle.gate.specs.Judge.{judged}
use Rattle.demands.specs.History.{Call, answer}
use Rattle.demands.specs.Struck.{bears}

-- what the reply to a setup brings
abbrev pub grant_of : Setup → Grant
grant_of s = record {
  s = (sealed_of s).cipher;
  iv = s.iv;
  tag = (sealed_of s).tag;
  key = s.session_key;
  hash = chosen_of s;
  mask = s.orders.numbers.mask;
  extra = s.orders.extra;
}

-- the state that a gate's host keeps, and the one that a scanner's does
pub record World : Type 0 where
  pub gate : State
  pub scanner : List ℕ

-- right after the setup, whose reply the scanner was told, with a time
abbrev pub world_of : Setup → State → ℕ → List ℕ → World
world_of s before time room = record { gate = (set_up s before).state; scanner = (begun time (reply_of s) room).state }

-- how a request comes to the gate: when, with which lines, those that a proxy has set aside among them, and with which buffer for the reply
pub record Arrival : Type 0 where
  pub clock : ℕ
  pub head : List ℕ
  pub aside : List ℕ
  pub reply : List ℕ

-- what happens: the scanner is asked for a request, with a buffer for its value, and what it makes is lost on the way; or comes to the gate; or
-- another call comes there. To make a request looks at the scanner's state alone, and to judge it at the gate's, so one event for both leaves out no
-- order in which requests come as made
pub data Event : Type 0 where
  losing : Draft → List ℕ → Event
  sending : Draft → List ℕ → Arrival → Event
  calling : Call → Event

-- the request that the scanner makes, as it comes to the gate under the setup's orders and server key
abbrev pub arriving : Setup → Draft → List ℕ → Arrival → List ℕ → Request
arriving s d out a scanner =
    let made = signed d scanner out in
    request_of s.orders a.clock s.server_key (take made.length made.out) d.method a.head a.aside d.path d.body a.reply

abbrev pub happening : Setup → Event → World → World
happening s (losing d out) w = record { gate = w.gate; scanner = (signed d w.scanner out).state }
happening s (sending d out a) w =
    record { gate = (judged (arriving s d out a w.scanner) w.gate).state; scanner = (signed d w.scanner out).state }
happening s (calling call) w = record { gate = (answer call w.gate).state; scanner = w.scanner }

unfoldable pub world_after : Setup → World → List Event → World
world_after s w [] = w
world_after s w (event ∷ earlier) = happening s event (world_after s w earlier)

-- a request that is made, arrives as signed and passes checks 1, 6 and 7, after no gap beyond the idle limit, in time, before expiry and while
-- the record stands. That it passes 2, 3, 22, 4 and 5 is shown, and is not asked
pub record Proper (s : Setup) (d : Draft) (out : List ℕ) (a : Arrival) (w : World) : Type 0 where
  pub made : (signed d w.scanner out).number ≡ 0
  pub as_signed :
      covered_values s.orders.numbers.mask s.orders.extra a.aside a.head
      ≡ covered_values s.orders.numbers.mask s.orders.extra [] d.head
  pub head_fits : length a.head ≤ 16384
  pub aside_fits : length a.aside ≤ 16384
  pub reply_room : 1024 ≤ length a.reply
  pub lines : (good_block a.head && good_block a.aside) ≡ true
  pub once :
      (repeated (covered_names s.orders.numbers.mask s.orders.extra) (lines_in a.head)
      || repeated (covered_names s.orders.numbers.mask s.orders.extra) (lines_in a.aside))
      ≡ false
  pub active : d.clock ≤ (session_in w.scanner).last_time + (limits_of s.orders).idle
  pub timely : a.clock ≤ d.clock + (limits_of s.orders).request_life
  pub near : d.clock ≤ a.clock + 30
  pub lasts : a.clock < expiry_of s
  pub stands : nowhere (place_of w.gate.table s.iv) ≡ false

-- what is asked of an event: clocks are numbers of 32 bits, a request that is sent is a proper one, and another call bears another IV
abbrev pub InOrder : Setup → Event → World → Type 0
InOrder s (losing d out) w = d.clock < 2 ^ 32
InOrder s (sending d out a) w = (d.clock < 2 ^ 32) × Proper s d out a w
InOrder s (calling call) w = bears s.iv call ≡ false

abbrev pub AllInOrder : Setup → World → List Event → Type 0
AllInOrder s w [] = Unit
AllInOrder s w (event ∷ earlier) = InOrder s event (world_after s w earlier) × AllInOrder s w earlier

-- a request that is sent is accepted
abbrev pub Taken : Setup → Event → World → Type 0
Taken s (losing d out) w = Unit
Taken s (sending d out a) w = (judged (arriving s d out a w.scanner) w.gate).number ≡ 0
Taken s (calling call) w = Unit

abbrev pub AllTaken : Setup → World → List Event → Type 0
AllTaken s w [] = Unit
AllTaken s w (event ∷ earlier) = Taken s event (world_after s w earlier) × AllTaken s w earlier

-- the states that calls leave to a session: a reply was taken, and requests were made after it
pub data Left : List ℕ → Type 0 where
  beginning : (time : ℕ) (reply room : List ℕ) → time < 2 ^ 32 → (begun time reply room).number ≡ 0 → Left (begun time reply room).state
  signing : (d : Draft) (state out : List ℕ) → Left state → d.clock < 2 ^ 32 → (signed d state out).number ≡ 0 → Left (signed d state out).state
