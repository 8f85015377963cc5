-- A session's nonces in order of arrival, and the rule that its window stands for: demand 2, and rows 15 and 16 of document 01; and, for document 02,
-- K12, from which windows two orders are compared.
-- Assumes nothing.
use Rattle.std.specs.Prelude.{ℕ, ◌+◌, ◌-◌, ◌<◌, ◌^◌, max, ◌≡◌, List, [], ◌∷◌, Bool, true, false, not, cond, ◌&&◌, ◌||◌, ltb, leb, eqb}
use Rattle.window.specs.declared.Window.{Window}
use Rattle.window.specs.declared.Verdict.{Verdict}
use Rattle.window.specs.declared.Verdict.TheVariants.{Accepted, TooOld, Seen}
use Rattle.window.specs.Window.{fresh, step_of}

-- a window that a record may hold: any highest nonce and bits, or none yet
pub record Holdable (window : Window) : Type 0 where
  pub new : window.any ≡ false → window ≡ fresh
  pub bits : window.bits < 2 ^ 64

abbrev pub is_accepted : Verdict → Bool
is_accepted Accepted = true
is_accepted TooOld = false
is_accepted Seen = false

-- the window after some nonces
unfoldable pub run : Window → List ℕ → Window
run window [] = window
run window (n ∷ ns) = run (step_of window n).window ns

-- each of some nonces is accepted by the window that those before it left
unfoldable pub all_accepted : Window → List ℕ → Bool
all_accepted window [] = true
all_accepted window (n ∷ ns) = is_accepted (step_of window n).verdict && all_accepted (step_of window n).window ns

abbrev pub keep : Bool → ℕ → List ℕ → List ℕ
keep true n before = n ∷ before
keep false n before = before

-- the nonces accepted, the latest first, where those of `before` were accepted already
unfoldable pub accepted_from : Window → List ℕ → List ℕ → List ℕ
accepted_from window before [] = before
accepted_from window before (n ∷ ns) =
    accepted_from (step_of window n).window (keep (is_accepted (step_of window n).verdict) n before) ns

-- the nonces accepted in a session
abbrev pub accepted_in : List ℕ → List ℕ
accepted_in ns = accepted_from fresh [] ns

abbrev pub among : List ℕ → ℕ → Bool
among [] n = false
among (a ∷ before) n = eqb a n || among before n

abbrev pub highest_of : List ℕ → ℕ
highest_of [] = 0
highest_of (a ∷ before) = max a (highest_of before)

-- not accepted before, and less than 64 below the highest accepted; a first nonce always passes
abbrev pub admits : List ℕ → ℕ → Bool
admits [] n = true
admits (a ∷ before) n = not (among (a ∷ before) n) && ltb (highest_of (a ∷ before)) (n + 64)

-- 64 or more below the highest is too old; accepted before, less than 64 below, is seen
abbrev pub verdict_after : List ℕ → ℕ → Verdict
verdict_after [] n = Accepted
verdict_after (a ∷ before) n =
    cond (leb (n + 64) (highest_of (a ∷ before))) TooOld (cond (among (a ∷ before) n) Seen Accepted)

-- the nonce d below the highest was accepted; there is none below 0
abbrev pub accepted_below : List ℕ → ℕ → Bool
accepted_below before d = leb d (highest_of before) && among before (highest_of before - d)
