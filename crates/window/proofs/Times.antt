-- Laws of differences of two times: their range, and when one exceeds a limit.
-- Assumes nothing.
use mathlib.Core.Path.{◌≡◌, refl, sym, ap, ◌∙◌}
use mathlib.Core.Logic.{⊎_elim}
use mathlib.Core.Bool.{Bool, true, false, cond}
use Prim.Native.Nat.{ℕ, zero, suc, ◌+◌, ◌-◌, ◌≤◌, ◌<◌, ◌^◌}
use native.Mathlib.Omega.{arith}
use borrow.Author.Tests.{lt-ltb, le-ltb, ltb-false}
use lib.Dec.{ltb}
use lib.IntN.{pos, negsuc, sub_ℕ}
use lib.Signed.{mag}
use mir.Syntax.{w64}
use mir.Val.{SFits}
use Rattle.window.specs.Time.{difference, exceeds, most_ahead}
use Rattle.window.proofs.Bits.{order}

-- below zero or not, as one test tells
by_test : (later earlier : ℕ) → difference later earlier ≡ sub_ℕ later earlier
by_test later zero = rw (le-ltb later zero (omega arith)) (ap pos (omega arith))
by_test later (suc earlier) = refl

-- the difference of two times is in the range of an i64
pub difference_fits : (later earlier : ℕ) → later < 2 ^ 32 → earlier < 2 ^ 32 → SFits w64 (difference later earlier)
difference_fits later earlier p q = rw by_test (record { sfits = either (ltb later earlier) })
  where
    either : (t : Bool) → mag (cond t (negsuc (earlier - suc later)) (pos (later - earlier))) < 2 ^ 63
    either true = omega arith
    either false = omega arith

-- a limit is exceeded exactly if the earlier time and the limit together come before the later time
pub exceeds_sum : (later earlier limit : ℕ) → exceeds later earlier limit ≡ ltb (earlier + limit) later
unfolding exceeds
exceeds_sum later earlier limit =
    rw by_test
    (⊎_elim (λ l. rw (lt-ltb later earlier l, le-ltb (earlier + limit) later (omega arith)))
    (λ l. rw (le-ltb later earlier l)
    (⊎_elim (λ m. rw (lt-ltb limit (later - earlier) m, lt-ltb (earlier + limit) later (omega arith)))
    (λ m. rw (le-ltb limit (later - earlier) m, le-ltb (earlier + limit) later (omega arith)))
    (order limit (later - earlier))))
    (order later earlier))

pub within : (later earlier limit : ℕ) → exceeds later earlier limit ≡ false → later ≤ earlier + limit
within later earlier limit e = ltb-false (earlier + limit) later (sym (exceeds_sum later earlier limit) ∙ e)

-- a difference below zero, or of nothing, exceeds no limit
pub ahead : (later earlier limit : ℕ) → later ≤ earlier → exceeds later earlier limit ≡ false
ahead later earlier limit h = exceeds_sum later earlier limit ∙ le-ltb (earlier + limit) later (omega arith)

-- the limit itself passes, and one second more does not
pub at_limit : (earlier limit : ℕ) → exceeds (earlier + limit) earlier limit ≡ false
at_limit earlier limit = exceeds_sum (earlier + limit) earlier limit ∙ le-ltb (earlier + limit) (earlier + limit) (omega arith)

pub past_limit : (earlier limit : ℕ) → exceeds (earlier + limit + 1) earlier limit ≡ true
past_limit earlier limit = exceeds_sum (earlier + limit + 1) earlier limit ∙ lt-ltb (earlier + limit) (earlier + limit + 1) (omega arith)

-- a time 30 seconds ahead of now passes and one 31 seconds ahead does not, wherever the clock stands
pub thirty_ahead : (clock : ℕ) → exceeds (clock + 30) clock most_ahead ≡ false
thirty_ahead clock = at_limit clock 30

pub thirty_one_ahead : (clock : ℕ) → exceeds (clock + 31) clock most_ahead ≡ true
thirty_one_ahead clock = exceeds_sum (clock + 31) clock 30 ∙ lt-ltb (clock + 30) (clock + 31) (omega arith)
