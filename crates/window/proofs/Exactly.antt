-- The theorem of the window alone, over any nonces from a fresh window on: a nonce is accepted exactly if it was not accepted before
-- in that session and is less than 64 below the highest accepted; a first nonce always passes; a refused nonce leaves the window as it
-- was; and bit d is set exactly if the nonce d below the highest was accepted.
-- Assumes nothing.
use mathlib.Core.Path.{◌≡◌, sym, ap, ◌∙◌}
use mathlib.Core.List.{List, [], ◌∷◌}
use mathlib.Core.Bool.{false}
use mathlib.Core.Logic.{⊎_elim}
use Prim.Native.Nat.{ℕ, ◌+◌, ◌-◌, ◌<◌}
use native.Mathlib.Omega.{arith}
use borrow.Author.Tests.{le-leb, lt-leb}
use Rattle.window.specs.declared.Window.{Window}
use Rattle.window.specs.declared.Verdict.TheVariants.{Accepted}
use Rattle.window.specs.Window.{fresh, bit, step_of}
use Rattle.window.specs.History.{is_accepted, run, keep, accepted_from, accepted_in, highest_of, admits, verdict_after, accepted_below}
use Rattle.window.proofs.Bits.{order}
use Rattle.window.proofs.Steps.{unmoved}
use Rattle.window.proofs.Next.{has_bit}
use Rattle.window.proofs.Tracks.{Tracks, tracks_fresh, right, admitted}

-- after any nonces the window stands for those accepted
tracks_from : (window : Window) (before : List ℕ) → Tracks window before → (ns : List ℕ)
    → Tracks (run window ns) (accepted_from window before ns)
unfolding run accepted_from
tracks_from window before t [] = t
tracks_from window before t (n ∷ ns) =
    tracks_from (step_of window n).window (keep (is_accepted (step_of window n).verdict) n before) (right window before t n).next ns

pub tracks : (ns : List ℕ) → Tracks (run fresh ns) (accepted_in ns)
tracks ns = tracks_from fresh [] tracks_fresh ns

-- which of the three verdicts the next nonce gets
pub verdict : (ns : List ℕ) (n : ℕ) → (step_of (run fresh ns) n).verdict ≡ verdict_after (accepted_in ns) n
verdict ns n = (right (run fresh ns) (accepted_in ns) (tracks ns) n).verdict

-- accepted exactly if not accepted before and less than 64 below the highest accepted
pub exactly : (ns : List ℕ) (n : ℕ) → is_accepted (step_of (run fresh ns) n).verdict ≡ admits (accepted_in ns) n
exactly ns n = ap is_accepted (verdict ns n) ∙ admitted (accepted_in ns) n

pub first_passes : (n : ℕ) → (step_of fresh n).verdict ≡ Accepted
unfolding run accepted_from
first_passes n = verdict [] n

-- a refused nonce leaves the window as it was
pub refused_keeps : (ns : List ℕ) (n : ℕ) → admits (accepted_in ns) n ≡ false → (step_of (run fresh ns) n).window ≡ run fresh ns
refused_keeps ns n e = unmoved (run fresh ns) n (exactly ns n ∙ e)

-- what each bit means
pub bit_meaning : (ns : List ℕ) (d : ℕ) → d < 64 → bit (run fresh ns).bits d ≡ accepted_below (accepted_in ns) d
bit_meaning ns d l =
    let top = highest_of (accepted_in ns) in
    sym (has_bit top (run fresh ns).bits d l)
    ∙ (tracks ns).set (top + 64 - d) (omega arith)
    ∙ ⊎_elim (λ m. rw (lt-leb 64 (top + 64 - d) (omega arith), lt-leb d top m))
    (λ m. let same : top + 64 - d - 64 ≡ top - d = omega arith in rw (le-leb 64 (top + 64 - d) (omega arith), le-leb d top m, same))
    (order top d)
