-- Laws of the state: which text it has taken in after each step.
-- Assumes nothing.
use mathlib.Core.Path.{◌≡◌, refl, sym, ap, ◌∙◌}
use mathlib.Core.List.{List, [], ◌∷◌, ◌++◌, append_assoc, append-nil}
use mathlib.Core.Bool.{true}
use Prim.Native.Nat.{ℕ, ◌+◌, ◌≤◌, ◌<◌, min}
use native.Mathlib.Omega.{arith}
use lib.ListN.{length, get_or, take, set, length-append}
use lib.Seq.{length-take-le}
use Rattle.cells.specs.Spans.{all}
use Rattle.cells.specs.InnerLaid.{Laid}
use Rattle.cells.proofs.Runs.{front_spliced}
use Rattle.cells.proofs.Tests.{both}
use Rattle.logs.specs.Line.{other}
use Rattle.logs.specs.Counts.{LF, lines, under, counts, sum}
use Rattle.logs.specs.Taken.{Holds, TookIn}
use Rattle.logs.specs.InnerLines.{counted, counted_all, LinesCounted}
use Rattle.logs.specs.declared.state.State.{State}
use Rattle.logs.proofs.Lines.{fed, fed_ends, unfed, ended_more, ended_none}
use Rattle.logs.proofs.Counting.{counts_more, counts_all, sum_set_most}

no_bytes : (xs : List ℕ) → length xs ≡ 0 → xs ≡ []
no_bytes [] h = refl
no_bytes (x ∷ xs) h = absurd (omega (arith, h))

-- one part after the other
pub took_more : (s t u : State) (a b : List ℕ) → TookIn s a t → TookIn t b u → TookIn s (a ++ b) u
took_more s t u a b p q = record {
  most = omega (arith, p.most, q.most, length-append a b);
  appended = λ text h. rw (← (append_assoc text a b)) (q.appended (text ++ a) (p.appended text h));
}

-- nothing was taken in
pub holds_none : (s : State) → s.counts ≡ counts [] → s.size ≡ 0 → Holds s []
unfolding lines all
holds_none s told size = record {
  ended = [];
  begun = [];
  is = refl;
  ends = ended_none;
  unended = refl;
  told = told;
  size = size;
  kept = λ h. rw size refl;
}

all_more : (xs ys : List ℕ) → all (other LF) xs ≡ true → all (other LF) ys ≡ true → all (other LF) (xs ++ ys) ≡ true
unfolding all
all_more [] ys h g = g
all_more (x ∷ xs) ys h g =
    let parts = both (other LF x) (all (other LF) xs) h in
    rw parts.0 (all_more xs ys parts.1 g)

-- more of the line that is begun
module _ (s r : State) (part : List ℕ) (unended : all (other LF) part ≡ true) (same : r.counts ≡ s.counts) where
  took_begun : ((begun : List ℕ) → s.size ≡ min (length begun) 8193 → (s.size ≤ 8192 → take s.size s.begun ≡ begun)
      → (r.size ≡ min (length begun + length part) 8193) × (r.size ≤ 8192 → take r.size r.begun ≡ begun ++ part)) → TookIn s part r
  took_begun more = record {
    most = omega (arith, ap sum same);
    appended = λ text h. let held = more h.begun h.size h.kept in record {
      ended = h.ended;
      begun = h.begun ++ part;
      is = ap (λ (xs : List ℕ). xs ++ part) h.is ∙ append_assoc h.ended h.begun part;
      ends = h.ends;
      unended = all_more h.begun part h.unended unended;
      told = same ∙ h.told;
      size = held.0 ∙ ap (λ (n : ℕ). min n 8193) (sym (length-append h.begun part));
      kept = held.1;
    };
  }

  -- it fits
  pub took_kept : s.size + length part ≤ 8192 → s.size ≤ length s.begun → Laid s.begun r.begun s.size r.size part → TookIn s part r
  took_kept fits room laid = took_begun (λ begun size kept. (
    omega (arith, laid.ends),
    λ h. ap (take r.size) laid.is ∙ front_spliced s.begun part s.size r.size room laid.ends
        ∙ ap (λ (xs : List ℕ). xs ++ part) (kept (omega arith)),
  ))

  -- it is too long
  pub took_over : 8192 < s.size + length part → r.size ≡ 8193 → TookIn s part r
  took_over over full = took_begun (λ begun size kept. (omega arith, λ h. absurd (omega (arith, h))))

-- a line ends
pub took_feed : (s r : State) (n : ℕ) → r.size ≡ 0 → r.counts ≡ set s.counts n (get_or s.counts n 0 + 1)
    → ((begun : List ℕ) → s.size ≡ min (length begun) 8193 → (s.size ≤ 8192 → take s.size s.begun ≡ begun) → under begun ≡ n)
    → TookIn s (LF ∷ []) r
unfolding all
took_feed s r n empty told is = record {
  most = omega (arith, ap sum told, sum_set_most s.counts n);
  appended = λ text h. let goes = is h.begun h.size h.kept in record {
    ended = (h.ended ++ h.begun) ++ LF ∷ [];
    begun = [];
    is = ap (λ (xs : List ℕ). xs ++ LF ∷ []) h.is ∙ sym (append-nil ((h.ended ++ h.begun) ++ LF ∷ []));
    ends = fed_ends h.ended h.begun h.ends h.unended;
    unended = refl;
    told =
        told ∙ ap (λ (m : ℕ). set s.counts m (get_or s.counts m 0 + 1)) (sym goes) ∙ ap (λ (ns : List ℕ). counted ns h.begun) h.told
        ∙ counts_more (lines h.ended) h.begun ∙ ap counts (sym (fed h.ended h.begun h.ends h.unended));
    size = empty;
    kept = λ g. rw empty refl;
  };
}

-- lines end in a part, and none is begun before it
pub took_lines : (s r : State) (part : List ℕ) (at : ℕ) → s.size ≡ 0 → r.size ≡ 0 → LinesCounted s.counts part r.counts at → TookIn s (take at part) r
unfolding all
took_lines s r part at none empty done = record {
  most = omega (arith, done.most, length-take-le at part done.within);
  appended = λ text h. let start : h.begun ≡ [] = no_bytes h.begun (omega (arith, h.size)) in record {
    ended = h.ended ++ take at part;
    begun = [];
    is =
        ap (λ (xs : List ℕ). xs ++ take at part) (h.is ∙ ap (λ (xs : List ℕ). h.ended ++ xs) start ∙ append-nil h.ended)
        ∙ sym (append-nil (h.ended ++ take at part));
    ends = ended_more h.ended (take at part) h.ends done.ends;
    unended = refl;
    told =
        done.is ∙ ap (λ (ns : List ℕ). counted_all ns (lines (take at part))) h.told ∙ counts_all (lines h.ended) (lines (take at part))
        ∙ ap counts (sym (h.ends (take at part)));
    size = empty;
    kept = λ g. rw empty refl;
  };
}

-- no line is begun: all is counted
pub told_all : (s : State) (text : List ℕ) → s.size ≡ 0 → Holds s text → s.counts ≡ counts (lines text)
told_all s text none h =
    let start : h.begun ≡ [] = no_bytes h.begun (omega (arith, h.size)) in
    h.told ∙ ap (λ (xs : List ℕ). counts (lines xs)) (sym (h.is ∙ ap (λ (xs : List ℕ). h.ended ++ xs) start ∙ append-nil h.ended))

-- one is begun, and the text ends
pub told_last : (s t : State) (text : List ℕ) → 0 < s.size → TookIn s (LF ∷ []) t → t.size ≡ 0 → Holds s text → t.counts ≡ counts (lines text)
told_last s t text some took none h =
    told_all t (text ++ LF ∷ []) none (took.appended text h)
    ∙ ap counts (sym (rw h.is (unfed h.ended h.begun h.ends h.unended (omega (arith, h.size)))))
