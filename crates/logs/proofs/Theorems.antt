-- What document 02, K5, says of the counts: every line is counted once, under its own status, however the bytes arrive.
-- Assumes nothing.
use mathlib.Core.Path.{◌≡◌, refl, sym, ap, ◌∙◌}
use mathlib.Core.List.{List, [], ◌∷◌, ◌++◌, append_assoc, append-nil}
use mathlib.Core.Bool.{true, false, false≢true}
use Prim.Native.Nat.{ℕ, ◌≤◌, ◌<◌}
use native.Mathlib.Nat.{zero-add}
use native.Mathlib.Omega.{arith}
use borrow.Author.Tests.{eq-eqb, ne_eqb}
use lib.ListN.{length}
use Rattle.cells.specs.Text.{codes}
use Rattle.cells.proofs.Tests.{tested}
use Rattle.logs.specs.Line.{line}
use Rattle.logs.specs.Counts.{LF, lines, under, times, counts, sum}
use Rattle.logs.specs.Printed.{row, rows, printed}
use Rattle.logs.specs.Taken.{Holds, TookInAll, joined}
use Rattle.logs.specs.declared.state.State.{State}
use Rattle.logs.proofs.Counting.{counts_none, counts_length, counts_at, counts_all, sum_all}
use Rattle.logs.proofs.Statuses.{only_first, none_first}
use Rattle.logs.proofs.OneStatus.{one_status}

-- the counts and unread add up to the lines
pub total : (text : List ℕ) → sum (counts (lines text)) ≡ length (lines text)
unfolding sum
total text = ap sum (sym (counts_all [] (lines text))) ∙ sum_all (counts []) (lines text) (counts_length []) ∙ rw counts_none (zero-add (length (lines text)))

-- so what is printed as total is how many lines there are
pub printed_total : (text : List ℕ) → printed (counts (lines text))
    ≡ codes "status lines" ++ LF ∷ rows (counts (lines text)) 100 500 ++ row (codes "unread") (times 0 (lines text)) ++ row (codes "total") (length (lines text))
unfolding printed
printed_total text = rw (counts_at (lines text) 0 (omega arith), total text) refl

-- a line goes under its status, and under no other
pub goes_under : (s : ℕ) (l : List ℕ) → 100 ≤ s → s < 600 → line s l ≡ true → under l ≡ s
unfolding under
goes_under s l low high is = only_first (λ t. line t l) s record {
  from = low;
  below = high;
  is = λ t a b.
      tested (line t l) (λ e. e ∙ sym (eq-eqb t s (one_status t s a b low high l e is)))
      (λ e. e ∙ sym (ne_eqb t s (λ same. false≢true (sym e ∙ ap (λ (n : ℕ). line n l) same ∙ is))));
}

-- what is no line of any status is unread
pub unread : (l : List ℕ) → ((s : ℕ) → 100 ≤ s → s < 600 → line s l ≡ false) → under l ≡ 0
unfolding under
unread l other = none_first (λ s. line s l) other

-- whatever the parts are, what `finish` answers are the counts of all of them together
module _ (r : State) where
  all_taken : (s : State) (text : List ℕ) (parts : List (List ℕ)) → Holds s text → TookInAll s parts r → Holds r (text ++ joined parts)
  all_taken s text [] h e = rw (append-nil text, ← e) h
  all_taken s text (part ∷ parts) h took =
      rw (← (append_assoc text part (joined parts))) (all_taken took.0 (text ++ part) parts (took.1.appended text h) took.2)

  pub any_parts : (s : State) (parts : List (List ℕ)) (ns : List ℕ) → Holds s [] → TookInAll s parts r
      → ((text : List ℕ) → Holds r text → ns ≡ counts (lines text)) → ns ≡ counts (lines (joined parts))
  any_parts s parts ns begins took finished = finished (joined parts) (all_taken s [] parts begins took)
