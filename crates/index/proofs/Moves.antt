-- Entries that move up by one, behind a new one.
-- Assumes nothing.
use mathlib.Core.Path.{◌≡◌, ap, ◌∙◌}
use mathlib.Core.List.{List, ◌++◌, append-nil, append_assoc}
use Prim.Native.Nat.{ℕ, ◌+◌}
use native.Mathlib.Omega.{arith}
use lib.ListN.{length, take, drop, drop_of_length-le}
use lib.Seq.{paste, drop_at, length-take-le}

pub raised : (d : List ℕ) (m n : ℕ) {run : List ℕ} → run ≡ paste d 2 d m → m ≡ n → n + 2 ≡ length d → drop 2 run ≡ take n d
raised d m n e same h =
    ap (drop 2) (e ∙ ap (paste d 2 d) same ∙ append_assoc (take 2 d) (take n d) (drop (2 + n) d))
    ∙ drop_at (take 2 d) (take n d ++ drop (2 + n) d) 2 (length-take-le 2 d (omega arith))
    ∙ ap (λ (l : List ℕ). take n d ++ l) (drop_of_length-le d {i = 2 + n} (omega arith)) ∙ append-nil (take n d)
