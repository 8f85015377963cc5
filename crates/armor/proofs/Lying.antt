-- Contents that are written one behind the other into one run, and a request's parts that are taken out of it.
-- Assumes nothing.
use mathlib.Core.Path.{◌≡◌, refl, sym, ap, ◌∙◌}
use mathlib.Core.List.{List, ◌++◌, append_assoc}
use Prim.Native.Nat.{ℕ, ◌+◌, ◌≤◌}
use native.Mathlib.Nat.{zero-add}
use native.Mathlib.Omega.{arith}
use lib.ListN.{length, take, drop, length-append, length-drop, length-take, take-append-drop}
use lib.Seq.{take_at, drop_at, length-take-le}
use Rattle.cells.specs.InnerRun.{run_of}
use Rattle.cells.specs.Runs.{fronted, part}
use Rattle.cells.proofs.Cuts.{part_part}
use Rattle.cells.proofs.Runs.{length_fronted, length_part}
use Rattle.armor.specs.Keys.{key_s, key_c, key_iv, key_tag}
use Rattle.armor.specs.Value.{Field}
use Rattle.armor.specs.Fields.{the}
use Rattle.armor.specs.InnerAnswers.{Lies}
use Rattle.armor.specs.InnerScan.{Sizes}
use Rattle.armor.specs.declared.Fields.{Fields}
use Rattle.armor.proofs.Requests.{signature_room}

-- ys is xs with a run written from index a on: what stands before it stays
pub record Written (xs ys : List ℕ) (a : ℕ) (run : List ℕ) : Type 0 where
  pub long : length ys ≡ length xs
  pub here : part ys a (length run) ≡ run
  pub kept : (at k : ℕ) → at + k ≤ a → part ys at k ≡ part xs at k

-- a part of the front
front_part_lem : (xs rest : List ℕ) (a at k : ℕ) → a ≤ length xs → at + k ≤ a → part (take a xs ++ rest) at k ≡ part (take a xs) at k
front_part_lem xs rest a at k h j =
    let long = length-take-le a xs h in
    let room : a ≤ length (take a xs ++ rest) = omega (arith, length-append (take a xs) rest) in
    ap (λ (i : ℕ). part (take a xs ++ rest) i k) (sym (zero-add at))
    ∙ sym (part_part (take a xs ++ rest) 0 a at k (omega arith) j)
    ∙ ap (λ (l : List ℕ). part l at k) (take_at (take a xs) rest a long)

-- what a part leaves that was lent to be filled from its front
pub written : (xs run : List ℕ) (a n : ℕ) {left : List ℕ} → a + n ≤ length xs → length run ≤ n → left ≡ fronted run (part xs a n)
    → Written xs (take a xs ++ (left ++ drop n (drop a xs))) a run
unfolding fronted
written xs run a n {left} room fits e =
    let more = drop (length run) (part xs a n) in
    let rest = drop n (drop a xs) in
    let size : length left ≡ n = ap length e ∙ length_fronted run (part xs a n) (omega (arith, length_part xs a n room)) ∙ length_part xs a n room in
    record {
      long = simp (length-append, length-take, length-drop) (omega arith);
      here = ap (take (length run)) (drop_at (take a xs) (left ++ rest) a (length-take-le a xs (omega arith)))
          ∙ ap (λ (l : List ℕ). take (length run) (l ++ rest)) e
          ∙ ap (take (length run)) (append_assoc run more rest)
          ∙ take_at run (more ++ rest) (length run) refl;
      kept = λ at k j.
          front_part_lem xs (left ++ rest) a at k (omega arith) j
          ∙ sym (front_part_lem xs (drop a xs) a at k (omega arith) j)
          ∙ ap (λ (l : List ℕ). part l at k) (take-append-drop a xs);
    }

-- s, c, iv and tag lie in one run, from 0, 118, 182 and 194 on
pub record LiesAlong (fs : List Field) (s_len c_len : ℕ) (run : List ℕ) : Type 0 where
  pub token : take s_len run ≡ the key_s fs
  pub signature : part run 118 c_len ≡ the key_c fs
  pub vector : part run 182 12 ≡ the key_iv fs
  pub tag : part run 194 16 ≡ the key_tag fs

-- contents that were written one behind the other lie in the run
pub lying : {s_len c_len : ℕ} {run₀ run₁ run₂ run₃ run : List ℕ} (fs : List Field) → Sizes fs → s_len ≡ length (the key_s fs) → c_len ≡ length (the key_c fs)
    → Written run₀ run₁ 0 (the key_s fs) → Written run₁ run₂ 118 (the key_c fs) → Written run₂ run₃ 182 (the key_iv fs) → Written run₃ run 194 (the key_tag fs)
    → LiesAlong fs s_len c_len run
lying {run = run} fs sizes token signature one two three four =
    let s = length (the key_s fs) in
    let c = length (the key_c fs) in
    let iv = length (the key_iv fs) in
    let short = sizes.s.1 in
    let room = signature_room sizes in
    let twelve = sizes.iv in
    record {
      token = ap (λ (n : ℕ). take n run) token ∙ four.kept 0 s (omega arith) ∙ three.kept 0 s (omega arith) ∙ two.kept 0 s (omega arith) ∙ one.here;
      signature = ap (part run 118) signature ∙ four.kept 118 c (omega arith) ∙ three.kept 118 c (omega arith) ∙ two.here;
      vector = ap (part run 182) (sym twelve) ∙ four.kept 182 iv (omega arith) ∙ three.here;
      tag = ap (part run 194) (sym sizes.tag) ∙ four.here;
    }

-- parts that are taken out of such a run lie in their places
pub lying_apart : {fs : List Field} {s_len c_len : ℕ} {run : List ℕ} → LiesAlong fs s_len c_len run → (held : Fields) → run_of held.s ≡ take s_len run
    → run_of held.c ≡ part run 118 c_len → held.iv ≡ part run 182 12 → held.tag ≡ part run 194 16 → Lies fs held
lying_apart l held token signature vector tag = record {
  token = token ∙ l.token;
  signature = signature ∙ l.signature;
  vector = vector ∙ l.vector;
  tag = tag ∙ l.tag;
}
