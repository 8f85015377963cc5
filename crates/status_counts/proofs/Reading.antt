-- A log that is read in parts: what the state has taken in, and the part that waits in the buffer.
use Rattle.std.proofs.Common.{◌≡◌, ℕ, List, [], ◌++◌, refl, sym, ap, ◌∙◌, append_assoc, append-nil}
use Rattle.std.specs.Io.KnownBytes.{Consumes, IsAtEnd}
use Rattle.std.specs.Prelude.{Option, None, Some, IfSome, ⊤}
use Rattle.logs.specs.Taken.{Holds, TookIn}
use Rattle.logs.specs.Counts.{lines, counts}
use Rattle.logs.specs.declared.state.State.{State}

-- of a text to be read the state has taken in the front, some bytes wait, and where none wait none are left to read
abbrev pub Taken : Option (List ℕ) → Option (List ℕ) → State → List ℕ → ℕ → Type 0
Taken None now s waits n = ⊤
Taken (Some text) None s waits n = ⊥
Taken (Some text) (Some left) s waits n = (taken : List ℕ) × Holds s taken × (text ≡ taken ++ (waits ++ left)) × (n ≡ 0 → left ≡ [])

-- the state takes in what waits, and another part is read
pub taken_more : (whole before now : Option (List ℕ)) (s t : State) (waits more : List ℕ) (m n : ℕ) → Taken whole before s waits m → TookIn s waits t
    → Consumes before now more → (n ≡ 0 → IsAtEnd now) → Taken whole now t more n
taken_more None before now s t waits more m n h took c e = tt
taken_more (Some text) None now s t waits more m n h took c e = elim h [ ]
taken_more (Some text) (Some left) None s t waits more m n h took c e = elim c [ ]
taken_more (Some text) (Some left) (Some rest) s t waits more m n h took c e =
    (h.0 ++ waits, took.appended h.0 h.1, h.2 ∙ (ap (λ (l : List ℕ). h.0 ++ (waits ++ l)) c ∙ sym (append_assoc h.0 waits (more ++ rest))), e)

-- nothing waits: the whole text is taken in
pub taken_all : (whole now : Option (List ℕ)) (s : State) (waits found : List ℕ) (n : ℕ) → Taken whole now s waits n → n ≡ 0 → waits ≡ []
    → ((text : List ℕ) → Holds s text → found ≡ counts (lines text)) → IfSome whole (λ text. found ≡ counts (lines text))
taken_all None now s waits found n h z w f = tt
taken_all (Some text) None s waits found n h z w f = elim h [ ]
taken_all (Some text) (Some left) s waits found n h z w f =
    let all : text ≡ h.0 = h.2 ∙ rw (w, h.3 z, append-nil) refl in
    f h.0 h.1 ∙ ap (λ (l : List ℕ). counts (lines l)) (sym all)
