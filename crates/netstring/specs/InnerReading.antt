-- What reading a netstring at the front of a run finds, by the text that stands there.
-- Assumes nothing.
use Rattle.std.specs.Prelude.{List, ◌∷◌, ◌++◌, ◌≡◌, ℕ, ◌≤◌, length}
use Rattle.cells.specs.Decimal.{decimal}
use Rattle.netstring.specs.Netstring.{colon, netstring}

-- a run is n in decimal, a colon and what follows it
abbrev pub LengthAt : List ℕ → ℕ → List ℕ → Type 0
LengthAt run n rest = run ≡ decimal n ++ (colon ∷ rest)

-- it begins with no length that it could hold
abbrev pub NoLength : List ℕ → Type 0
NoLength run = (n : ℕ) (rest : List ℕ) → n ≤ length run → LengthAt run n rest → ⊥

-- a run is the netstring of some bytes and what follows it
abbrev pub PartAt : List ℕ → List ℕ → List ℕ → Type 0
PartAt run bytes rest = run ≡ netstring bytes ++ rest

-- it begins with no netstring
abbrev pub NoPart : List ℕ → Type 0
NoPart run = (bytes rest : List ℕ) → PartAt run bytes rest → ⊥
