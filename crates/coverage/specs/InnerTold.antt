-- Whether the text of eah is that of the extra names, by where it stands.
-- Assumes nothing.
use Rattle.std.specs.Prelude.{Bool, ◌&&◌, not, List, ℕ, Option, Some, None, eqb, length}
use Rattle.cells.specs.Runs.{cut, same}
use Rattle.base_64.specs.Encoding.{encoded}
use Rattle.armor.specs.declared.Span.{Span}

abbrev pub told : List ℕ → Option Span → List ℕ → Bool
told value None extra = eqb (length extra) 0
told value (Some s) extra = not (eqb (length extra) 0) && same (cut value s.start s.end) (encoded extra)
