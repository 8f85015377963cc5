-- What a value of at most N bytes holds.
-- Assumes nothing.
use Rattle.std.specs.Prelude.{ℕ, List, take}
use Rattle.cells.specs.declared.run.Run.{Run}

abbrev pub run_of : {N : ℕ} → Run N → List ℕ
run_of r = take r.len r.bytes
