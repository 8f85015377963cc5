-- A read takes in at most 65,536 bytes, so that no count passes its 64 bits.
use Rattle.std.proofs.Common.{◌≡◌, length, ◌*◌, ◌≤◌, take}
use Rattle.logs.specs.Counts.{sum}
use Rattle.status_counts.proofs.Reading.{Taken}
use Rattle.status_counts.proofs.counted.Given as goal

abbrev pub invariant-loop-i : goal.invariant-loop-i
invariant-loop-i g l = record {
  size : length l.buffer ≡ 65536;
  within : l.n ≤ 65536;
  room : sum l.state.counts ≤ 65536 * l._i;
  taken : Taken (g.R.Read.remaining l.fn.input) (g.R.Read.remaining l.input) l.state (take l.n l.buffer) l.n;
}
