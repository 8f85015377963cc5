use Rattle.std.proofs.Common.{ℕ, ◌+◌, ◌≤◌, List, drop, arith}
use Rattle.std.specs.Prelude.{Option, Some, None}
use Rattle.cells.specs.Runs.{cut}
use Rattle.lines.specs.Lines.{lines_in}
use Rattle.lines.specs.Values.{values_in}
use Rattle.lines.specs.InnerPlaces.{Stands, Finds, FoundIs, AgainIs}
use Rattle.lines.proofs.Joined.{own_more}
use Rattle.lines.proofs.again.Goals as goal

-- what is found from an index on is found from a lower one on
sooner : (block : List ℕ) (values : List (List ℕ)) (a b : ℕ) (r : Option ℕ) → b ≤ a → Finds block values a r → Finds block values b r
sooner block values a b (Some place) h f = record { from = omega (arith, f.from); stands = f.stands; are = f.are }
sooner block values a b None h f = f

after : (block : List ℕ) (at : ℕ) (s : Stands block at) (r : Option ℕ) → FoundIs block (s.end + 2) (cut block at s.colon) r → AgainIs block at r
after block at s r f =
    let others = values_in (lines_in (drop (s.end + 2) block)) (cut block at s.colon) in
    record { others = others; are = own_more block at s; found = sooner block others (s.end + 2) (at + 1) r (omega (arith, s.is.named, s.is.ordered)) f }

pub returns : goal.returns
returns c = after _ _ (record { colon = _; end = _; is = c.in_ok-line.ensures }) _ c.find.ensures
