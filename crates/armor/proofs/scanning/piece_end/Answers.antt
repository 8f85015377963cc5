-- `piece_end` meets its contract.
-- Assumes nothing.
use Rattle.std.proofs.Common.{rules, ℕ, not, eqb}
use Rattle.armor.specs.Pieces.{semicolon}
use Rattle.armor.proofs.Scan.{ends}
use Rattle.armor.proofs.scanning.piece_end.Goals as goal

pub returns : goal.returns
returns c = ends _ _ _ (c.end.ensures (λ (b : ℕ). not (eqb b semicolon)) (λ b r small e. search rules))
