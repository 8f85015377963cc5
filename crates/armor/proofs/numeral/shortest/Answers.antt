-- `shortest` meets its contract.
-- Assumes nothing.
use Rattle.std.proofs.Common.{rules, ℕ, ◌-◌, ◌≤◌, eqb, length, ap, ◌∙◌, zero-add, arith, length-take, length-drop, take_all, drop}
use Rattle.armor.proofs.Numerals.{shortest_cut}
use Rattle.armor.proofs.numeral.shortest.Goals as goal

pub slice_bounds-result-count : goal.slice_bounds-result-count
slice_bounds-result-count c =
    let zeros = c.end-zeros.ensures (λ (b : ℕ). eqb b 0) (λ b r small e. search rules) in
    omega (arith, zeros.within, length-take (length c.args.run.now - 1) c.args.run.now)

pub slice_bounds-result-start : goal.slice_bounds-result-start
slice_bounds-result-start c =
    let zeros = c.end-zeros.ensures (λ (b : ℕ). eqb b 0) (λ b r small e. search rules) in
    let within : c.end-zeros.result ≤ length c.args.run.now = omega (arith, zeros.within, length-take (length c.args.run.now - 1) c.args.run.now) in
    search rules

pub returns : goal.returns
returns c =
    let zeros = c.end-zeros.ensures (λ (b : ℕ). eqb b 0) (λ b r small e. search rules) in
    let run = c.args.run.now in
    record {
      is =
          take_all _ _ (omega (arith, length-drop c.end-zeros.result run))
          ∙ ap (λ (i : ℕ). drop i run) (zeros.is ∙ zero-add _)
          ∙ shortest_cut run c.requires;
      within = omega (arith, length-take (length run - c.end-zeros.result) (drop c.end-zeros.result run));
    }
