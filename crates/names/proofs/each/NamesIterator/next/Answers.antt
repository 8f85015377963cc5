use Rattle.std.proofs.Common.{rules, List, ℕ, ◌<◌, ◌∷◌, take, length, ap, sym, ◌≡◌, ◌∙◌, arith}
use Rattle.names.specs.InnerWalk.{left_of, names_left}
use Rattle.names.proofs.Walk.{left_from, left_first}
use Rattle.names.proofs.each.NamesIterator.next.Goals as goal

first : (c : goal.After-self-1) → names_left c.args.self.now ≡ take c.name_end-end.result c.in_ok-rest.rest.now ∷ left_of c.get-self.result
first c =
    ap left_of c.in_ok-rest.was ∙ left_first _ _ c.name_end-end.ensures
    ∙ ap (λ (ns : List (List ℕ)). take c.name_end-end.result c.in_ok-rest.rest.now ∷ ns) (sym (left_from _ _ _ c.get-self.ensures.lookup.0))

pub returns-clause-steps : goal.returns-clause-steps
returns-clause-steps c = first c

pub returns-clause-goes : goal.returns-clause-goes
returns-clause-goes c =
    let fewer : length (left_of c.get-self.result) < length (names_left c.args.self.now) = omega (arith, ap length (first c)) in search rules
