use Rattle.std.proofs.Common.{◌≡◌, ◌+◌, ◌<◌, ◌++◌, ◌∷◌, [], ℕ, List, length, sym, ap, subst, ◌∙◌, arith}
use mathlib.Core.List.{append_assoc, append-nil}
use Rattle.std.proofs.Math.ListN.{length-append}
use Rattle.sha_2.specs.InnerTaken.{TookIn}
use Rattle.sha_2.proofs.Streaming.{took_in_turn}
use Rattle.names.specs.Extra.{comma}
use Rattle.lines.specs.Values.{space, joined}
use Rattle.lines.specs.InnerPlaces.{front_at, own_at}
use Rattle.lines.proofs.Joined.{own_alone, own_then, own_begins}
use Rattle.signed.proofs.absorb_lines.Goals as goal
use Rattle.signed.proofs.absorb_lines.Goals.{In-Some}

pub absorb-requires : goal.absorb-requires
absorb-requires c = omega (arith, own_begins _ _ c.requires.0, ap length c.value_at.ensures, c.requires.1)

pub loop-next-init : goal.loop-next-init
loop-next-init c = (
  c.requires.0,
  front_at c.args.block.now c.args.at,
  subst (λ (m : List ℕ). TookIn c.args.state.now m c.absorb.new.self) c.value_at.ensures c.absorb.ensures,
  λ rest e. e,
)

-- what is joined, up to the line that is found and from there on
found : (c : In-Some)
    → joined (own_at c.args.block.now c.args.at) ≡ c.loop-next.invariant.1 ++ (comma ∷ space ∷ joined (own_at c.args.block.now c.in-Some.next))
found c = c.loop-next.invariant.3 _ (own_then _ _ _ c.in-Some.ensures)

size : (c : In-Some) → c.loop-next.state.length + 2 + length (joined (own_at c.args.block.now c.in-Some.next)) < 2305843009213693952
size c =
    omega (arith, c.requires.1, c.loop-next.invariant.2.counted, ap length (found c), length-append c.loop-next.invariant.1 (comma ∷ space ∷ joined (own_at c.args.block.now c.in-Some.next)))

pub absorb-requires-in-Some : goal.absorb-requires-in-Some
absorb-requires-in-Some c = omega (arith, size (goal.at.absorb-requires-in-Some c).In-Some)

pub absorb-requires-in-Some-2 : goal.absorb-requires-in-Some-2
absorb-requires-in-Some-2 c =
    omega (arith, size (goal.at.absorb-requires-in-Some-2 c).In-Some, c.absorb-in-Some.ensures.counted, own_begins _ _ c.in-Some.ensures.found.stands, ap length c.value_at-in-Some.ensures)

pub loop-next-preserved : goal.loop-next-preserved
loop-next-preserved c =
    let m = c.loop-next.invariant.1 in
    let front = front_at c.args.block.now c.in-Some.next in
    let value = subst (λ (l : List ℕ). TookIn c.absorb-in-Some.new.self l c.absorb-in-Some-2.new.self) c.value_at-in-Some.ensures c.absorb-in-Some-2.ensures in
    let sign = took_in_turn _ _ _ m (comma ∷ space ∷ []) c.loop-next.invariant.2 c.absorb-in-Some.ensures in (
      c.in-Some.ensures.found.stands,
      (m ++ (comma ∷ space ∷ [])) ++ front,
      took_in_turn _ _ _ (m ++ (comma ∷ space ∷ [])) front sign value,
      λ rest e. found (goal.at.loop-next-preserved c).In-Some ∙ ap (λ (l : List ℕ). m ++ (comma ∷ space ∷ l)) e ∙ simp append_assoc,
    )

pub returns : goal.returns
returns c =
    let m = c.loop-next.invariant.1 in
    let all = c.loop-next.invariant.3 [] (own_alone _ _ c.in_default.ensures ∙ sym (append-nil _)) ∙ append-nil m in
    subst (λ (l : List ℕ). TookIn c.args.state.now l c.loop-next.state) (sym all) c.loop-next.invariant.2
