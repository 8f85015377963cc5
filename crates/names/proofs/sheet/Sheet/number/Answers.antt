use Rattle.std.proofs.Common.{rules, arith, sym, ap, ◌∙◌}
use Rattle.names.specs.Names.{same_name}
use Rattle.names.proofs.Sought.{sought_first, sought_found, sought_less, sought_next}
use Rattle.names.proofs.sheet.Sheet.number.Goals as goal

pub loop-entry-init : goal.loop-entry-init
loop-entry-init c =
    let sheet = c.requires.are in
    (omega (arith, sheet.few, (sought_first _ sheet c.key.ensures).within), λ ns on. sought_first _ on c.key.ensures)

pub returns-then-same_name : goal.returns-then-same_name
returns-then-same_name c = λ ns on. sought_found on (c.loop-entry.invariant.1 ns on) (search rules) (ap (same_name _) (sym c.name_from.ensures) ∙ sym c.same_name.ensures ∙ c.if-same_name.true)

pub loop-entry-smaller : goal.loop-entry-smaller
loop-entry-smaller c = let sheet = c.requires.are in sought_less sheet (c.loop-entry.invariant.1 _ sheet) (search rules)

pub loop-entry-preserved : goal.loop-entry-preserved
loop-entry-preserved c =
    let sheet = c.requires.are in
    let less = sought_less sheet (c.loop-entry.invariant.1 _ sheet) (search rules) in
    (omega arith, λ ns on. sought_next on (c.loop-entry.invariant.1 ns on) (search rules) (ap (same_name _) (sym c.name_from.ensures) ∙ sym c.same_name.ensures ∙ c.if-same_name.false))
