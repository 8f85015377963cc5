-- What enters the names that are left then enters all, and there is room for them.
use Rattle.std.proofs.Common.{◌≡◌, ◌+◌, ℕ, List, length}
use Rattle.names.specs.Extra.{extra_names}
use Rattle.names.specs.Covered.{chosen}
use Rattle.names.specs.InnerWalk.{names_left}
use Rattle.names.specs.InnerSheet.{Enters}
use Rattle.names.proofs.Entering.{ComeTo}
use Rattle.names.proofs.sheet.enter.Given as goal

abbrev pub invariant-loop-name : goal.invariant-loop-name
invariant-loop-name l =
    (length l.entries ≡ 192)
    × ComeTo l.run (names_left l.name-iterator) l.base l.start
    × (l.entered + length (chosen l.left (names_left l.name-iterator)) ≡ l.count + length (chosen l.wanted (extra_names l.run)))
    × ((after : List ℕ) → Enters l.run (chosen l.left (names_left l.name-iterator)) l.base l.entered l.entries after → Enters l.run (chosen l.wanted (extra_names l.run)) l.base l.count l.initial.entries after)
