-- `is_number` meets its contract: what does not fit four bytes is no number.
-- Assumes nothing.
use mathlib.Core.Path.{sym, ap, ◌∙◌}
use lib.ListN.{length, replicate}
use Rattle.armor.specs.Numerals.{is_numeral}
use Rattle.armor.specs.Keys.{number}
use Rattle.armor.proofs.Texts.{unfilled, filled, filled_within, number_room, obeys_run, number_test, front_taken}
use Rattle.armor.proofs.key.is_number.Goals as goal

pub returns-in_default : goal.returns-in_default
returns-in_default c =
    let d = c.decode in
    sym (unfilled number c.args.text.now (replicate 4 0) d.new.out d.result number_room c.in_default.not-Ok d.ensures)

pub slice_bounds-out-end : goal.slice_bounds-out-end
slice_bounds-out-end c = filled_within (filled _ (replicate 4 0) c.decode.new.out c.in-Ok.n _ c.in-Ok.is c.decode.ensures)

pub slice_bounds-is_numeral-end : goal.slice_bounds-is_numeral-end
slice_bounds-is_numeral-end c =
    let f = filled _ (replicate 4 0) c.decode.new.out c.in-Ok.n _ c.in-Ok.is c.decode.ensures in
    f.size ∙ sym (ap length (front_taken f.run (replicate 4 0) _ f.front f.size))

pub returns : goal.returns
returns c =
    let f = filled _ (replicate 4 0) c.decode.new.out c.in-Ok.n _ c.in-Ok.is c.decode.ensures in
    c.is_numeral.ensures
    ∙ ap (is_numeral 4) (front_taken f.run (replicate 4 0) _ f.front f.size)
    ∙ sym (obeys_run number _ f.run f.is ∙ number_test f.run)
