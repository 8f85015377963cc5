-- Of a used record with a nonce the hash and the lowest bit are left to look at.
use Rattle.std.proofs.Common.{ap, ap₂, sym, ◌∙◌, ℕ, Bool, ◌&&◌}
use lib.Dec.{eqb}
use Rattle.hashes.specs.Hashes.{names_one}
use Rattle.table.proofs.Records.{used_at_lem, any_at, hash_at, lowest_at}
use Rattle.table.proofs.Fitting.{sound_usual, both_one}
use Rattle.table.proofs.rule.sound_at.Goals as goal

pub returns : goal.returns
returns c =
    let a = c.args in
    let one = both_one _ _ c.if-table-at.false in
    ap₂ (λ (s t : Bool). s && t)
    (c.names_one.ensures ∙ ap names_one (c.from.ensures ∙ sym (hash_at a.table.now a.place c.requires)))
    (ap (λ (n : ℕ). eqb n 1) (sym (lowest_at a.table.now a.place c.requires)))
    ∙ sym (sound_usual _ (used_at_lem a.table.now a.place c.requires ∙ one.0) (any_at a.table.now a.place c.requires ∙ one.1))
