-- Where the list is the one asked for, the parameters in the value are those of the base.
-- Assumes nothing.
use Rattle.std.proofs.Common.{sym, ap, ◌∙◌, arith, List, ℕ, ◌+◌, ◌&&◌, length}
use mathlib.Core.Path.{ap₂}
use lib.ListN.{length-drop}
use Rattle.cells.specs.Runs.{same}
use Rattle.signatures.specs.Base.{base_with, code_of}
use Rattle.signatures.specs.Fields.{signature_value}
use Rattle.carrier.specs.InnerSteps.{asked_in}
use Rattle.carrier.proofs.Parts.{granted, components, fielded, agreed, sized_of}
use Rattle.carrier.proofs.verify.agrees.Goals as goal

pub code-code-requires : goal.code-code-requires
code-code-requires c =
    let z = sized_of c.args.asked.now in (
      z.names,
      components (granted (asked_in c.args.asked.now) c.requires.1),
      omega (arith, ap length c.past-params.ensures, length-drop (length c.args.asked.now.label.now + 1) c.args.values.now.input.now, c.args.values.now.input_fits),
      z.key,
    )

pub bears-requires : goal.bears-requires
bears-requires c = (sized_of c.args.asked.now).label

pub returns : goal.returns
returns c =
    let a = asked_in c.args.asked.now in
    ap₂ ◌&&◌ (c.same.ensures ∙ ap (same a.names) c.requires.0.names)
    (c.bears.ensures ∙ ap (λ (d : List ℕ). same (signature_value a.label d) c.args.values.now.signature.now)
    (c.code-code.ensures ∙ ap (λ (ps : List ℕ). code_of a.key (base_with a.message a.names ps)) c.past-params.ensures))
    ∙ sym (agreed (fielded a c.args.values.now.input.now c.args.values.now.signature.now c.requires.2))
