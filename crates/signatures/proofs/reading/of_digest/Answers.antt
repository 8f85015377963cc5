-- A text that encodes no bytes encodes no 32.
-- Assumes nothing.
use Rattle.std.proofs.Common.{◌≡◌, refl, ◌∙◌, Some}
use Rattle.std.specs.Option.{option_eq}
use lib.Dec.{eqb}
use Rattle.base_64.specs.Decoding.{Decoding, nothing, bytes, decoded}
use Rattle.base_64.specs.InnerAnswers.{size_of, measured}
use Rattle.signatures.specs.Fields.{of_digest}
use Rattle.signatures.proofs.reading.of_digest.Goals as goal

by_size : (d : Decoding) → option_eq eqb (size_of d) (Some 32) ≡ of_digest d
by_size nothing = refl
by_size (bytes bs) = refl

pub returns : goal.returns
unfolding measured
returns c = c.eq.ensures ∙ rw c.measure.ensures (by_size (decoded c.args.text.now))
