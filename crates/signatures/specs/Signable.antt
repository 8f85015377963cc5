-- What may be signed: names of components with printable values, a time of at most 15 digits, and a printable key id.
-- Assumes nothing.
use Rattle.std.specs.Prelude.{ℕ, ◌≤◌, ◌≡◌, List, true}
use Rattle.cells.specs.Spans.{all}
use Rattle.names.specs.Extra.{extra_names as listed}
use Rattle.structured.specs.Texts.{printable}
use Rattle.structured.specs.Reading.{last_integer}
use Rattle.signatures.specs.Components.{Message, all_components, all_printable}

pub record Signable (m : Message) (names : List ℕ) (created : ℕ) (key_id : List ℕ) : Type 0 where
  pub components : all_components (listed names) ≡ true
  pub values : all_printable m (listed names) ≡ true
  pub time : created ≤ last_integer
  pub identified : all printable key_id ≡ true
