-- The answers of `prim_gcm_seal` and `prim_gcm_open`: SP 800-38D with no associated data.
-- Assumes nothing.
use Rattle.std.specs.Prelude.{Bool, true, false, ◌&&◌, List, [], ℕ, ◌-◌, ◌^◌, eqb, leb, length}
use Rattle.std.proofs.Math.Option.{Option, none, some}
use Rattle.gcm.specs.Gcm.{Sealed, sealed, opened}
use Rattle.primitives.specs.Answer.{Answer, answer}

-- the lengths of key, IV, text, tag and buffer that fit; 2 ^ 36 - 32 bytes is the standard's longest text
unfoldable pub sizes_fit : ℕ → ℕ → ℕ → ℕ → ℕ → Bool
sizes_fit key iv text tag out = eqb key 32 && (eqb iv 12 && (leb text (2 ^ 36 - 32) && (eqb tag 16 && eqb out text)))

-- an answer with two buffers
pub record SealAnswer : Type 0 where
  pub number : ℕ
  pub out : List ℕ
  pub tag : List ℕ

abbrev pub seal_answer : ℕ → List ℕ → List ℕ → SealAnswer
seal_answer n out tag = record { number = n; out = out; tag = tag }

abbrev pub sealing : Bool → Sealed → List ℕ → List ℕ → SealAnswer
sealing true s out tag = seal_answer 0 s.cipher s.tag
sealing false s out tag = seal_answer 1 out tag

unfoldable pub seal_call : List ℕ → List ℕ → List ℕ → List ℕ → List ℕ → SealAnswer
seal_call key iv text out tag =
    sealing (sizes_fit (length key) (length iv) (length text) (length tag) (length out)) (sealed key iv [] text) out tag

-- the text, or 2 where there is none
abbrev pub opening : Option (List ℕ) → List ℕ → Answer
opening (some text) out = answer 0 text
opening none out = answer 2 out

abbrev pub where_open : Bool → Option (List ℕ) → List ℕ → Answer
where_open true o out = opening o out
where_open false o out = answer 1 out

unfoldable pub open_call : List ℕ → List ℕ → List ℕ → List ℕ → List ℕ → Answer
open_call key iv text tag out =
    where_open (sizes_fit (length key) (length iv) (length text) (length tag) (length out)) (opened key iv [] text tag) out
