-- What `carrier_verify` answers: document 02, K13.
-- Assumes nothing.
use Rattle.std.specs.Prelude.{ℕ, List, Bool, not, cond, ◌&&◌, eqb, leb, ltb, length}
use Rattle.cells.specs.Runs.{same}
use Rattle.cells.specs.Numbers.{bytes_of}
use Rattle.signatures.specs.Fields.{label_in, covered_in, time_in, key_id_in, good_input, good_signature}
use Rattle.carrier.specs.Asked.{Asked, asked_fits, asked_number, Answer, answer}
use Rattle.carrier.specs.Sign.{signature_of}

unfoldable pub verify_fits : Asked → List ℕ → List ℕ → List ℕ → Bool
verify_fits a input signature created =
    asked_fits a && (leb (length input) 4096 && (leb (length signature) 4096 && eqb (length created) 8))

-- what is refused of the two fields' values, the list and the code apart
unfoldable pub told_number : Asked → List ℕ → List ℕ → ℕ
told_number a input signature =
    cond (not (good_input input && good_signature signature)) 2
    (cond (not (same a.label (label_in input) && (same a.label (label_in signature) && same a.key_id (key_id_in input)))) 3 0)

-- the lower of two numbers that tell of a refusal; 0 tells of none
abbrev pub first_refusal : ℕ → ℕ → ℕ
first_refusal m n = cond (eqb m 0) n (cond (eqb n 0) m (cond (ltb n m) n m))

-- the list is the one asked for, and the signature that of the base, whatever the list of the value is
unfoldable pub agrees : Asked → List ℕ → List ℕ → Bool
agrees a input signature = same a.names (covered_in input) && same (signature_of a (time_in input)) signature

-- what is refused, sizes apart
unfoldable pub judged_number : Asked → List ℕ → List ℕ → ℕ
judged_number a input signature =
    let refused = first_refusal (asked_number a) (told_number a input signature) in
    cond (eqb refused 0) (cond (agrees a input signature) 0 6) refused

unfoldable pub verify_number : Asked → List ℕ → List ℕ → List ℕ → ℕ
verify_number a input signature created = cond (not (verify_fits a input signature created)) 1 (judged_number a input signature)

abbrev pub verify_answer : ℕ → ℕ → List ℕ → Answer
verify_answer number time created = cond (eqb number 0) (answer 0 (bytes_of 8 time)) (answer number created)

unfoldable pub verified : Asked → List ℕ → List ℕ → List ℕ → Answer
verified a input signature created = verify_answer (verify_number a input signature created) (time_in input) created
