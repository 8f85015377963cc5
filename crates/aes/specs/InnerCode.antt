-- Names for what the code holds: a state as its four columns, and steps of a column.
-- Assumes nothing.
use Rattle.std.specs.Prelude.{List, [], ℕ, ◌+◌, ◌%◌, get_or}
use Rattle.aes.specs.Sbox.{sub_byte}
use Rattle.aes.specs.Cipher.{state, word_of, mixed}

abbrev pub listed : List (List ℕ) → List ℕ
listed s = state (λ r c. get_or (get_or s c []) r 0)

-- column c after the substitution and the row shifts
unfoldable pub shifted_word : List (List ℕ) → ℕ → List ℕ
shifted_word s c = word_of (λ r. sub_byte (get_or (get_or s ((c + r) % 4) []) r 0))

-- one column mixed
unfoldable pub mix_word : List ℕ → List ℕ
mix_word t = word_of (λ r. mixed (get_or t r 0) (get_or t ((r + 1) % 4) 0) (get_or t ((r + 2) % 4) 0) (get_or t ((r + 3) % 4) 0))
