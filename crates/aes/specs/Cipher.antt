-- FIPS 197, 3.4, 5.1 and 5.2: the cipher with fourteen rounds, and the expansion of a key of eight words.
-- Assumes nothing.
use Rattle.std.specs.Prelude.{Bool, true, false, List, [], ◌∷◌, ◌++◌, ℕ, zero, suc, ◌+◌, ◌-◌, ◌*◌, ◌/◌, ◌%◌, eqb, get_or}
use Rattle.std.specs.Int.Bits.{bit_xor}
use Rattle.aes.specs.Field.{times, power_of_x}
use Rattle.aes.specs.Sbox.{sub_byte}

-- 3.4: the state is 16 bytes; row r of column c is byte r + 4 c. Rows and columns count modulo 4.
abbrev pub entry : List ℕ → ℕ → ℕ → ℕ
entry s r c = get_or s (r % 4 + 4 * (c % 4)) 0

abbrev pub column : (ℕ → ℕ → ℕ) → ℕ → List ℕ → List ℕ
column f c rest = f 0 c ∷ f 1 c ∷ f 2 c ∷ f 3 c ∷ rest

-- the state whose entry in row r of column c is f r c
abbrev pub state : (ℕ → ℕ → ℕ) → List ℕ
state f = column f 0 (column f 1 (column f 2 (column f 3 [])))

-- 5.1.1
unfoldable pub sub_bytes : List ℕ → List ℕ
sub_bytes s = state (λ r c. sub_byte (entry s r c))

-- 5.1.2
unfoldable pub shift_rows : List ℕ → List ℕ
shift_rows s = state (λ r c. entry s r (c + r))

-- 5.1.3: one byte of a column, from the bytes of its row and of the three rows below
unfoldable pub mixed : ℕ → ℕ → ℕ → ℕ → ℕ
mixed a b c d = bit_xor (bit_xor (bit_xor (times a 2) (times b 3)) c) d

unfoldable pub mix_columns : List ℕ → List ℕ
mix_columns s = state (λ r c. mixed (entry s r c) (entry s (r + 1) c) (entry s (r + 2) c) (entry s (r + 3) c))

-- byte r of word i of a schedule
unfoldable pub scheduled : List ℕ → ℕ → ℕ → ℕ
scheduled w i r = get_or w (4 * i + r) 0

-- 5.1.4
unfoldable pub add_round_key : List ℕ → List ℕ → ℕ → List ℕ
add_round_key s w round = state (λ r c. bit_xor (entry s r c) (scheduled w (4 * round + c) r))

-- 5.1: a full round, and what the full rounds 1 to n make of the state s
unfoldable pub full_round : List ℕ → List ℕ → ℕ → List ℕ
full_round s w round = add_round_key (mix_columns (shift_rows (sub_bytes s))) w round

unfoldable pub rounds : List ℕ → List ℕ → ℕ → List ℕ
rounds w s zero = s
rounds w s (suc n) = full_round (rounds w s n) w (suc n)

-- 5.1: the cipher of a block under the schedule w
unfoldable pub cipher : List ℕ → List ℕ → List ℕ
cipher w block = add_round_key (shift_rows (sub_bytes (rounds w (add_round_key block w 0) 13))) w 14

-- 5.2: a word is 4 bytes
abbrev pub word_of : (ℕ → ℕ) → List ℕ
word_of f = f 0 ∷ f 1 ∷ f 2 ∷ f 3 ∷ []

unfoldable pub word_at : List ℕ → ℕ → List ℕ
word_at w i = word_of (scheduled w i)

unfoldable pub xor_word : List ℕ → List ℕ → List ℕ
xor_word s t = word_of (λ r. bit_xor (get_or s r 0) (get_or t r 0))

unfoldable pub rot_word : List ℕ → List ℕ
rot_word t = word_of (λ r. get_or t ((r + 1) % 4) 0)

unfoldable pub sub_word : List ℕ → List ℕ
sub_word t = word_of (λ r. sub_byte (get_or t r 0))

unfoldable pub rcon : ℕ → List ℕ
rcon j = power_of_x (j - 1) ∷ 0 ∷ 0 ∷ 0 ∷ []

abbrev pub pick : Bool → List ℕ → List ℕ → List ℕ
pick true s t = s
pick false s t = t

-- what is added to word i - 8 to give word i, from the word t before
unfoldable pub temp : List ℕ → ℕ → List ℕ
temp t i = pick (eqb (i % 8) 0) (xor_word (sub_word (rot_word t)) (rcon (i / 8))) (pick (eqb (i % 8) 4) (sub_word t) t)

-- word i, from the words before
unfoldable pub next_word : List ℕ → ℕ → List ℕ
next_word w i = xor_word (word_at w (i - 8)) (temp (word_at w (i - 1)) i)

-- the key and n words more
unfoldable pub expanded : List ℕ → ℕ → List ℕ
expanded key zero = key
expanded key (suc n) = expanded key n ++ next_word (expanded key n) (8 + n)

-- the schedule: 60 words
unfoldable pub key_expansion : List ℕ → List ℕ
key_expansion key = expanded key 52

-- one block under a key of 32 bytes
unfoldable pub aes256 : List ℕ → List ℕ → List ℕ
aes256 key block = cipher (key_expansion key) block
