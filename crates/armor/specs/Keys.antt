-- The keys that have a meaning, and the rule for what each holds: document 01, The X-S-Armor value, and document 02, K2, for c.
-- A key goes by its place in the list `keys`: `key_names` of proofs/Keys.antt says which name each number has, and `names_exactly` that no other name has it.
-- Assumes nothing.
use Rattle.std.specs.Prelude.{Bool, true, cond, ◌&&◌, ◌||◌, List, [], ◌∷◌, ℕ, suc, eqb, leb, length, get_or}
use Prim.Native.String.{String}
use Rattle.cells.specs.Runs.{same}
use Rattle.cells.specs.Text.{codes}
use Rattle.armor.specs.Numerals.{is_number, is_mask}

pub data Rule : Type 0 where
  number : Rule
  mask : Rule
  sized : ℕ → ℕ → Rule
  either : ℕ → ℕ → Rule
  free : Rule

-- whether decoded bytes keep a rule
unfoldable pub obeys : Rule → List ℕ → Bool
obeys number bs = is_number bs
obeys mask bs = is_mask bs
obeys (sized low high) bs = leb low (length bs) && leb (length bs) high
obeys (either a b) bs = eqb (length bs) a || eqb (length bs) b
obeys free bs = true

pub record Key : Type 0 where
  pub name : List ℕ
  pub rule : Rule

abbrev pub key : String → Rule → Key
key text rule = record { name = codes text; rule = rule }

unfoldable pub keys : List Key
keys =
    key "t" number
    ∷ key "lt" number
    ∷ key "n" number
    ∷ key "h" mask
    ∷ key "ah" mask
    ∷ key "r" mask
    ∷ key "s" (sized 1 118)
    ∷ key "c" (either 32 64)
    ∷ key "iv" (sized 12 12)
    ∷ key "tag" (sized 16 16)
    ∷ key "eah" free
    ∷ []

-- their places, and the number of every other key
abbrev pub key_t : ℕ
key_t = 0

abbrev pub key_lt : ℕ
key_lt = 1

abbrev pub key_n : ℕ
key_n = 2

abbrev pub key_h : ℕ
key_h = 3

abbrev pub key_ah : ℕ
key_ah = 4

abbrev pub key_r : ℕ
key_r = 5

abbrev pub key_s : ℕ
key_s = 6

abbrev pub key_c : ℕ
key_c = 7

abbrev pub key_iv : ℕ
key_iv = 8

abbrev pub key_tag : ℕ
key_tag = 9

abbrev pub key_eah : ℕ
key_eah = 10

abbrev pub other_key : ℕ
other_key = 11

-- the place of a name in a list of keys, which is the list's length where the name is not in it
unfoldable pub rank_of : List Key → List ℕ → ℕ
rank_of [] name = 0
rank_of (k ∷ ks) name = cond (same name k.name) 0 (suc (rank_of ks name))

unfoldable pub key_number : List ℕ → ℕ
key_number name = rank_of keys name

unfoldable pub name_at : ℕ → List ℕ
name_at k = (get_or keys k (key "" free)).name

-- the rule of a key by its place; every other key's content is free
unfoldable pub rule_at : ℕ → Rule
rule_at k = (get_or keys k (key "" free)).rule

unfoldable pub rule_of : List ℕ → Rule
rule_of name = rule_at (key_number name)
