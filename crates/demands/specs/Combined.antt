-- What document 02, K10, says of demand 3: 'two lines a and b agree then with one line a, b'.
-- Assumes nothing.
use Rattle.std.specs.Prelude.{◌≡◌, true, List, [], ◌∷◌, ◌++◌, ℕ}
use Rattle.names.specs.Names.{same_name}
use Rattle.names.specs.Extra.{comma}
use Rattle.lines.specs.Lines.{Line}
use Rattle.lines.specs.Values.{space, trimmed, values_in}
use Rattle.stages.specs.Request.{Request, request_of}

-- two lines of one name in ls, with none of that name between them, are one line in ms, whose value is theirs, a comma and a space between them;
-- the other lines are the same
pub record Combined (ls ms : List Line) : Type 0 where
  pub before : List Line
  pub between : List Line
  pub after : List Line
  pub one : Line
  pub two : Line
  pub both : Line
  pub apart : ls ≡ before ++ (one ∷ (between ++ (two ∷ after)))
  pub together : ms ≡ before ++ (both ∷ (between ++ after))
  pub is_same_name : same_name two.name one.name ≡ true
  pub its_name : same_name both.name one.name ≡ true
  pub alone : values_in between one.name ≡ []
  pub value : trimmed both.value ≡ trimmed one.value ++ (comma ∷ space ∷ trimmed two.value)

-- a request with other lines
abbrev pub with_lines : Request → List ℕ → List ℕ → Request
with_lines q head aside = request_of q.orders q.clock q.server_key q.value q.method head aside q.path q.body q.reply
