-- The byte's bit marks it.
use Rattle.std.proofs.Common.{arith}
use borrow.Author.Tests.{lt-ltb, le-ltb}
use Rattle.names.proofs.Tokens.{marked_token}
use Rattle.names.proofs.token.token_byte.Goals as goal

pub returns-then-b-lt64 : goal.returns-then-b-lt64
returns-then-b-lt64 c = simp (lt-ltb _ _ c.if-b-lt64.true) at (marked_token c.args.b (omega arith))

pub returns-then-b-lt128 : goal.returns-then-b-lt128
returns-then-b-lt128 c = simp (le-ltb _ _ c.if-b-lt64.false, lt-ltb _ _ c.if-b-lt128.true) at (marked_token c.args.b (omega arith))

pub returns : goal.returns
returns c = simp (le-ltb _ _ c.if-b-lt64.false, le-ltb _ _ c.if-b-lt128.false) at (marked_token c.args.b (omega arith))
