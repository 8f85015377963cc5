-- All bytes are of a token exactly if those at the front that are end where the name does.
-- Assumes nothing.
use Rattle.std.proofs.Common.{◌≡◌, arith}
use Rattle.cells.specs.Spans.{leading}
use Rattle.cells.proofs.Spans.{all_test}
use Rattle.names.specs.Names.{token_byte, is_token}
use Rattle.names.proofs.token.is_token.Goals as goal

pub returns : goal.returns
unfolding is_token
returns c =
    let ends : c.token_end.result ≡ leading token_byte c.args.name.now = omega (arith, c.token_end.ensures.is) in
    simp (ends, all_test)
