-- The text that opening left is looked into, where it left one.
use Rattle.std.proofs.Common.{◌≡◌, true, false, sym, ap, subst, ◌∙◌, [], length, take, replicate, rules}
use Rattle.std.proofs.Math.Option.{Option}
use Rattle.std.specs.Prelude.{is_ok}
use Rattle.gcm.specs.Gcm.{opened}
use Rattle.token.specs.Token.{Token, token_in, opened_token}
use Rattle.token.specs.InnerHeld.{Unseals}
use Rattle.token.proofs.Reading.{from_text, from_wrong, unseals_none}
use Rattle.token.proofs.unseal.Goals as goal

pub returns-in_err-ok : goal.returns-in_err-ok
unfolding opened_token
returns-in_err-ok c =
    let wrong : is_ok c.unseal.result ≡ false = search rules in
    rw c.from_residual.ensures
    (unseals_none (from_wrong (opened c.args.server_key.now c.args.iv.now [] c.args.s.now c.args.tag.now) (rw c.unseal.ensures.0 at wrong)))

pub returns : goal.returns
unfolding opened_token
returns c =
    let a = c.args in
    let o = opened a.server_key.now a.iv.now [] a.s.now a.tag.now in
    let right : is_ok c.unseal.result ≡ true = search rules in
    subst (λ (t : Option Token). Unseals t c.token_in.result)
    (ap token_in c.unseal.ensures.1 ∙ sym (from_text o (take (length a.s.now) (replicate 118 0)) (rw c.unseal.ensures.0 at right)))
    c.token_in.ensures
