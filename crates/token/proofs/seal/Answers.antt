-- The text, sealed.
use Rattle.std.proofs.Common.{◌≡◌, ap, ◌∙◌, List, ℕ, [], arith, rules}
use Rattle.gcm.specs.Gcm.{sealed}
use Rattle.gcm.proofs.Opening.{length_crypted}
use Rattle.token.specs.Token.{Token, token_text, sealed_token}
use Rattle.token.proofs.Text.{length_text}
use Rattle.token.proofs.seal.Goals as goal

pub returns : goal.returns
unfolding sealed_token sealed
returns c =
    let key = c.args.server_key.now in
    let iv = c.args.iv.now in
    let token : Token = record { key = c.args.key.now; id = c.args.id.now; expiry = c.args.expiry.0 } in
    let size = length_text token (record { key_size = search rules; id_some = c.requires.0; id_fits = c.requires.1; in_range = search rules }) in
    let text : c.as_slice.result.now ≡ token_text token = c.as_slice.ensures ∙ c.text_of-text.ensures in
    let long = length_crypted key iv (token_text token) in
    record {
      text = c.of.ensures ∙ c.seal.ensures.0 ∙ ap (λ (t : List ℕ). (sealed key iv [] t).cipher) text;
      some = omega (arith, size.0, long);
      fits = omega (arith, size.1, long);
      tag = c.seal.ensures.1 ∙ ap (λ (t : List ℕ). (sealed key iv [] t).tag) text;
    }
