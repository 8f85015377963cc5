-- `reading::compare` meets its contract.
-- Assumes nothing.
use Rattle.std.proofs.Common.{true, false, sym, ap, ◌∙◌, length}
use Rattle.names.proofs.Sizes.{short_extra}
use Rattle.stages.specs.Parts.{fields_of}
use Rattle.stages.proofs.Covering.{no_token, unnoted, compared}
use Rattle.stages.proofs.reading.compare.Goals as goal

pub as_ordered-same-requires : goal.as_ordered-same-requires
as_ordered-same-requires c =
    (c.requires.0, c.requires.1, ap length (c.as_slice.ensures ∙ c.requires.2.signature), short_extra _ c.args.ordered.now.covered.good)

pub returns-then-not-is_token-clause-told : goal.returns-then-not-is_token-clause-told
returns-then-not-is_token-clause-told c o by clock server_key path body reply = no_token _ (sym c.is_token.ensures ∙ c.if-not-is_token.true)

pub returns-in-Err-clause-told : goal.returns-in-Err-clause-told
returns-in-Err-clause-told c o by clock server_key path body reply =
    unnoted _ _ by.covered _ (sym c.is_token.ensures ∙ c.if-not-is_token.false) _ c.in-Err.ensures.told _ c.from.ensures

pub returns-then-not-same-clause-told : goal.returns-then-not-same-clause-told
unfolding fields_of
returns-then-not-same-clause-told c o by clock server_key path body reply =
    compared _ _ by.covered _ (sym c.is_token.ensures ∙ c.if-not-is_token.false) c.in_default.ensures.told _ by.hashes false
    (sym c.if-not-same.true ∙ c.as_ordered-same.ensures)

pub returns-else-not-same-clause-told : goal.returns-else-not-same-clause-told
unfolding fields_of
returns-else-not-same-clause-told c o by clock server_key path body reply =
    compared _ _ by.covered _ (sym c.is_token.ensures ∙ c.if-not-is_token.false) c.in_default.ensures.told _ by.hashes true
    (sym c.if-not-same.false ∙ c.as_ordered-same.ensures)
