-- `request_of` meets its contract.
-- Assumes nothing.
use Rattle.std.proofs.Common.{ap, ◌∙◌, lit<}
use Rattle.cells.specs.Numbers.{number}
use Rattle.armor.specs.Numerals.{mask_of}
use Rattle.armor.specs.Keys.{key_t, key_lt, key_n, key_h, key_ah, key_s, key_c, key_iv, key_tag}
use Rattle.armor.proofs.Noting.{told_of, extra_told}
use Rattle.armor.proofs.contents.request_of.Goals as goal

pub returns : goal.returns
returns c =
    let single = c.requires.single in
    let extra = extra_told c.requires.notes single c.extra_span.ensures in (
      record {
        time = c.number_in.ensures ∙ ap number (told_of single key_t (lit< tt) c.text-5.ensures);
        last_time = c.number_in-2.ensures ∙ ap number (told_of single key_lt (lit< tt) c.text-6.ensures);
        nonce = c.number_in-3.ensures ∙ ap number (told_of single key_n (lit< tt) c.text-7.ensures);
        hash = c.mask_in.ensures ∙ ap mask_of (told_of single key_h (lit< tt) c.text-8.ensures);
        coverage = c.mask_in-2.ensures ∙ ap mask_of (told_of single key_ah (lit< tt) c.text-9.ensures);
        with_extra = extra.0;
        extra = extra.1;
      },
      record {
        token = c.held-fields.ensures ∙ told_of single key_s (lit< tt) c.text.ensures;
        signature = c.held-fields-2.ensures ∙ told_of single key_c (lit< tt) c.text-2.ensures;
        vector = c.whole-fields.ensures ∙ told_of single key_iv (lit< tt) c.text-3.ensures;
        tag = c.whole-fields-2.ensures ∙ told_of single key_tag (lit< tt) c.text-4.ensures;
      },
    )
