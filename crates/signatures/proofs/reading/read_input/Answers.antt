-- Each step goes past what was read, and all steps together read what the value tells.
-- Assumes nothing.
use Rattle.std.proofs.Common.{arith}
use Rattle.signatures.proofs.Told.{Reading, digits_few, label_within, label_front, names_told, key_told, time_told}
use Rattle.signatures.proofs.reading.read_input.Goals as goal

pub overflow_add-created : goal.overflow_add-created
overflow_add-created c = omega (arith, digits_few c.read_integer-created.ensures)

pub returns : goal.returns
returns c =
    let read : Reading c.args.text.now c.label_of-label.result.now c.past-list.result.now c.past-from.result.now c.past-last.result.now
    c.end_before-close.result c.read_integer-created.result = record {
      labelled = c.label_of-label.ensures;
      past_label = c.past-list.ensures;
      list_ends = c.end_before-close.ensures;
      past_list = c.past-from.ensures;
      is_time = c.read_integer-created.ensures;
      past_time = c.past-last.ensures;
    } in
    let names = names_told read c.requires.0 c.unlist.ensures in
    let key_id = key_told read c.requires.1 c.but_last.ensures c.unescape.ensures in
    record {
      labelled = label_within read;
      few = names.0;
      short = key_id.0;
      label = label_front read;
      names = names.1;
      created = time_told read;
      key_id = key_id.1;
    }
