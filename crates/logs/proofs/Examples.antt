-- Lines by the definition, each computed.
-- Assumes nothing.
use mathlib.Core.Path.{◌≡◌, refl}
use mathlib.Core.Bool.{true, false}
use Rattle.cells.specs.Decimal.{decimal, decimal_to}
use Rattle.cells.specs.Runs.{same}
use Rattle.cells.specs.Spans.{all}
use Rattle.cells.specs.Text.{codes}
use Rattle.logs.specs.Line.{◌then◌, one_or_more, other, digit, request_after, size, common_log, line}
use Rattle.logs.specs.Counts.{lines, first_of, under, times, each, counts, sum}
use Rattle.logs.specs.Printed.{row, status_row, rows, printed}

good : line 200 (codes "a - b [c d] \"GET \\\" /\" 200 12") ≡ true
unfolding ◌then◌ one_or_more other digit request_after size common_log line decimal decimal_to same all codes
good = refl

broken : line 200 (codes "a - b [c d] \"GET \\\" 200 12") ≡ false
unfolding ◌then◌ one_or_more other digit request_after size common_log line decimal decimal_to same all codes
broken = refl

-- the report of document 02
sample :
    printed (counts (lines (codes "a - - [d] \"GET /\" 200 12\nb - - [d] \"GET /\" 403 -\na - - [d] \"GET /\" 200 5\nbroken")))
    ≡ codes "status lines\n200 2\n403 1\nunread 1\ntotal 4\n"
unfolding ◌then◌ one_or_more other digit request_after size common_log line decimal decimal_to same all codes under first_of lines times each counts sum row status_row rows printed
sample = refl
