use Rattle.std.proofs.Common.{◌≡◌, ◌-◌, true}
use Rattle.imap_print.specs.Reading.{with_prefix}
use Rattle.imap_print.specs.ReadingAnswers.{fields_at}
use Rattle.imap_print.proofs.item_readers.fields.Given as goal

abbrev pub invariant-loop-index : goal.invariant-loop-index
invariant-loop-index l = with_prefix l.names.items (fields_at (l.count - l._index) l.none_yet l.rest) ≡ fields_at l.count true l.bytes
