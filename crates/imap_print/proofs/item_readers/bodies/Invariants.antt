use Rattle.std.proofs.Common.{◌≡◌, ◌-◌}
use Rattle.imap_print.specs.Reading.{with_prefix}
use Rattle.imap_print.specs.ReadingAnswers.{bodies_at}
use Rattle.imap_print.proofs.item_readers.bodies.Given as goal

abbrev pub invariant-loop-index : goal.invariant-loop-index
invariant-loop-index l = with_prefix l.parts.items (bodies_at (l.count - l._index) l.none_yet l.rest) ≡ bodies_at l.count l.fn.is_first l.bytes
