use Rattle.std.proofs.Common.{◌≡◌, ◌-◌}
use Rattle.imap_print.specs.Reading.{words_at, with_prefix}
use Rattle.imap_print.proofs.scanner.words.Given as goal

abbrev pub invariant-loop-index : goal.invariant-loop-index
invariant-loop-index l = with_prefix l.parsed.items (words_at (l.count - l._index) l.none_yet l.rest) ≡ words_at l.count l.fn.is_first l.bytes
