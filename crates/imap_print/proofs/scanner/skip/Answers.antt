use Rattle.std.proofs.Common.{sym, ◌∙◌}
use Rattle.imap_print.proofs.ReadingLemmas.{after-missing}
use Rattle.imap_print.proofs.scanner.skip.Goals as goal

pub returns-in-empty : goal.returns-in-empty
returns-in-empty c = sym (after-missing c.loop-octet.octet-index c.args.prefix.now c.loop-octet.rest.now c.loop-octet-test.true c.in-empty.len_below) ∙ c.loop-octet.invariant
