use Rattle.imap_grammar.proofs.Scans.{after-short}
use Rattle.imap_grammar.specs.Reading.{after}
use Rattle.imap_grammar.proofs.scan.skip.Goals as goal

pub returns-in-empty : goal.returns-in-empty
returns-in-empty c = after-short c.args.expected.now c.loop-octet.rest.now c.loop-octet.octet-index (after c.args.expected.now c.args.octets.now) c.loop-octet-test.true c.in-empty.len_below c.loop-octet.invariant
