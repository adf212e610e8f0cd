use Rattle.std.proofs.Common.{◌≡◌, drop}
use Rattle.imap_query.specs.Tests.{set_names}
use Rattle.imap_query.proofs.keys.set_names.Given as goal

abbrev pub invariant-loop-range : goal.invariant-loop-range
invariant-loop-range l = set_names l.top (drop l.range-index l.set) l.number ≡ set_names l.top l.set l.number
