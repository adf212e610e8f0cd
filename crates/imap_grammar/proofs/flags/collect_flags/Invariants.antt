use Rattle.std.proofs.Common.{◌≡◌, drop}
use Rattle.imap_grammar.specs.Reading.{flags_of, no_flags}
use Rattle.imap_grammar.proofs.flags.collect_flags.Given as goal

abbrev pub invariant-loop-flag : goal.invariant-loop-flag
invariant-loop-flag l = flags_of l.flags (drop l.flag-index l.written) ≡ flags_of no_flags l.written
