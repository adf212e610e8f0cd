use Rattle.std.proofs.Common.{◌≡◌, drop}
use Rattle.std.specs.List.{list_any}
use Rattle.imap_commands.specs.Limits.{has_many_keywords}
use Rattle.imap_commands.proofs.limits.have_many_keywords.Given as goal

abbrev pub invariant-loop-kind : goal.invariant-loop-kind
invariant-loop-kind l = list_any has_many_keywords (drop l.kind-index l.kinds) ≡ list_any has_many_keywords l.kinds
