use Rattle.std.proofs.Common.{◌≡◌, ◌++◌, take, flat_map}
use Rattle.imap_answers.specs.Strings.{escaped_octet}
use Rattle.imap_print.proofs.strings.push_escaped.Given as goal

abbrev pub invariant-loop-octet : goal.invariant-loop-octet
invariant-loop-octet l = l.out.items ≡ l.initial.out.items ++ flat_map escaped_octet (take l.octet-index l.string)
