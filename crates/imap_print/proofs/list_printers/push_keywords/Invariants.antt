use Rattle.std.proofs.Common.{take}
use Rattle.imap_print.specs.Appending.{AppendsToList}
use Rattle.imap_print.proofs.list_printers.push_keywords.Given as goal

abbrev pub invariant-loop-keyword : goal.invariant-loop-keyword
invariant-loop-keyword l = AppendsToList l.fn.is_first (take l.keyword-index l.keywords) l.initial.out.items l.out.items l.none_yet
