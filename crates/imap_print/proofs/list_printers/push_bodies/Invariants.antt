use Rattle.std.proofs.Common.{take, map}
use Rattle.imap_print.specs.Appending.{AppendsToList}
use Rattle.imap_answers.specs.AnswerText.{body_text}
use Rattle.imap_print.proofs.list_printers.push_bodies.Given as goal

abbrev pub invariant-loop-part : goal.invariant-loop-part
invariant-loop-part l = AppendsToList l.fn.is_first (map body_text (take l.part-index l.parts)) l.initial.out.items l.out.items l.none_yet
