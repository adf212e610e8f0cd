use Rattle.std.proofs.Common.{◌≡◌, take}
use Rattle.rev1_rename.specs.Exchanges.{names_of_answers}
use Rattle.rev1_rename.proofs.reply_facts.names_of_answers.Given as goal

abbrev pub invariant-loop-answer : goal.invariant-loop-answer
invariant-loop-answer l = l.names.items ≡ names_of_answers (take l.answer-index l.answers)
