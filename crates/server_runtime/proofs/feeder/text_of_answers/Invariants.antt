use Rattle.std.proofs.Common.{◌≡◌, take}
use Rattle.std.specs.List.{flat_map}
use Rattle.imap_answers.specs.AnswerText.{text_of_answer}
use Rattle.server_runtime.proofs.feeder.text_of_answers.Given as goal

abbrev pub invariant-loop-answer : goal.invariant-loop-answer
invariant-loop-answer l = l.text.items ≡ flat_map text_of_answer (take l.answer-index l.answers)
