use Rattle.std.proofs.Common.{◌≡◌, map, take}
use Rattle.replica_lock.specs.FetchAnswers.{answer_of}
use Rattle.replica_lock.proofs.fetch_answers.lines_of.Given as goal

abbrev pub invariant-loop-answer : goal.invariant-loop-answer
invariant-loop-answer l = map answer_of l.lines.items ≡ take l.answer-index l.answers
