use Rattle.std.proofs.Common.{◌≡◌, map, take}
use Rattle.replica_lock.specs.FetchAnswers.{answer_of}
use Rattle.replica_lock.proofs.fetch_answers.are_lines_of.Given as goal

abbrev pub invariant-loop-i : goal.invariant-loop-i
invariant-loop-i l = map answer_of (take l.i l.lines) ≡ take l.i l.answers
