use Rattle.std.proofs.Common.{◌≡◌, take}
use Rattle.rev1_front.specs.SentDays.{sent_days}
use Rattle.rev1_front.proofs.search_days.sent_days.Given as goal

abbrev pub invariant-loop-answer : goal.invariant-loop-answer
invariant-loop-answer l = l.days.items ≡ sent_days (take l.answer-index l.answers)
