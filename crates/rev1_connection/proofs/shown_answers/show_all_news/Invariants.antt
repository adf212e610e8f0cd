use Rattle.std.proofs.Common.{◌≡◌, ◌++◌, take}
use Rattle.std.specs.List.{flat_map}
use Rattle.rev1_connection.specs.ShownReplies.{news_text}
use Rattle.rev1_connection.proofs.shown_answers.show_all_news.Given as goal

abbrev pub invariant-loop-answer : goal.invariant-loop-answer
invariant-loop-answer l = l.text.items ≡ l.fn.text.items ++ flat_map news_text (take l.answer-index l.answers)
