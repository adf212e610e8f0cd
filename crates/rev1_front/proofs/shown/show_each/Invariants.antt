use Rattle.std.proofs.Common.{◌≡◌, ◌++◌, ℕ, List, take}
use Rattle.rev1_front.specs.Showing.{EachIsShown}
use Rattle.rev1_front.proofs.shown.show_each.Given as goal

abbrev pub invariant-loop-answer : goal.invariant-loop-answer
invariant-loop-answer l =
    (given : List ℕ) × EachIsShown l.mode l.form (take l.answer-index l.answers) given
    × (l.text.items ≡ l.initial.text.items ++ given)
