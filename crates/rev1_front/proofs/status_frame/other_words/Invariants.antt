use Rattle.std.proofs.Common.{◌≡◌, ◌≤◌, ◌-◌, ◌++◌, ℕ, false, List, take, drop}
use Rattle.std.specs.List.{list_any}
use Rattle.rev1_front.specs.StatusForms.{AreOthers, words_of}
use Rattle.rev1_front.proofs.StatusLemmas.{is_space}
use Rattle.rev1_front.proofs.status_frame.other_words.Given as goal

abbrev pub invariant-loop-end : goal.invariant-loop-end
invariant-loop-end l =
    (words : List (List ℕ)) × AreOthers words l.others.text.items l.others.has_recent l.others.is_empty
    × (words_of l.text ≡ words ++ words_of (drop l.start l.text))
    × (l.start ≤ l.end)
    × (list_any is_space (take (l.end - l.start) (drop l.start l.text)) ≡ false)
