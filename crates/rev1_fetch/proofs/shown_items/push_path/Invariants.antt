use Rattle.std.proofs.Common.{◌≡◌, ◌++◌, not, take}
use Rattle.rev1_fetch.specs.ShownItems.{path_text}
use Rattle.rev1_fetch.proofs.ShownLemmas.{is_none}
use Rattle.rev1_fetch.proofs.shown_items.push_path.Given as goal

abbrev pub invariant-loop-number : goal.invariant-loop-number
invariant-loop-number l =
    (l.is_later ≡ not (is_none (take l.number-index l.path)))
    × (l.line.items ≡ l.initial.line.items ++ path_text (take l.number-index l.path))
