use Rattle.std.proofs.Common.{◌≡◌, ◌+◌, drop}
use Rattle.rev1_fetch.specs.FetchArguments.{word_end}
use Rattle.rev1_fetch.proofs.items_text.word_end.Given as goal

abbrev pub invariant-loop-octet : goal.invariant-loop-octet
invariant-loop-octet l =
    (l.len ≡ l.octet-index)
    × (l.len + word_end (drop l.len l.octets) ≡ word_end l.octets)
