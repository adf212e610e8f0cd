use Rattle.std.proofs.Common.{◌≡◌, ◌≤◌, ◌+◌, ◌-◌, length, drop}
use Rattle.rev1_front.specs.SearchReading.{texts_len}
use Rattle.rev1_front.proofs.search_keys.texts_end.Given as goal

abbrev pub invariant-loop-turn : goal.invariant-loop-turn
invariant-loop-turn l =
    (l.end ≤ length l.octets)
    × (l.end + texts_len (l.count - l.turn) (drop l.end l.octets) ≡ l.start + texts_len l.count (drop l.start l.octets))
