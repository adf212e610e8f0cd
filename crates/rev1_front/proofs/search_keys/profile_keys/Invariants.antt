use Rattle.std.proofs.Common.{◌≡◌, ◌-◌, length}
use Rattle.rev1_front.specs.SearchReading.{keys_read, profile_keys}
use Rattle.rev1_front.proofs.KeyLemmas.{joined_keys}
use Rattle.rev1_front.proofs.search_keys.profile_keys.Given as goal

abbrev pub invariant-loop-turn : goal.invariant-loop-turn
invariant-loop-turn l =
    joined_keys l.keys.text.items l.keys.asks_sent (keys_read (length l.octets - l.turn) l.days l.rest) ≡ profile_keys l.days l.octets
