use Rattle.std.proofs.Common.{◌≡◌, ◌+◌, ◌-◌, ◌*◌, length}
use Rattle.imap_grammar.specs.KeyReading.{below_at, keys_at, more_keys_at}
use Rattle.imap_grammar.proofs.keys.+keys.Given as goal

abbrev pub decreases-below : goal.decreases-below
decreases-below l = 5 * l.levels

abbrev pub decreases-next_key : goal.decreases-next_key
decreases-next_key l = 5 * l.levels + 1

abbrev pub decreases-spaced_key : goal.decreases-spaced_key
decreases-spaced_key l = 5 * l.levels + 1

abbrev pub decreases-keys : goal.decreases-keys
decreases-keys l = 5 * l.levels + 2

abbrev pub decreases-key_of_word : goal.decreases-key_of_word
decreases-key_of_word l = 5 * l.levels + 3

abbrev pub decreases-level : goal.decreases-level
decreases-level l = 5 * l.levels + 4

abbrev pub invariant-keys-loop : goal.invariant-keys-loop
invariant-keys-loop l = more_keys_at (length l.octets - l.counter) (below_at l.levels) l.steps.items l.rest ≡ keys_at (below_at l.levels) l.octets
