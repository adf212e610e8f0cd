use Rattle.std.proofs.Common.{◌≡◌, ◌++◌, List, ℕ, length}
use Rattle.imap_types.specs.Escape.{escape_text}
use Rattle.imap_types.proofs.escape.push_escaped.Given as goal

-- what was written and the escape of the rest are what is to be written
abbrev pub invariant-loop-rest : goal.invariant-loop-rest
invariant-loop-rest l =
    (l.out.items ++ escape_text l.escape l.rest ≡ l.initial.out.items ++ escape_text l.escape l.octets)
    × ((more : List ℕ) × (l.out.items ≡ l.initial.out.items ++ more))

abbrev pub decreases-loop-rest : goal.decreases-loop-rest
decreases-loop-rest l = length l.rest
