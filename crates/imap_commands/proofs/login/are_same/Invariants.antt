use Rattle.std.proofs.Common.{◌≡◌, true, false, take}
use Rattle.imap_commands.proofs.login.are_same.Given as goal

-- the octets before this place are the same, or else not all are
abbrev pub invariant-loop-at : goal.invariant-loop-at
invariant-loop-at l = (l.are_same ≡ true → take l.at l.one ≡ take l.at l.other) × (l.are_same ≡ false → l.one ≡ l.other → ⊥)
