use Rattle.std.proofs.Common.{◌≡◌, take}
use Rattle.imap_types.proofs.keywords.are_same.Given as goal

abbrev pub invariant-loop-i : goal.invariant-loop-i
invariant-loop-i l = take l.i l.words ≡ take l.i l.others
