use Rattle.std.proofs.Common.{◌≡◌, take}
use Rattle.imap_answers.proofs.fetch_items.are_same_parts.Given as goal

abbrev pub invariant-loop-i : goal.invariant-loop-i
invariant-loop-i l = take l.i l.parts ≡ take l.i l.others
