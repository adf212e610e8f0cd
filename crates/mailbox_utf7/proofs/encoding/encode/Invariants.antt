use Rattle.std.proofs.Common.{◌≡◌, ℕ, List, ◌++◌}
use Rattle.mailbox_utf7.specs.ModifiedUtf7.{spelling_of}
use Rattle.mailbox_utf7.specs.Reading.{spelling_after}
use Rattle.mailbox_utf7.proofs.encoding.encode.Given as goal

abbrev pub invariant-loop-character : goal.invariant-loop-character
invariant-loop-character l =
    (rest : List ℕ) → l.output.items ++ spelling_after l.pending.items rest ≡ spelling_of (l.yielded ++ rest)
