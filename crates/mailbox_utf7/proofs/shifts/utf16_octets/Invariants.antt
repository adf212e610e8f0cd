use Rattle.std.proofs.Common.{◌≡◌, ◌++◌, drop}
use Rattle.mailbox_utf7.specs.ModifiedUtf7.{utf16_octets}
use Rattle.mailbox_utf7.proofs.shifts.utf16_octets.Given as goal

abbrev pub invariant-loop-character : goal.invariant-loop-character
invariant-loop-character l =
    l.octets.items ++ utf16_octets (drop l.character-index l.characters) ≡ utf16_octets l.characters
