use Rattle.imap_commands.proofs.PrintCopyLemmas.{copy_printable, move_printable}
use Rattle.imap_commands.proofs.printable.copies_are_printable.Goals as goal

pub returns : goal.returns
returns c = record { copied = copy_printable; moved = move_printable }
