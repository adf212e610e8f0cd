use Rattle.imap_commands.proofs.PrintReportLemmas.{capability_printable, enable_printable, idle_printable, logout_printable, namespace_printable}
use Rattle.imap_commands.proofs.printable.constant_answers_are_printable.Goals as goal

pub returns : goal.returns
returns c = record { enable = enable_printable; capability = capability_printable; namespace = namespace_printable; logout = logout_printable; idle = idle_printable }
