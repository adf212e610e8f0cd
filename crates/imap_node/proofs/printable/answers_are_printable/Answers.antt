use Rattle.imap_node.proofs.PrintingLemmas.{command_answered, refusal_answerable, line_answered, poll_answered, refusal_printable}
use Rattle.imap_node.proofs.printable.answers_are_printable.Goals as goal

pub returns : goal.returns
returns c = record { commands = command_answered; lines = line_answered; polls = poll_answered; refusals = refusal_printable; left = refusal_answerable }
