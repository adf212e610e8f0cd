use Rattle.imap_commands.proofs.FlagSetLemmas.{changed_spelled}
use Rattle.imap_commands.proofs.flag_sets.changed_flags_are_spelled.Goals as goal

pub returns : goal.returns
returns c = changed_spelled
