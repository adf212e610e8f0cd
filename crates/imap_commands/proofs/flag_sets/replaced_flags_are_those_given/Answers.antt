use Rattle.imap_commands.proofs.FlagSetLemmas.{replaced_flags}
use Rattle.imap_commands.proofs.flag_sets.replaced_flags_are_those_given.Goals as goal

pub returns : goal.returns
returns c = replaced_flags
