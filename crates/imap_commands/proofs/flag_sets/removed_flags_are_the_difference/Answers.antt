use Rattle.imap_commands.proofs.FlagSetLemmas.{removed_flag, removed_keyword}
use Rattle.imap_commands.proofs.flag_sets.removed_flags_are_the_difference.Goals as goal

pub returns : goal.returns
returns c = record { system = removed_flag; keywords = removed_keyword }
