use Rattle.imap_commands.proofs.FlagSetLemmas.{added_flag, added_keyword}
use Rattle.imap_commands.proofs.flag_sets.added_flags_are_the_union.Goals as goal

pub returns : goal.returns
returns c = record { system = added_flag; keywords = added_keyword }
