use Rattle.std.proofs.Common.{true}
use Rattle.imap_commands.proofs.PrintViews.{replay_numbered, sync_numbered}
use Rattle.imap_commands.proofs.printable.views_stay_numbered.Goals as goal

pub returns : goal.returns
returns c = record { replay = replay_numbered; sync = λ kind rows view. sync_numbered kind true rows view }
