use Rattle.std.proofs.Common.{refl}
use Rattle.folder_state.specs.Tables.{contents_of}
use Rattle.folder_state.proofs.VersionLemmas.{messages_by_set}
use Rattle.folder_state.proofs.folders.Folders.messages.Goals as goal

pub returns-clause-contents : goal.returns-clause-contents
returns-clause-contents c = c.in_ok-messages.ensures {u = tt} (contents_of c.args.self.now) c.args.folder.now c.folder.ensures.tag_data (λ i. refl)

pub returns-clause-set : goal.returns-clause-set
returns-clause-set c = λ ops m. messages_by_set (contents_of c.args.self.now) ops c.args.folder.now c.in_ok-messages.messages.items m (returns-clause-contents c)
