use Rattle.std.proofs.Common.{subst}
use Rattle.folder_state.specs.FolderTables.{AreIndexed, FolderTables}
use Rattle.folder_state.proofs.FolderTablesLemmas.{ids_are}
use Rattle.folder_state.proofs.folder.Folder.count.Goals as goal

pub returns-clause-tags : goal.returns-clause-tags
returns-clause-tags c = λ i. ids_are c.args.self.now (subst (λ (k : FolderTables). AreIndexed k.messages k.origins) c.self.view_is c.self.invariant) i
