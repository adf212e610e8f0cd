use Rattle.folder_state.specs.FolderTables.{folder_contents}
use Rattle.folder_state.proofs.FolderTablesLemmas.{version_exists}
use Rattle.folder_state.proofs.folder.Folder.has_versions.Goals as goal

pub returns-in-Some : goal.returns-in-Some
returns-in-Some c = version_exists (folder_contents c.args.self.now) c.args.origin.now c.in-Some.field-0.now (c.in-Some.ensures {u = tt})

pub returns-in-None : goal.returns-in-None
returns-in-None c = c.in-None.ensures {u = tt}
