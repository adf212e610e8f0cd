use Rattle.std.proofs.Common.{◌++◌}
use Rattle.std.specs.Option.{option_copied}
use Rattle.folder_state.specs.FolderTables.{versions_in}
use Rattle.folder_state.specs.AfterOps.{contents_after}
use Rattle.folder_state.specs.Tables.{contents_of}
use Rattle.folder_state.proofs.LaterLemmas.{made_after, version_left}
use Rattle.folder_state.proofs.VersionLemmas.{has_version_by_set}
use Rattle.folder_state.proofs.folders.Folders.has_version_after.Goals as goal

pub returns-clause-contents : goal.returns-clause-contents
returns-clause-contents c =
    let table = option_copied c.folder.result in
    let left = c.has_version_after_all.ensures in
    version_left (contents_of c.args.self.now) c.args.folder.now table c.folder.ensures.tags c.folder.ensures.tag_data c.args.ops.now c.args.origin.now (versions_in table c.args.origin.now) left.versions c.has_version_after_all.result left.left

pub returns-clause-set : goal.returns-clause-set
returns-clause-set c = λ list m s d.
    let now = contents_of c.args.self.now in
    let a = returns-clause-contents c in
    let b = has_version_by_set (contents_after now c.args.ops.now) (list ++ c.args.ops.now) c.args.folder.now c.args.origin.now (made_after now list c.args.ops.now m s d) in
    (λ t. b.0 (a.0 t), λ t. a.1 (b.1 t))
