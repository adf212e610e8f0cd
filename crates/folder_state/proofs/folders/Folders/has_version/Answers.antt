use Rattle.std.specs.Option.{option_copied}
use Rattle.folder_state.specs.Tables.{contents_of}
use Rattle.folder_state.proofs.VersionLemmas.{has_version_by_set, has_version_by_tables}
use Rattle.folder_state.proofs.folders.Folders.has_version.Goals as goal

pub returns-clause-contents : goal.returns-clause-contents
returns-clause-contents c = has_version_by_tables (contents_of c.args.self.now) c.args.folder.now c.args.origin.now (option_copied c.folder.result) c.folder.ensures.tag_data c.has_versions.result c.has_versions.ensures

pub returns-clause-set : goal.returns-clause-set
returns-clause-set c = λ ops m.
    let a = returns-clause-contents c in
    let b = has_version_by_set (contents_of c.args.self.now) ops c.args.folder.now c.args.origin.now m in
    (λ t. b.0 (a.0 t), λ t. a.1 (b.1 t))
