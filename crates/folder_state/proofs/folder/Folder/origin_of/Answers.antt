use Rattle.std.proofs.Common.{◌∙◌, sym, subst}
use Rattle.std.specs.Map.{lookup}
use Rattle.crdt_ops.specs.SortedSets.{same_id}
use Rattle.folder_state.specs.FolderTables.{AreIndexed, FolderTables}
use Rattle.folder_state.proofs.FolderTablesLemmas.{origin_is}
use Rattle.folder_state.proofs.folder.Folder.origin_of.Goals as goal

pub returns : goal.returns
returns c =
    let indexed = subst (λ (k : FolderTables). AreIndexed k.messages k.origins) c.self.view_is c.self.invariant in
    c.copied.ensures ∙ c.get.ensures.value
    ∙ (λ j. lookup (same_id c.args.id.now) (c.self.view_is j).origins)
    ∙ sym (origin_is c.args.self.now.messages c.args.self.now.origins indexed c.args.id.now)
