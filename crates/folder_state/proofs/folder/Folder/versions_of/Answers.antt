use Rattle.std.proofs.Common.{◌≡◌, ◌∙◌, None, Some, sym, subst}
use Rattle.std.specs.Map.{lookup}
use Rattle.crdt_ops.specs.SortedSets.{same_id}
use Rattle.folder_state.specs.FolderTables.{AreIndexed, AreVersionsOf, FolderTables, folder_contents}
use Rattle.folder_state.proofs.FolderTablesLemmas.{no_versions, versions_are}
use Rattle.folder_state.proofs.folder.Folder.versions_of.Goals as goal

pub returns-in-Some : goal.returns-in-Some
returns-in-Some c =
    let k = c.args.self.now in
    let indexed = subst (λ (k : FolderTables). AreIndexed k.messages k.origins) c.self.view_is c.self.invariant in
    let looked_up : lookup (same_id c.args.origin.now) k.messages ≡ Some c.in-Some.versions.now = sym (λ j. lookup (same_id c.args.origin.now) (c.self.view_is j).messages) ∙ sym (c.in-Some.ensures {u = tt}).value in
    subst (AreVersionsOf (folder_contents k) c.args.origin.now) (sym c.deref.ensures.value) (versions_are k c.args.origin.now c.in-Some.versions.now indexed looked_up)

pub returns-in-None : goal.returns-in-None
returns-in-None c =
    let k = c.args.self.now in
    let indexed = subst (λ (k : FolderTables). AreIndexed k.messages k.origins) c.self.view_is c.self.invariant in
    let looked_up : lookup (same_id c.args.origin.now) k.messages ≡ None = sym (λ j. lookup (same_id c.args.origin.now) (c.self.view_is j).messages) ∙ sym (c.in-None.ensures {u = tt}).value in
    no_versions k c.args.origin.now indexed looked_up
