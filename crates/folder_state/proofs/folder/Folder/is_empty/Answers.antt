use Rattle.std.proofs.Common.{◌≡◌, ◌↔◌, IsTrue, length, sym, subst, ◌∙◌}
use Rattle.std.proofs.lemmas.Bool.{false≢true}
use Rattle.folder_state.specs.FolderTables.{AreIndexed, FolderTables}
use Rattle.folder_state.proofs.FolderTablesLemmas.{emptied, is_empty_by_tables, tagged}
use Rattle.folder_state.proofs.folder.Folder.is_empty.Goals as goal

pub returns-then-is_empty-clause-ids : goal.returns-then-is_empty-clause-ids
returns-then-is_empty-clause-ids c =
    emptied c.args.self.now c.is_empty-then-is_empty.result
    (subst (λ (k : FolderTables). length k.tags ≡ 0) c.self.view_is (c.is_empty.ensures.0 c.if-is_empty.true))
    (subst (λ (k : FolderTables). IsTrue c.is_empty-then-is_empty.result ↔ (length k.origins ≡ 0)) c.self.view_is c.is_empty-then-is_empty.ensures)

pub returns-then-is_empty-clause-tags : goal.returns-then-is_empty-clause-tags
returns-then-is_empty-clause-tags c = is_empty_by_tables c.args.self.now (subst (λ (k : FolderTables). AreIndexed k.messages k.origins) c.self.view_is c.self.invariant) _ (returns-then-is_empty-clause-ids c)

pub returns-else-is_empty-clause-ids : goal.returns-else-is_empty-clause-ids
returns-else-is_empty-clause-ids c =
    c.if-is_empty.false ∙ tagged c.args.self.now (λ h. false≢true (sym c.if-is_empty.false ∙ c.is_empty.ensures.1 (subst (λ (k : FolderTables). length k.tags ≡ 0) (sym c.self.view_is) h)))

pub returns-else-is_empty-clause-tags : goal.returns-else-is_empty-clause-tags
returns-else-is_empty-clause-tags c = is_empty_by_tables c.args.self.now (subst (λ (k : FolderTables). AreIndexed k.messages k.origins) c.self.view_is c.self.invariant) _ (returns-else-is_empty-clause-ids c)
