use Rattle.std.proofs.Common.{◌≡◌, ◌↔◌, Option, None, Some, sym, subst}
use Rattle.std.specs.Option.{option_copied, option_map}
use Rattle.tags_clocks.specs.declared.id.OpId.{OpId}
use Rattle.merge_laws.specs.Orders.{IsIn}
use Rattle.crdt_ops.specs.Sets.{MessageTagData}
use Rattle.imap_types.specs.Unions.{version_ids}
use Rattle.folder_state.specs.FolderTables.{FolderTables, tag_data_in, versions_in}
use Rattle.folder_state.proofs.FolderTablesLemmas.{versions_by}
use Rattle.folder_state.proofs.after_ops.has_lasting_version.Goals as goal

abbrev Listed : OpId → Option FolderTables → Type 0
Listed o table = (i : OpId) → IsIn i (version_ids (versions_in table o)) ↔ (option_map (λ (b : MessageTagData). b.origin) (tag_data_in table i) ≡ Some o)

pub returns-in-Some-clause-versions : goal.returns-in-Some-clause-versions
returns-in-Some-clause-versions c =
    let k = c.in-Some.stored.now in
    subst (λ h. Listed c.args.origin.now (option_copied h)) (sym c.in-Some.is) (versions_by k.messages k.origins c.versions_at.ensures.indexed c.args.origin.now)

pub returns-in-None-clause-versions : goal.returns-in-None-clause-versions
returns-in-None-clause-versions c =
    subst (λ h. Listed c.args.origin.now (option_copied h)) (sym c.in-None.is) (λ i. (λ h. absurd h, λ h. absurd (let k : ◌≡◌ {A = Option OpId} None (Some c.args.origin.now) = h in cc)))
