use Rattle.std.proofs.Common.{rules, not}
use Rattle.std.proofs.lemmas.Fn.{filter_same}
use Rattle.crdt_ops.specs.SortedSets.{same_id}
use Rattle.imap_types.specs.declared.version.Version.{Version}
use Rattle.folder_state.proofs.tag_removal.forget_version.Goals as goal

pub returns-clause-items : goal.returns-clause-items
returns-clause-items c =
    filter_same _ (λ (version : Version). not (same_id c.args.id.now version.id)) _ (λ x b f' r. search rules) _ _ c.retain.ensures.filtered
