use Rattle.std.proofs.Common.{ap, sym, ◌∙◌}
use Rattle.std.specs.List.{filter_map, fold}
use Rattle.imap_types.specs.Ascending.{octet_order}
use Rattle.crdt_ops.specs.SortedSets.{insert_ordered}
use Rattle.subs_state.specs.Entries.{name_with_ids}
use Rattle.subs_state.proofs.EntryLemmas.{names_by_entries}
use Rattle.subs_state.proofs.subs_table.subscribed_names.Goals as goal

pub returns : goal.returns
returns c =
    names_by_entries c.args.tags.now.entries c.loop-key.names.items c.iter-key-items.ensures.unique
    (ap (λ es. fold (λ done name. insert_ordered octet_order name done) c.loop-key.names.items (filter_map name_with_ids es)) (sym (c.in-None.ensures {u = tt}).steps.0) ∙ c.loop-key.invariant)
