use Rattle.std.proofs.Common.{◌≡◌}
use Rattle.std.specs.List.{filter_map, fold}
use Rattle.imap_types.specs.Ascending.{octet_order}
use Rattle.crdt_ops.specs.SortedSets.{sorted_set, insert_ordered}
use Rattle.subs_state.specs.Entries.{name_with_ids}
use Rattle.subs_state.proofs.subs_table.subscribed_names.Given as goal

abbrev pub invariant-loop-key : goal.invariant-loop-key
invariant-loop-key l =
    fold (λ done name. insert_ordered octet_order name done) l.names.items (filter_map name_with_ids l.key-iterator)
    ≡ sorted_set octet_order (filter_map name_with_ids l.tags.entries)
