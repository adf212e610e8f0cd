use Rattle.std.proofs.Common.{◌≡◌, ◌++◌, take, drop}
use Rattle.imap_types.specs.Ascending.{octet_order}
use Rattle.crdt_ops.specs.SortedSets.{insert_ordered}
use Rattle.crdt_ops.proofs.name_lists.place_of.Given as goal

abbrev pub invariant-loop-at : goal.invariant-loop-at
invariant-loop-at l = insert_ordered octet_order l.name l.names ≡ take l.at l.names ++ insert_ordered octet_order l.name (drop l.at l.names)
