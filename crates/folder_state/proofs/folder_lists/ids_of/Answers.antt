use Rattle.std.proofs.Common.{sym, subst}
use Rattle.std.proofs.lemmas.Bool.{false≢true}
use Rattle.crdt_ops.specs.SortedSets.{IsAscending, id_order}
use Rattle.folder_state.proofs.Listing.{ids_done}
use Rattle.folder_state.proofs.folder_lists.ids_of.Goals as goal

pub unreachable-requires : goal.unreachable-requires
unreachable-requires c =
    let all = ids_done c.args.versions.now c.loop-version.version-index c.loop-version.ids.items c.loop-version-test.false c.loop-version.invariant in
    false≢true ((c.in-Err.ensures {u = tt}).ascending.1 (subst (IsAscending id_order) (sym all) c.requires))
