use Rattle.std.proofs.Common.{ltb, rules}
use Rattle.std.proofs.lemmas.Fn.{always_returns_same}
use Rattle.std.proofs.lemmas.List.Sorted.{IsPartitionedBy-ltb}
use Rattle.session_view.specs.declared.view_entry.ViewEntry.{ViewEntry}
use Rattle.session_view.proofs.PlaceLemmas.{count_at, uids_ordered}
use Rattle.session_view.proofs.set_places.count_below.Goals as goal

pub returns : goal.returns
returns c =
    let view = c.args.view.now.items in
    let parts_around = IsPartitionedBy-ltb (λ (e : ViewEntry). e.uid) _ c.args.uid (uids_ordered 1 view c.requires) in
    let point = c.partition_point.ensures.point (λ i e. ltb e.uid c.args.uid) (always_returns_same _ _ _ (λ a r f called. search rules)) parts_around in
    count_at c.args.uid 1 view c.partition_point.result c.partition_point.ensures.within c.requires (λ k d from below. point.pass k d below, λ k d from below. point.fail k d from below)
