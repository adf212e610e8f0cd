use Rattle.std.proofs.Common.{rules, ◌≡◌, ◌∙◌, ◌+◌, cond, ap}
use Rattle.crdt_ops.specs.SortedSets.{same_id}
use Rattle.folder_state.specs.OpRoom.{count_at}
use Rattle.folder_state.proofs.Counting.{counted_more, on_ok_by}
use Rattle.folder_state.proofs.Versions.{id_is}
use Rattle.folder_state.proofs.tag_counts.count_id.Goals as goal

pub returns-in-Some : goal.returns-in-Some
returns-in-Some c =
    let old = c.args.counts.now.entries in
    let name = c.args.id.now in
    let more : c.in-Some.more ≡ count_at name old + 1 = search rules in
    on_ok_by c.put_id.result (λ h n. h n ∙ ap (λ m. cond (same_id n name) m (count_at n old)) more ∙ counted_more (same_id n name) (count_at name old) (count_at n old) (λ t. ap (λ m. count_at m old) (id_is n name t))) c.put_id.ensures
