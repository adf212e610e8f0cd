use Rattle.std.proofs.Common.{None, ◌∙◌}
use Rattle.uid_projection.specs.TagChanges.{tag_data_of}
use Rattle.uid_projection.proofs.IdLemmas.{removed_take_next}
use Rattle.uid_projection.proofs.ListLemmas.{grows_twice}
use Rattle.uid_projection.proofs.messages_ahead.MessagesAhead.take.Goals as goal

pub loop-id-preserved : goal.loop-id-preserved
loop-id-preserved c =
    let post = c.in_ok-take_one.ensures {u = tt} in
    let before = c.loop-id.invariant in (
      c.take_one.ensures.stored ∙ before.0,
      grows_twice _ c.loop-id.self.versions.entries _ before.1 post.grows,
      λ h. post.whole (before.2 h),
      λ i. removed_take_next i c.args.ids.now c.loop-id.id-index c.id-item.result (tag_data_of c.take_one.new.self i) (tag_data_of c.loop-id.self i) (tag_data_of c.args.self.now i) None c.loop-id-test.true c.id-item.is (post.tag_data i) (before.3 i),
    )
