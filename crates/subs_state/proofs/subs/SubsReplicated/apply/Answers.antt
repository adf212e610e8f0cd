use Rattle.std.proofs.Common.{not, ◌&&◌, ◌||◌, ap, ◌∙◌}
use Rattle.crdt_ops.specs.declared.op.Op.{Op}
use Rattle.crdt_ops.specs.Tags.{SubscriptionTag, adds, removes}
use Rattle.subs_state.specs.Entries.{room_of, tag_in}
use Rattle.subs_state.proofs.TableLemmas.{room_after}
use Rattle.subs_state.proofs.subs.SubsReplicated.apply.Goals as goal

pub returns-clause-meaning : goal.returns-clause-meaning
returns-clause-meaning c = λ k n i. (
    c.add_tag_of.ensures.listed n i
    ∙ ap (λ b. adds (SubscriptionTag n i) c.op-op.result.now || b) (c.remove_tags_of.ensures.listed n i)
    ∙ ap (λ (o : Op). adds (SubscriptionTag n i) o || (not (removes (SubscriptionTag n i) o) && tag_in c.args.self.now.tags.entries n i)) c.op-op.ensures.op
    ) k

pub returns-clause-others : goal.returns-clause-others
returns-clause-others c = λ rest p. record {
  room = λ n.
      room_after n c.args.op.now c.op-op.result.now rest (room_of n c.args.self.now.tags.entries) (room_of n c.remove_tags_of.new.tags.entries) (room_of n c.add_tag_of.new.tags.entries)
      c.op-op.ensures.op (p.room n) (c.remove_tags_of.ensures.room n) (c.add_tag_of.ensures.room n);
}
