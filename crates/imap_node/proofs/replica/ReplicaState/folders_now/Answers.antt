use Rattle.std.proofs.Common.{ap, subst, ◌∙◌}
use Rattle.folder_state.specs.Contents.{IsMadeBy, effect_of, no_contents}
use Rattle.folder_state.specs.Tables.{contents_of}
use Rattle.merge_laws.proofs.Pairs.{fold_pair}
use Rattle.subs_state.specs.Subscriptions as subscriptions
use Rattle.imap_node.specs.Nodes.{ReplicaWithRoom}
use Rattle.imap_node.proofs.replica.ReplicaState.folders_now.Goals as goal

pub returns : goal.returns
returns c =
    subst (λ (r : ReplicaWithRoom). IsMadeBy (contents_of c.value.result.now.first) r.applied) c.self.view_is
    (record {
      sound = c.op_list-list.ensures.sound;
      causal = c.op_list-list.ensures.lawful.causal;
      made = ap (λ p. p.0) (c.value.ensures.meaning ∙ fold_pair effect_of subscriptions.effect_of no_contents subscriptions.no_subscriptions c.self.inside.inbox.received.applied);
    })
