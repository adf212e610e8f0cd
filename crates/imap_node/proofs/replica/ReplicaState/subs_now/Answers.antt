use Rattle.std.proofs.Common.{ap, subst, ◌∙◌}
use Rattle.folder_state.specs.Contents as folders
use Rattle.merge_laws.proofs.Pairs.{fold_pair}
use Rattle.subs_state.specs.Subscriptions.{IsMadeBy, effect_of, no_subscriptions}
use Rattle.subs_state.specs.Table.{subscriptions_of}
use Rattle.imap_node.specs.Nodes.{ReplicaWithRoom}
use Rattle.imap_node.proofs.replica.ReplicaState.subs_now.Goals as goal

pub returns : goal.returns
returns c =
    subst (λ (r : ReplicaWithRoom). IsMadeBy (subscriptions_of c.value.result.now.second) r.applied) c.self.view_is
    (record {
      sound = c.op_list-list.ensures.sound;
      causal = c.op_list-list.ensures.lawful.causal;
      made = ap (λ p. p.1) (c.value.ensures.meaning ∙ fold_pair folders.effect_of effect_of folders.no_contents no_subscriptions c.self.inside.inbox.received.applied);
    })
