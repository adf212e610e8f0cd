use Rattle.std.proofs.Common.{◌≡◌, ap, ◌∙◌}
use Rattle.folder_state.specs.Contents.{Contents, effect_of, no_contents}
use Rattle.subs_state.specs.Subscriptions.{Subscriptions, effect_of as sub_effect, no_subscriptions}
use Rattle.replica_cases.proofs.PairLemmas.{first_folded}
use Rattle.replica_cases.proofs.uids.setup.folders.Goals as goal

pub returns : goal.returns
returns c =
    let list = c.args.inbox.now.received.applied in
    record {
      sound = c.op_list-applied.ensures.sound;
      causal = c.op_list-applied.ensures.lawful.causal;
      made = ap (λ (p : Contents × Subscriptions). p.0) c.value.ensures.meaning ∙ first_folded effect_of sub_effect (no_contents, no_subscriptions) list;
    }
