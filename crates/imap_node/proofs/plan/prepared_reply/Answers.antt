use Rattle.imap_node.specs.InputEffects.{effect_from}
use Rattle.imap_node.proofs.plan.prepared_reply.Goals as goal

pub returns-clause-answered : goal.returns-clause-answered
returns-clause-answered c =
    let sent = c.in_ok-answers.ensures {u = tt} in
    record {
      effect = effect_from c.args.session.now.state c.in_ok-effect.effect;
      taken = c.in_ok-effect.ensures {u = tt};
      answers = sent.answers;
      silent = sent.silent;
      becomes = λ i. record { state = sent.state_change i; condstore = c.condstore_after-condstore.ensures i; idling = c.in_ok-idling.ensures {u = tt} i };
    }

pub returns-clause-can : goal.returns-clause-can
returns-clause-can c = (c.in_ok-answers.ensures {u = tt}).can
