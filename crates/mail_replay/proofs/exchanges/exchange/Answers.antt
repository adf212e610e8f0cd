use Rattle.std.proofs.Common.{List, ap, refl, subst, ◌∙◌}
use Rattle.std.proofs.lemmas.List.{with_items_is}
use Rattle.mail_replay.specs.Exchanges.{ExchangesOps}
use Rattle.mail_replay.specs.ScriptState.{ScriptContents}
use Rattle.mail_replay.specs.declared.script_state.ScriptReplica.{ScriptReplica}
use Rattle.mail_replay.proofs.exchanges.exchange.Goals as goal

pub returns-clause-ok : goal.returns-clause-ok
returns-clause-ok c =
    let old = c.args.setup.now in
    let new = c.exchange_all.new.replicas in
    let state : List ScriptReplica → ScriptContents = λ replicas. record { moment = old.moment; replicas = replicas; sessions = old.sessions.items } in (
      _,
      (
        c.in_ok-result.result,
        new,
        subst (λ (rs : List ScriptReplica). ExchangesOps rs c.in_ok-result.result new) c.deref_mut.ensures.value (c.in_ok-result.ensures {u = tt}),
        refl,
        ap state (with_items_is old.replicas new (c.exchange_all.auto.replicas ∙ c.deref_mut.ensures.len)),
      ),
      (c.in_ok-write_outcome.ensures {u = tt}).ok,
    )
