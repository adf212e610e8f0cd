use Rattle.std.proofs.Common.{◌≡◌, List, rules, ap, map, slice_set, subst, ◌∙◌}
use Rattle.std.proofs.lemmas.List.{with_items_is}
use Rattle.mail_replay.proofs.ScriptStateLemmas.{slice_get_some, some_same}
use Rattle.mail_replay.specs.Restarts.{session_after_restart}
use Rattle.mail_replay.specs.ScriptState.{ScriptContents}
use Rattle.mail_replay.specs.declared.script_state.ScriptReplica.{ScriptReplica}
use Rattle.mail_replay.specs.declared.script_state.ScriptSession.{ScriptSession}
use Rattle.world_core.specs.Restarts.{restarted_node}
use Rattle.mail_replay.proofs.script_restart.restart.Goals as goal

pub returns-clause-ok : goal.returns-clause-ok
returns-clause-ok c =
    let old = c.args.setup.now in
    let replica = c.index_mut-replica.result.now in
    let here = slice_get_some _ _ _ _ c.deref.ensures.value c.in-Some.ensures.within c.index.ensures in
    let there = slice_get_some _ _ _ _ c.deref.ensures.value c.in-Some.ensures.within c.index_mut-replica.ensures.value in
    let state : ScriptReplica → List ScriptSession → ScriptContents = λ next sessions. record { moment = old.moment; replicas = slice_set old.replicas.items c.in-Some.place next; sessions = sessions } in
    let ended = map (session_after_restart c.args.name) old.sessions.items in (
      c.in-Some.place,
      replica,
      c.in-Ok.restarted,
      (search rules, there),
      subst (λ (r : ScriptReplica). c.in-Ok.restarted.state ≡ restarted_node r.node.state) (some_same _ _ _ here there) c.in-Ok.ensures.0,
      ap (state (record replica { node = c.replace.new.dest })) (with_items_is old.sessions c.end_sessions.new.sessions (c.end_sessions.auto.sessions ∙ c.deref_mut.ensures.len) ∙ c.end_sessions.ensures ∙ ap (map (session_after_restart c.args.name)) c.deref_mut.ensures.value)
          ∙ ap (λ (next : ScriptReplica). state next ended) (ap (λ node. record replica { node = node }) c.replace.ensures.after),
    )
