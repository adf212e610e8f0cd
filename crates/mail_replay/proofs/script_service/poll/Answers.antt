use Rattle.std.proofs.Common.{rules, refl, take}
use Rattle.mail_replay.proofs.ScriptStateLemmas.{on_ok, slice_get_some}
use Rattle.mail_replay.proofs.ConversationLemmas.{not_idling}
use Rattle.mail_replay.specs.Lines.{IsFeedable}
use Rattle.mail_replay.specs.ScriptState.{script_contents_of}
use Rattle.mail_replay.specs.Transcript.{transcript}
use Rattle.mail_replay.proofs.script_service.poll.Goals as goal

pub returns-clause-ok : goal.returns-clause-ok
returns-clause-ok c =
    let t : IsFeedable (script_contents_of c.args.setup.now) c.args.name.now = record {
      place = c.in-Some.place;
      session = c.index-session.result.now;
      at = c.in-Some-replica_place.at;
      replica = c.index_mut.result.now;
      connection = c.in-Some-connection.connection;
      session_place_is = search rules;
      session_is = slice_get_some _ _ _ _ c.deref.ensures.value c.in-Some.ensures.within c.index-session.ensures;
      replica_place_is = search rules;
      replica_is = slice_get_some _ _ _ _ c.deref-2.ensures.value c.in-Some-replica_place.ensures.within c.index_mut.ensures.value;
      connection_is = search rules;
    } in
    on_ok c.poll_node.result (λ h. (transcript c.args.name.now h.0, (t, h.0, c.poll_node.new.node, h.1, h.2, refl, search rules), h.3)) c.poll_node.ensures.ok

pub returns-clause-bad : goal.returns-clause-bad
returns-clause-bad c =
    let t : IsFeedable (script_contents_of c.args.setup.now) c.args.name.now = record {
      place = c.in-Some.place;
      session = c.index-session.result.now;
      at = c.in-Some-replica_place.at;
      replica = c.index_mut.result.now;
      connection = c.in-Some-connection.connection;
      session_place_is = search rules;
      session_is = slice_get_some _ _ _ _ c.deref.ensures.value c.in-Some.ensures.within c.index-session.ensures;
      replica_place_is = search rules;
      replica_is = slice_get_some _ _ _ _ c.deref-2.ensures.value c.in-Some-replica_place.ensures.within c.index_mut.ensures.value;
      connection_is = search rules;
    } in
    λ e. let b = c.poll_node.ensures.bad e in (not_idling _ _ t b.0, b.1)

pub returns-clause-memory : goal.returns-clause-memory
returns-clause-memory c =
    let t : IsFeedable (script_contents_of c.args.setup.now) c.args.name.now = record {
      place = c.in-Some.place;
      session = c.index-session.result.now;
      at = c.in-Some-replica_place.at;
      replica = c.index_mut.result.now;
      connection = c.in-Some-connection.connection;
      session_place_is = search rules;
      session_is = slice_get_some _ _ _ _ c.deref.ensures.value c.in-Some.ensures.within c.index-session.ensures;
      replica_place_is = search rules;
      replica_is = slice_get_some _ _ _ _ c.deref-2.ensures.value c.in-Some-replica_place.ensures.within c.index_mut.ensures.value;
      connection_is = search rules;
    } in
    λ e. let h = c.poll_node.ensures.memory e in (transcript c.args.name.now (take h.1 h.0), (t, h.0, h.1, h.2, refl), h.3)
