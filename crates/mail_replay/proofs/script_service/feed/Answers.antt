use Rattle.std.proofs.Common.{rules, Err, List, ◌++◌, length, ap, refl, sym, ◌∙◌}
use Rattle.std.proofs.Math.Seq.{take-length}
use Rattle.mail_replay.proofs.PartLemmas.{whole_talk}
use Rattle.mail_replay.proofs.ScriptStateLemmas.{slice_get_some}
use Rattle.mail_replay.specs.Lines.{IsFeedable}
use Rattle.mail_replay.specs.Transcript.{transcript}
use Rattle.mail_replay.specs.ScriptState.{script_contents_of}
use Rattle.imap_connection.specs.declared.turn.Turn.{Turn}
use Rattle.mail_replay.proofs.script_service.feed.Goals as goal

pub returns-in_err-session-clause-memory : goal.returns-in_err-session-clause-memory
returns-in_err-session-clause-memory c =
    let t : IsFeedable (script_contents_of c.args.setup.now) c.args.name.now = record {
      place = c.in-Some.place;
      session = c.index_mut-session.result.now;
      at = c.in-Some-replica_place.at;
      replica = c.index_mut-replica.result.now;
      connection = c.in-Some-take.connection;
      session_place_is = search rules;
      session_is = slice_get_some _ _ _ _ c.deref.ensures.value c.in-Some.ensures.within c.index_mut-session.ensures.value;
      replica_place_is = search rules;
      replica_is = slice_get_some _ _ _ _ c.deref-2.ensures.value c.in-Some-replica_place.ensures.within c.index_mut-replica.ensures.value;
      connection_is = search rules;
    } in
    λ e.
    let k = rw e at c.from_residual.ensures.1 in
    let h = c.in_err-session.ensures.memory (ap Err (sym k)) in
    (_, (t, h.0, h.1, h.2, refl), h.3)

pub returns-in_err-add_ops_after-clause-memory : goal.returns-in_err-add_ops_after-clause-memory
returns-in_err-add_ops_after-clause-memory c =
    let t : IsFeedable (script_contents_of c.args.setup.now) c.args.name.now = record {
      place = c.in-Some.place;
      session = c.index_mut-session.result.now;
      at = c.in-Some-replica_place.at;
      replica = c.index_mut-replica.result.now;
      connection = c.in-Some-take.connection;
      session_place_is = search rules;
      session_is = slice_get_some _ _ _ _ c.deref.ensures.value c.in-Some.ensures.within c.index_mut-session.ensures.value;
      replica_place_is = search rules;
      replica_is = slice_get_some _ _ _ _ c.deref-2.ensures.value c.in-Some-replica_place.ensures.within c.index_mut-replica.ensures.value;
      connection_is = search rules;
    } in
    let served = c.in_ok-session.ensures.ok in
    λ e. (_, (t, served.0, length served.0, whole_talk _ _ _ _ _ _ _ served.1, refl), served.2 ∙ ap (λ (ts : List Turn). c.args.printed.now.items ++ transcript c.args.name.now ts) (sym (take-length served.0)))

pub returns-clause-ok : goal.returns-clause-ok
returns-clause-ok c =
    let t : IsFeedable (script_contents_of c.args.setup.now) c.args.name.now = record {
      place = c.in-Some.place;
      session = c.index_mut-session.result.now;
      at = c.in-Some-replica_place.at;
      replica = c.index_mut-replica.result.now;
      connection = c.in-Some-take.connection;
      session_place_is = search rules;
      session_is = slice_get_some _ _ _ _ c.deref.ensures.value c.in-Some.ensures.within c.index_mut-session.ensures.value;
      replica_place_is = search rules;
      replica_is = slice_get_some _ _ _ _ c.deref-2.ensures.value c.in-Some-replica_place.ensures.within c.index_mut-replica.ensures.value;
      connection_is = search rules;
    } in
    let served = c.in_ok-session.ensures.ok in
    (transcript c.args.name.now served.0, (t, served.0, c.converse.new.node, c.in_ok-session.field-0, served.1, refl, search rules), served.2)
