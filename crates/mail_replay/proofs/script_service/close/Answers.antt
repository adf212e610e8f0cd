use Rattle.std.proofs.Common.{rules}
use Rattle.mail_replay.proofs.ScriptStateLemmas.{slice_get_some}
use Rattle.mail_replay.specs.Lines.{IsFeedable}
use Rattle.mail_replay.specs.ScriptState.{script_contents_of}
use Rattle.mail_replay.proofs.script_service.close.Goals as goal

pub returns-clause-ok : goal.returns-clause-ok
returns-clause-ok c =
    let t : IsFeedable (script_contents_of c.args.setup.now) c.args.name.now = record {
      place = c.in-Some.place;
      session = c.index_mut-session.result.now;
      at = c.in-Some-replica_place.at;
      replica = c.index_mut.result.now;
      connection = c.in-Some-take.connection;
      session_place_is = search rules;
      session_is = slice_get_some _ _ _ _ c.deref.ensures.value c.in-Some.ensures.within c.index_mut-session.ensures.value;
      replica_place_is = search rules;
      replica_is = slice_get_some _ _ _ _ c.deref-2.ensures.value c.in-Some-replica_place.ensures.within c.index_mut.ensures.value;
      connection_is = search rules;
    } in
    (t, c.close.new.self, search rules, search rules)
