use Rattle.std.proofs.Common.{get_or, set, ap, arith, ◌∙◌}
use Rattle.std.proofs.lemmas.List.{get_or_default}
use Rattle.std.proofs.lemmas.List.Edits.{map_over_more}
use Rattle.mail_replay.specs.Restarts.{session_after_restart}
use Rattle.mail_replay.specs.declared.script_state.ScriptSession.{ScriptSession}
use Rattle.mail_replay.proofs.script_restart.end_sessions.Goals as goal

pub loop-session-preserved : goal.loop-session-preserved
loop-session-preserved c =
    let now = c.loop-session.sessions in
    let i = c.loop-session.session-index in
    ap (λ (s : ScriptSession). set now i s) c.end_session_of.ensures
    ∙ map_over_more (session_after_restart c.args.name) c.args.sessions.now now i (get_or now i c.session-item.result) (omega arith) c.loop-session.invariant (get_or_default now i c.session-item.result _ (omega arith))
