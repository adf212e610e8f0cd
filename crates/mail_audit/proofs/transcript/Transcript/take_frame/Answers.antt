use Rattle.std.proofs.Common.{Bool, false, inl, inr, refl, rules, IsFalse, ap, subst, ◌∙◌}
use Rattle.std.specs.List.{list_any}
use Rattle.std.proofs.lemmas.Result.{on_ok_weaker}
use Rattle.mail_audit.specs.KnownSessions.{SessionKnowledge}
use Rattle.mail_audit.specs.Transcripts.{event_by}
use Rattle.mail_audit.specs.declared.event.SlotEvent.TheVariants.{Passes}
use Rattle.mail_audit.specs.declared.in_progress.RunningCommand.{RunningCommand}
use Rattle.mail_audit.proofs.transcript.Transcript.take_frame.Goals as goal

awake : IsFalse false
awake = search rules

pub returns-in-Ok : goal.returns-in-Ok
returns-in-Ok c =
    let e = c.if-idles.ensures {u = tt} ∙ ap (λ (h : SessionKnowledge). list_any (λ (r : RunningCommand). r.idles) h.running) c.self.view_is in
    let f = subst (λ (b : Bool). IsFalse b) e awake in
    let s = (c.in-Ok.ensures {u = tt}).spelled in
    on_ok_weaker c.begin.result (λ o. (event_by c.in-Ok.tagged.command, inl (c.in-Ok.tagged, (f, s), o.0, refl), o.2, o.1)) c.begin.ensures

pub returns-in-Err : goal.returns-in-Err
returns-in-Err c =
    let i = c.in-Err.is in
    on_ok_weaker c.pass_over.result
    (λ n. (Passes, inr (λ tagged b. elim (c.parse.ensures.only tagged b.1) [ inl a ↦ cc | inr m ↦ n (cc) ], refl, refl), tt, refl))
    c.pass_over.ensures
