use Rattle.std.proofs.Common.{◌<◌, Bool, List, length, refl, get_or, arith, ap, sym, subst, ◌∙◌, rules}
use Rattle.std.specs.Prelude.{IfOk}
use Rattle.std.proofs.lemmas.Result.{IfOk-weaker}
use Rattle.indexmap.specs.IndexMap.{set_value_at}
use Rattle.mail_audit.specs.KnownSessions.{SessionKnowledge, DecidesSent, nothing_known}
use Rattle.mail_audit.specs.Sessions.{Session, known_for, place_or_end, sessions_of}
use Rattle.mail_audit.proofs.SessionLemmas.{knowledge_at, knowledge_elsewhere, knowledge_set, stored_at, stored_set, length_sessions}
use Rattle.mail_audit.proofs.sessions.AuditSessions.accept.Goals as goal

pub unreachable-requires : goal.unreachable-requires
unreachable-requires c =
    let stored = c.self.inside.audited.entries in
    let within = subst (λ (ss : List Session). c.in_ok-place.place < length ss) (sym c.self.view_is) (c.in_ok-place.ensures {u = tt}).within in
    let count = length_sessions stored in
    let some = c.get_index_mut.ensures.found.1 (omega (arith, within, count)) in
    let none = c.in-None.is in
    search rules

pub returns-clause-sent : goal.returns-clause-sent
returns-clause-sent c =
    let stored = c.self.inside.audited.entries in
    let ss = sessions_of stored in
    let place = c.in_ok-place.place in
    let old = c.in-Some.transcript.now in
    let blank : Session = record { name = c.args.session; transcript = nothing_known } in
    let at = stored_at stored place blank old ((c.in-Some.ensures {u = tt}).value) in
    let new : Session = record { name = (get_or ss place blank).name; transcript = c.accept.new.self } in
    let o = c.in_ok-place.ensures {u = tt} in
    let first = o.first ∙ ap (place_or_end c.args.session) (sym c.self.view_is) in
    let within = subst (λ (xs : List Session). place < length xs) (sym c.self.view_is) o.within in
    let was = sym (o.same c.args.session) ∙ ap (known_for c.args.session) (sym c.self.view_is) ∙ knowledge_at c.args.session ss place blank first within ∙ sym at.1 in
    let is = ap (known_for c.args.session) (stored_set stored place blank c.accept.new.self at.0) ∙ knowledge_set c.args.session ss place blank new first within refl in
    subst (λ (h : SessionKnowledge). IfOk c.accept.result (λ (audited : Bool). DecidesSent h (record { speaker = c.args.speaker; octets = c.args.octets.now }) audited (known_for c.args.session (sessions_of (set_value_at stored place c.accept.new.self))))) (sym was)
    (subst (λ (h : SessionKnowledge). IfOk c.accept.result (λ (audited : Bool). DecidesSent old (record { speaker = c.args.speaker; octets = c.args.octets.now }) audited h)) (sym is) c.accept.ensures)

pub returns-clause-others : goal.returns-clause-others
returns-clause-others c =
    let stored = c.self.inside.audited.entries in
    let ss = sessions_of stored in
    let place = c.in_ok-place.place in
    let old = c.in-Some.transcript.now in
    let blank : Session = record { name = c.args.session; transcript = nothing_known } in
    let at = stored_at stored place blank old ((c.in-Some.ensures {u = tt}).value) in
    let new : Session = record { name = (get_or ss place blank).name; transcript = c.accept.new.self } in
    let o = c.in_ok-place.ensures {u = tt} in
    let first = o.first ∙ ap (place_or_end c.args.session) (sym c.self.view_is) in
    let within = subst (λ (xs : List Session). place < length xs) (sym c.self.view_is) o.within in
    IfOk-weaker c.accept.result _ _ (λ audited t other e. ap (known_for other) (stored_set stored place blank c.accept.new.self at.0) ∙ knowledge_elsewhere c.args.session other ss place blank new first within refl e ∙ ap (known_for other) c.self.view_is ∙ o.same other) c.accept.ensures
