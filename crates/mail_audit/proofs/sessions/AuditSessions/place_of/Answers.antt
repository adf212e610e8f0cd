use Rattle.std.proofs.Common.{rules, ◌≡◌, ◌<◌, ◌≤◌, List, length, ap, sym, subst, ◌∙◌}
use Rattle.mail_audit.specs.Sessions.{Session, known_for, place_or_end, sessions_of}
use Rattle.mail_audit.proofs.SessionLemmas.{stored_place, knowledge_new, stored_new, missing, placed_stored}
use Rattle.mail_audit.proofs.sessions.AuditSessions.place_of.Goals as goal

pub returns-in-Some-clause-within : goal.returns-in-Some-clause-within
returns-in-Some-clause-within c =
    let at = stored_place c.as_bytes.result.now c.self.inside.audited.entries c.in-Some.place (c.in-Some.ensures {u = tt}).index in
    subst (λ (ss : List Session). c.in-Some.place < length ss) c.self.view_is at.0

pub returns-in-Some-clause-first : goal.returns-in-Some-clause-first
returns-in-Some-clause-first c =
    let at = stored_place c.as_bytes.result.now c.self.inside.audited.entries c.in-Some.place (c.in-Some.ensures {u = tt}).index in
    at.1 ∙ ap (λ name. place_or_end name (sessions_of c.self.inside.audited.entries)) c.as_bytes.ensures.value ∙ ap (place_or_end c.args.session) c.self.view_is

pub returns-clause-within : goal.returns-clause-within
returns-clause-within c =
    let stored = c.self.inside.audited.entries in
    let after = missing c.as_bytes.result.now stored (c.in_default.ensures {u = tt}).index in
    let name : c.in_ok-name.name.items ≡ c.as_bytes.result.now = (let copied : c.in_ok-name.name.items ≡ c.as_bytes-2.result.now = search rules in copied) ∙ c.as_bytes-2.ensures.value ∙ sym c.as_bytes.ensures.value in
    let o = c.in_ok-place.ensures {u = tt} in
    (placed_stored c.in_ok-name.name stored c.insert_full.new.self.entries c.new.result c.in_ok-place.place (subst (λ n. length stored ≤ place_or_end n (sessions_of stored)) (sym name) after) o.entries o.index).0

pub returns-clause-first : goal.returns-clause-first
returns-clause-first c =
    let stored = c.self.inside.audited.entries in
    let after = missing c.as_bytes.result.now stored (c.in_default.ensures {u = tt}).index in
    let name : c.in_ok-name.name.items ≡ c.as_bytes.result.now = (let copied : c.in_ok-name.name.items ≡ c.as_bytes-2.result.now = search rules in copied) ∙ c.as_bytes-2.ensures.value ∙ sym c.as_bytes.ensures.value in
    let o = c.in_ok-place.ensures {u = tt} in
    let at = (placed_stored c.in_ok-name.name stored c.insert_full.new.self.entries c.new.result c.in_ok-place.place (subst (λ n. length stored ≤ place_or_end n (sessions_of stored)) (sym name) after) o.entries o.index).1 in
    at ∙ ap (λ n. place_or_end n (sessions_of c.insert_full.new.self.entries)) (name ∙ c.as_bytes.ensures.value)

pub returns-clause-same : goal.returns-clause-same
returns-clause-same c = λ other.
    let stored = c.self.inside.audited.entries in
    let after = missing c.as_bytes.result.now stored (c.in_default.ensures {u = tt}).index in
    let name : c.in_ok-name.name.items ≡ c.as_bytes.result.now = (let copied : c.in_ok-name.name.items ≡ c.as_bytes-2.result.now = search rules in copied) ∙ c.as_bytes-2.ensures.value ∙ sym c.as_bytes.ensures.value in
    let o = c.in_ok-place.ensures {u = tt} in
    let is = ap sessions_of o.entries ∙ stored_new c.in_ok-name.name stored c.new.result (subst (λ n. length stored ≤ place_or_end n (sessions_of stored)) (sym name) after) in
    ap (known_for other) is ∙ knowledge_new other (sessions_of stored) (record { name = c.in_ok-name.name.items; transcript = c.new.result }) c.new.ensures ∙ ap (known_for other) c.self.view_is
