use Rattle.std.proofs.Common.{◌≡◌, ℕ, List, [], ◌∷◌, ◌++◌, ap, sym, ◌∙◌, rules, if◌then◌else◌}
use Rattle.std.specs.Str.{bytes_eq}
use Rattle.mail_audit.specs.NumberedCommands.{stored_for}
use Rattle.mail_audit.proofs.RunningLemmas.{Stored, at_error, stored_at, stored_append, stored_same, none_stored}
use Rattle.mail_audit.proofs.in_progress.add.Goals as goal

pub returns-in_err-push_back-clause-err : goal.returns-in_err-push_back-clause-err
returns-in_err-push_back-clause-err c =
    let tag = c.args.tag.items in
    let old = c.args.numbers.now.entries in
    let now = c.push_back.new.self in
    let new = (c.get_mut.follows.lender now).entries in
    let was = sym (c.in-Some.ensures {u = tt}).value in
    let updated = (c.get_mut.follows.holds now).3 (search rules) in
    at_error c.from_residual.result _ (stored_same tag old new updated.3 (stored_at tag new now updated.1 ∙ (c.in_err-push_back.ensures {u = tt}).items ∙ sym (stored_at tag old c.in-Some.stored.now was)))

pub returns-in-Some-clause-ok : goal.returns-in-Some-clause-ok
returns-in-Some-clause-ok c =
    let tag = c.args.tag.items in
    let old = c.args.numbers.now.entries in
    let now = c.push_back.new.self in
    let new = (c.get_mut.follows.lender now).entries in
    let was = sym (c.in-Some.ensures {u = tt}).value in
    let updated = (c.get_mut.follows.holds now).3 (search rules) in
    stored_append tag old new c.args.number updated.3 (stored_at tag new now updated.1 ∙ (c.in_ok-push_back.ensures {u = tt}).items ∙ ap (λ (ns : List ℕ). ns ++ c.args.number ∷ []) (sym (stored_at tag old c.in-Some.stored.now was)))

pub returns-clause-ok : goal.returns-clause-ok
returns-clause-ok c =
    let tag = c.args.tag.items in
    let old = c.args.numbers.now.entries in
    let mid = c.get_mut.follows.lender-at-none.entries in
    let same : mid ≡ old = search rules in
    let now = c.push_back-2.new.self in
    let new = c.insert.new.self.entries in
    let none = sym (c.in_default.ensures {u = tt}).value in
    let updated = (c.in_ok-insert.ensures {u = tt}).updates in
    λ other. stored_append tag mid new c.args.number updated.3 (stored_at tag new now updated.1 ∙ (c.in_ok-push_back-2.ensures {u = tt}).items ∙ ap (λ (ns : List ℕ). ns ++ c.args.number ∷ []) (c.new-stored.ensures.items ∙ sym (none_stored tag old none) ∙ ap (stored_for tag) (sym same))) other
    ∙ ap (λ (stored : List Stored). stored_for other stored ++ (if bytes_eq other tag then c.args.number ∷ [] else [])) same
