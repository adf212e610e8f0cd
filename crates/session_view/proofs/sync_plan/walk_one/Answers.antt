use Rattle.std.proofs.Common.{◌≡◌, ◌≢◌, ◌<◌, Some, None, Option, ap, sym, subst, ◌∙◌}
use Rattle.std.specs.List.{slice_get}
use Rattle.session_view.specs.Spans.{count_below}
use Rattle.session_view.specs.declared.view_entry.ViewEntry.{ViewEntry}
use Rattle.session_view.proofs.WalkLemmas.{named_next, none_after, none_drop, none_has, on_ok, walk_past_absent_uid}
use Rattle.session_view.proofs.sync_plan.walk_one.Goals as goal

pub returns-then-place-walk-clause-is_walk : goal.returns-then-place-walk-clause-is_walk
returns-then-place-walk-clause-is_walk c =
    let at : c.count_below-place.result ≡ count_below c.args.uid c.args.view.now.items = c.count_below-place.ensures ∙ ap (λ u. count_below u c.args.view.now.items) c.from.ensures in
    λ rest. walk_past_absent_uid c.args.form.kind c.args.form.modseq c.args.rows.now c.args.view.now.items rest c.args.uid c.args.walk.now
    (none_after c.args.rows.now c.args.uid 1 c.args.walk.now.done c.args.view.now.items c.requires.rising (subst (λ n. n < c.args.walk.now.done) at c.if-place-walk.true))

pub returns-in_default-clause-is_walk : goal.returns-in_default-clause-is_walk
returns-in_default-clause-is_walk c =
    let at : c.count_below-place.result ≡ count_below c.args.uid c.args.view.now.items = c.count_below-place.ensures ∙ ap (λ u. count_below u c.args.view.now.items) c.from.ensures in
    λ rest. walk_past_absent_uid c.args.form.kind c.args.form.modseq c.args.rows.now c.args.view.now.items rest c.args.uid c.args.walk.now
    (none_drop c.args.rows.now c.args.uid c.args.walk.now.done c.args.view.now.items
    (none_has c.args.rows.now c.args.uid 1 c.args.view.now.items c.requires.rising
    (λ e g. let k : ◌≡◌ {A = Option ViewEntry} None (Some e) = c.in_default.ensures {u = tt} ∙ ap (slice_get c.args.view.now.items) at ∙ g in cc)))

pub returns-then-entry-uid-clause-is_walk : goal.returns-then-entry-uid-clause-is_walk
returns-then-entry-uid-clause-is_walk c =
    let at : c.count_below-place.result ≡ count_below c.args.uid c.args.view.now.items = c.count_below-place.ensures ∙ ap (λ u. count_below u c.args.view.now.items) c.from.ensures in
    λ rest. walk_past_absent_uid c.args.form.kind c.args.form.modseq c.args.rows.now c.args.view.now.items rest c.args.uid c.args.walk.now
    (none_drop c.args.rows.now c.args.uid c.args.walk.now.done c.args.view.now.items
    (none_has c.args.rows.now c.args.uid 1 c.args.view.now.items c.requires.rising
    (λ e g. let k : ◌≡◌ {A = Option ViewEntry} (Some c.in-Some.entry.now) (Some e) = c.in-Some.ensures {u = tt} ∙ ap (slice_get c.args.view.now.items) at ∙ g in
    let same : c.in-Some.entry.now ≡ e = cc in
    subst (λ (x : ViewEntry). x.uid ≢ c.args.uid) same c.if-entry-uid.true)))

pub returns-clause-is_walk : goal.returns-clause-is_walk
returns-clause-is_walk c =
    on_ok c.take_noted.result
    (λ took rest s. named_next c.args.form.kind c.args.form.modseq c.args.rows.now c.args.view.now.items rest c.in-Some.entry.now c.args.uid c.count_below-place.result c.args.walk.now c.take_noted.new.walk c.requires.rising c.if-place-walk.false (sym (c.in-Some.ensures {u = tt})) c.if-entry-uid.false took s)
    c.take_noted.ensures.is_walk
