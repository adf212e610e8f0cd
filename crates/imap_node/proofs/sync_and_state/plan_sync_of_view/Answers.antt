use Rattle.std.proofs.Common.{◌≡◌, ◌++◌, IfOk, List, ap, sym, subst}
use Rattle.std.specs.Option.{option_map}
use Rattle.imap_node.specs.SessionFeeds.{AreChangeNotes, IsNotedFor, UnsentChanges}
use Rattle.imap_node.proofs.SessionChangeLemmas.{asked_in_place}
use Rattle.imap_node.proofs.sync_and_state.plan_sync_of_view.Goals as goal
use Rattle.mailbox_rows.specs.ListedMessage.{ListedMessage}
use Rattle.session_view.specs.Replay.{after_silent}
use Rattle.session_view.specs.Sync.{sync_answers, view_after_sync}
use Rattle.idle_feed.specs.NotedFeeds.{IsChangeTo, entries_after_change}

pub plan-requires : goal.plan-requires
plan-requires c =
    let start = c.args.applied.now.replica.now.start in
    let before = c.args.applied.now.replica.now.applied in
    let after = before ++ c.args.applied.now.ops.now in
    let view = c.args.view.now in
    asked_in_place start before after view c.unsent.inside.feed.now.pending c.unsent.inside.change_notes.now c.in-Some.rows.now c.notes_of.result.now c.name.result.now
    (subst (λ (u : UnsentChanges). IsNotedFor start before u.pending view) (sym c.unsent.view_is) c.requires.noted)
    (subst (λ (u : UnsentChanges). AreChangeNotes start before after u.change_notes) (sym c.unsent.view_is) c.requires.changes)
    (c.requires.made c.in-Some.rows.now (ap (option_map (λ rows. rows.now)) c.in-Some.is)) c.name.ensures c.notes_of.ensures

pub returns-in-Some-clause-answers : goal.returns-in-Some-clause-answers
returns-in-Some-clause-answers c =
    let view = c.args.view.now in
    subst (λ (rows : List ListedMessage). IfOk c.plan.result (λ plan. plan.answers.items ≡ sync_answers c.args.form.kind c.args.form.modseq rows (after_silent view.entries c.args.first.items))) (c.requires.made c.in-Some.rows.now (ap (option_map (λ rows. rows.now)) c.in-Some.is))
    c.plan.ensures.answers

pub returns-in-Some-clause-changed : goal.returns-in-Some-clause-changed
returns-in-Some-clause-changed c =
    let view = c.args.view.now in
    subst (λ (rows : List ListedMessage). IfOk c.plan.result (λ plan. entries_after_change view.entries plan.change ≡ view_after_sync c.args.form.kind rows (after_silent view.entries c.args.first.items))) (c.requires.made c.in-Some.rows.now (ap (option_map (λ rows. rows.now)) c.in-Some.is))
    c.plan.ensures.changed

pub returns-in-Some-clause-change : goal.returns-in-Some-clause-change
returns-in-Some-clause-change c =
    let view = c.args.view.now in
    subst (λ (rows : List ListedMessage). IfOk c.plan.result (λ plan. IsChangeTo rows view.entries plan.change)) (c.requires.made c.in-Some.rows.now (ap (option_map (λ rows. rows.now)) c.in-Some.is))
    c.plan.ensures.change

pub plan-planned-requires : goal.plan-planned-requires
plan-planned-requires c =
    let start = c.args.applied.now.replica.now.start in
    let before = c.args.applied.now.replica.now.applied in
    let after = before ++ c.args.applied.now.ops.now in
    let view = c.args.view.now in
    asked_in_place start before after view c.unsent.inside.feed.now.pending c.unsent.inside.change_notes.now c.in-Ok.rows c.notes_of.result.now c.name.result.now
    (subst (λ (u : UnsentChanges). IsNotedFor start before u.pending view) (sym c.unsent.view_is) c.requires.noted)
    (subst (λ (u : UnsentChanges). AreChangeNotes start before after u.change_notes) (sym c.unsent.view_is) c.requires.changes)
    (c.in-Ok.ensures {u = tt}) c.name.ensures c.notes_of.ensures

pub returns-clause-answers : goal.returns-clause-answers
returns-clause-answers c =
    let view = c.args.view.now in
    subst (λ (rows : List ListedMessage). IfOk c.plan-planned.result (λ plan. plan.answers.items ≡ sync_answers c.args.form.kind c.args.form.modseq rows (after_silent view.entries c.args.first.items))) (c.in-Ok.ensures {u = tt})
    c.plan-planned.ensures.answers

pub returns-clause-changed : goal.returns-clause-changed
returns-clause-changed c =
    let view = c.args.view.now in
    subst (λ (rows : List ListedMessage). IfOk c.plan-planned.result (λ plan. entries_after_change view.entries plan.change ≡ view_after_sync c.args.form.kind rows (after_silent view.entries c.args.first.items))) (c.in-Ok.ensures {u = tt})
    c.plan-planned.ensures.changed

pub returns-clause-change : goal.returns-clause-change
returns-clause-change c =
    let view = c.args.view.now in
    subst (λ (rows : List ListedMessage). IfOk c.plan-planned.result (λ plan. IsChangeTo rows view.entries plan.change)) (c.in-Ok.ensures {u = tt})
    c.plan-planned.ensures.change
