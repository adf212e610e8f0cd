use Rattle.std.proofs.Common.{◌≡◌, List, [], length, sym, ap, ◌∙◌}
use Rattle.session_view.specs.Replay.{after_silent}
use Rattle.session_view.specs.Sync.{sync_answers, view_after_sync}
use Rattle.session_view.specs.declared.view_entry.SyncKind.{SyncKind}
use Rattle.session_view.specs.declared.view_entry.ViewEntry.{ViewEntry}
use Rattle.idle_feed.proofs.EndLemmas.{answers_of_full_sync, answers_of_partial_sync, full_sync_of_none, partial_sync_of_none, silent_length}
use Rattle.idle_feed.proofs.sync_planning.plan_at_end.Goals as goal

pub returns-in_ok-expunges_of_all-in-Full-clause-answers : goal.returns-in_ok-expunges_of_all-in-Full-clause-answers
returns-in_ok-expunges_of_all-in-Full-clause-answers c =
    let view = after_silent c.args.view.now.entries c.args.first.items in
    let modseq = c.args.form.modseq in
    let counted : length view ≡ c.count_of.result = silent_length c.args.view.now.entries c.args.first.items ∙ ap (λ (es : List ViewEntry). length es) (sym c.entries.ensures.entries) ∙ sym c.count_of.ensures.count in
    c.in_ok-expunges_of_all-in-Full.ensures {u = tt} view counted ∙ sym (answers_of_full_sync modseq view) ∙ ap (λ (k : SyncKind). sync_answers k modseq [] view) (sym c.in-Full.is)

pub returns-in_ok-expunges_of_all-in-Full-clause-changed : goal.returns-in_ok-expunges_of_all-in-Full-clause-changed
returns-in_ok-expunges_of_all-in-Full-clause-changed c =
    let view = after_silent c.args.view.now.entries c.args.first.items in
    c.new.ensures ∙ sym (full_sync_of_none view) ∙ ap (λ (k : SyncKind). view_after_sync k [] view) (sym c.in-Full.is)

pub returns-in_ok-all_may_differ-in-Partial-clause-answers : goal.returns-in_ok-all_may_differ-in-Partial-clause-answers
returns-in_ok-all_may_differ-in-Partial-clause-answers c =
    let view = after_silent c.args.view.now.entries c.args.first.items in
    let modseq = c.args.form.modseq in
    c.new-in-Partial.ensures.items ∙ sym (answers_of_partial_sync modseq view) ∙ ap (λ (k : SyncKind). sync_answers k modseq [] view) (sym c.in-Partial.is)

pub returns-in_ok-all_may_differ-in-Partial-clause-changed : goal.returns-in_ok-all_may_differ-in-Partial-clause-changed
returns-in_ok-all_may_differ-in-Partial-clause-changed c =
    let view = after_silent c.args.view.now.entries c.args.first.items in
    sym (partial_sync_of_none view) ∙ ap (λ (k : SyncKind). view_after_sync k [] view) (sym c.in-Partial.is)
