use Rattle.std.proofs.Common.{◌≡◌, ◌+◌, ◌-◌, ◌++◌, refl, sym, ap, ◌∙◌, length, Some}
use Rattle.mailbox_rows.specs.RowViews.{listed_message}
use Rattle.session_view.specs.NoteChanges.{all_fetched_flags}
use Rattle.session_view.specs.Sync.{fetch_if_changed}
use Rattle.session_view.proofs.WalkLemmas.{gone_step, on_ok_two, fetch_step}
use Rattle.session_view.proofs.sync_plan.take_noted.Goals as goal

pub returns-in-Some-clause-is_walk : goal.returns-in-Some-clause-is_walk
returns-in-Some-clause-is_walk c =
    let w = c.args.walk.now in
    let count : c.len.result ≡ length w.gone.items = c.len.ensures ∙ w.gone.ok.0 in
    on_ok_two c.push_flag_change.result
    (λ fetches flags view rest back here covers s.
    fetch_step c.args.form.kind c.args.form.modseq c.args.rows.now view rest c.args.entry.now (listed_message c.in-Some.row) back w _ here (sym (c.in-Some.ensures {u = tt})) covers c.push_flag_change.ensures.done c.push_flag_change.ensures.gone c.push_flag_change.ensures.left
    (fetches ∙ ap (λ n. w.fetches.items ++ fetch_if_changed c.args.form.modseq (w.done - n + 1) c.args.entry.now (Some (listed_message c.in-Some.row))) count)
    (flags ∙ ap (λ n. w.flags.items ++ all_fetched_flags (fetch_if_changed c.args.form.modseq (w.done - n + 1) c.args.entry.now (Some (listed_message c.in-Some.row)))) count) s)
    c.push_flag_change.ensures.fetches c.push_flag_change.ensures.flags

pub returns-in-None-clause-is_walk : goal.returns-in-None-clause-is_walk
returns-in-None-clause-is_walk c =
    on_ok_two c.push_gone.result
    (λ gone left view rest back here covers s.
    gone_step c.args.form.kind c.args.form.modseq c.args.rows.now view rest c.args.entry.now back c.args.walk.now _ here (sym (c.in-None.ensures {u = tt})) covers refl gone left refl refl s)
    c.push_gone.ensures.gone c.push_gone.ensures.left
