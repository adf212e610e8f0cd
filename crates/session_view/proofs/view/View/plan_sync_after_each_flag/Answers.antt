use Rattle.std.proofs.Common.{List, ◌≡◌, ◌++◌, ap, sym, subst, ◌∙◌}
use Rattle.session_view.specs.NoteChanges.{NoteAllChanges, all_silent_notes}
use Rattle.session_view.specs.Replay.{after_silent}
use Rattle.session_view.specs.ViewState.{ViewState}
use Rattle.session_view.specs.declared.notes.Note.{Note}
use Rattle.session_view.specs.declared.view_entry.ViewEntry.{ViewEntry}
use Rattle.session_view.specs.declared.reply_replay.SilentFlags.{SilentFlags}
use Rattle.session_view.proofs.FlagLemmas.{all_flags_noted}
use Rattle.session_view.proofs.view.View.plan_sync_after_each_flag.Goals as goal

pub plan_sync-planned-requires : goal.plan_sync-planned-requires
plan_sync-planned-requires c =
    let view = c.args.self.now.entries in
    let first = c.args.first.items in
    let same : c.deref-2.result.now ≡ c.args.notes.items ++ all_silent_notes view first =
    c.deref-2.ensures.value ∙ c.in_ok-push_flag_notes.ensures {u = tt}
    ∙ ap (λ (es : List ViewEntry). c.args.notes.items ++ all_silent_notes es c.deref.result.now) c.entries.ensures.entries
    ∙ ap (λ (ss : List SilentFlags). c.args.notes.items ++ all_silent_notes view ss) c.deref.ensures.value in
    let noted = all_flags_noted c.args.notes.items c.args.rows.now view first c.requires in
    subst (λ (s : ViewState). NoteAllChanges c.deref-2.result.now c.args.rows.now s.entries) (sym c.set_flags.ensures.set)
    (subst (λ (ns : List Note). NoteAllChanges ns c.args.rows.now (after_silent view first)) (sym same) noted)
