use Rattle.std.proofs.Common.{List, sym, subst}
use Rattle.session_view.specs.NoteChanges.{patched_entries}
use Rattle.session_view.specs.Views.{AreRising}
use Rattle.session_view.specs.declared.view_entry.ViewEntry.{ViewEntry}
use Rattle.session_view.proofs.ChangeLemmas.{if_ok}
use Rattle.session_view.proofs.SyncLemmas.{stays_rising}
use Rattle.session_view.proofs.view.View.plan_sync.Goals as goal

pub returns-clause-rising : goal.returns-clause-rising
returns-clause-rising c =
    if_ok c.plan_sync.result
    (λ t same. subst (λ (view : List ViewEntry). AreRising 1 (patched_entries view t.patch.gone.items t.patch.arrivals.items t.patch.flags.items)) c.entries-2.ensures.entries
    (subst (λ (es : List ViewEntry). AreRising 1 es) (sym same)
    (stays_rising c.args.form.kind c.args.rows.now c.entries-2.result.now.items c.count-count.ensures.rising (subst (λ (es : List ViewEntry). AreRising 1 es) (sym c.entries-2.ensures.entries) c.entries-2.ensures.rising))))
    c.plan_sync.ensures.patch
