use Rattle.std.proofs.Common.{List, ◌++◌, ◌+◌, ◌-◌, ap, sym, ◌∙◌, append-nil}
use Rattle.mailbox_rows.specs.RowViews.{listed_message}
use Rattle.session_view.specs.declared.view_entry.ViewEntry.{ViewEntry}
use Rattle.session_view.proofs.RowLemmas.{take_step, taken_none}
use Rattle.session_view.proofs.comparison_sync.push_rows.Goals as goal

pub returns-in-None : goal.returns-in-None
returns-in-None g c =
    sym (append-nil (g.L.MessageList.entries c.loop-step.entries))
    ∙ ap (λ (es : List ViewEntry). g.L.MessageList.entries c.loop-step.entries ++ es) (sym (taken_none c.args.rows.now (c.args.start + c.loop-step.step) (c.args.count - c.loop-step.step) (c.in-None.ensures {u = tt})))
    ∙ c.loop-step.invariant

pub loop-step-preserved : goal.loop-step-preserved
loop-step-preserved g c =
    take_step c.args.rows.now c.args.start c.loop-step.step c.args.count (listed_message c.in-Some.row) (g.L.MessageList.entries c.loop-step.entries) (g.L.MessageList.entries c.push_row.new.entries) c.loop-step-test.true (c.in-Some.ensures {u = tt}) (c.in_ok-push_row-in-Some.ensures {u = tt})
    ∙ c.loop-step.invariant
