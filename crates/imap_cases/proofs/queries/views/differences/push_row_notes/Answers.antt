use Rattle.std.proofs.Common.{◌∙◌, arith}
use Rattle.std.proofs.lemmas.List.{drop_all}
use Rattle.mailbox_rows.specs.RowViews.{listed_message}
use Rattle.imap_cases.proofs.DifferenceLemmas.{next_row, no_more_rows, past_rows}
use Rattle.imap_cases.proofs.queries.views.differences.push_row_notes.Goals as goal

pub returns-in-None : goal.returns-in-None
returns-in-None c =
    past_rows c.args.view.now.items c.args.rows.now c.loop-place.place c.loop-place.notes.items (c.in-None.ensures {u = tt})
    ∙ c.loop-place.invariant

pub loop-place-preserved : goal.loop-place-preserved
loop-place-preserved c =
    next_row c.args.view.now.items c.args.rows.now c.loop-place.place (listed_message c.in-Some.row) c.loop-place.notes.items c.push_if_new.new.notes.items (c.in-Some.ensures {u = tt}) (c.in_ok-push_if_new-in-Some.ensures {u = tt})
    ∙ c.loop-place.invariant

pub returns : goal.returns
returns c =
    no_more_rows c.args.view.now.items c.args.rows.now c.loop-place.place c.loop-place.notes.items (drop_all c.loop-place.place c.args.rows.now (omega arith))
    ∙ c.loop-place.invariant
