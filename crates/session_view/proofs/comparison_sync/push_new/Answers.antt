use Rattle.std.proofs.Common.{List, ◌++◌, ap, ◌∙◌}
use Rattle.mailbox_rows.specs.ListedMessage.{ListedMessage}
use Rattle.session_view.specs.Views.{entries_of}
use Rattle.session_view.proofs.RowLemmas.{take_rows_after_uid}
use Rattle.session_view.proofs.comparison_sync.push_new.Goals as goal

pub returns : goal.returns
returns g c =
    c.in_ok-push_rows.ensures {u = tt}
    ∙ ap (λ (rs : List ListedMessage). g.L.MessageList.entries c.args.entries.now ++ entries_of rs) (take_rows_after_uid c.args.rows.now c.args.uid c.place_after_uid.result c.count-count.result c.place_after_uid.ensures.beyond c.count-count.ensures.count)
