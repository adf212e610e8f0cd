use Rattle.std.proofs.Common.{◌∙◌, Option}
use Rattle.tags_clocks.specs.declared.id.OpId.{OpId}
use Rattle.mailbox_rows.specs.MessageData.{MessageData, message_data_at}
use Rattle.uid_projection.specs.FolderAhead.{folder_of}
use Rattle.uid_projection.proofs.RowLemmas.{rows_by_data}
use Rattle.uid_projection.proofs.charts.folder_and_chart_ahead.Goals as goal

pub returns : goal.returns
returns c = λ start list k m h s.
    let x = c.args.chart in
    let messages = c.in_ok-messages.messages in
    let data_at : OpId → Option MessageData = message_data_at messages.fresh.entries messages.mailbox in
    c.of_window.ensures ∙ c.new-window.ensures
    ∙ rows_by_data start (folder_of c.args.ahead.now) list k m data_at (λ g present. c.in_ok-messages.ensures k h g present) x.uidnext x.highest x.entries.entries s
