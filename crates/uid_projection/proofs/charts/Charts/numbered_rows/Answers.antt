use Rattle.std.proofs.Common.{◌∙◌, Option}
use Rattle.tags_clocks.specs.declared.id.OpId.{OpId}
use Rattle.folder_state.specs.Tables.{contents_of}
use Rattle.mailbox_rows.specs.MessageData.{MessageData, rows_by, stored_message_data}
use Rattle.uid_projection.proofs.RowLemmas.{rows_by_data}
use Rattle.uid_projection.proofs.charts.Charts.numbered_rows.Goals as goal

pub returns-clause-uidvalidity : goal.returns-clause-uidvalidity
returns-clause-uidvalidity c = λ list f. c.uidvalidity_by.ensures list c.args.self.now.next_k c.args.self.now.charts.entries f.table c.chart_of-chart.ensures

pub returns-clause-rows : goal.returns-clause-rows
returns-clause-rows c = λ list f m.
    let s = c.args.self.now in
    let n = c.args.name.now in
    let x = c.in_ok-entries.field-0 in
    let data_at : OpId → Option MessageData = stored_message_data c.mailbox.result in
    let chart = c.in_ok-entries.ensures.shows list s.next_k f.table c.chart_of-chart.ensures f.nothing in
    c.of_window.ensures ∙ c.new-window.ensures
    ∙ (λ i. rows_by (c.new.ensures.empty i) c.mailbox.result x.entries.entries)
    ∙ rows_by_data s.start n list (contents_of c.args.value.now) m data_at (λ g present. c.mailbox.ensures.contents g) x.uidnext x.highest x.entries.entries chart
