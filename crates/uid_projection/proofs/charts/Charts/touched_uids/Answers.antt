use Rattle.std.proofs.Common.{[], ◌++◌, sym, subst}
use Rattle.std.proofs.lemmas.Result.{IfOk-weaker}
use Rattle.uid_projection.specs.UidsAndModSeqs.{uidnext_of}
use Rattle.uid_projection.specs.Listing.{listing}
use Rattle.uid_projection.specs.TouchedMessages.{RowsStayExcept}
use Rattle.uid_projection.proofs.ChartQueryLemmas.{chart_without}
use Rattle.uid_projection.proofs.TouchedMessagesLemmas.{stays_but}
use Rattle.uid_projection.proofs.Tables.{versions_none}
use Rattle.uid_projection.proofs.charts.Charts.touched_uids.Goals as goal

pub returns-in-Some : goal.returns-in-Some
returns-in-Some c = λ list f a same.
    let x = c.in-Some.chart.now in
    let up = f.table.shows c.args.name.now x (sym c.in-Some.ensures) in
    IfOk-weaker c.uids_of_named_messages.result _ _ (λ uids adds. stays_but c.args.self.now.start c.args.name.now list c.args.ops.now a _ _ _ up.shows _ up.versions uids.items adds same) c.uids_of_named_messages.ensures

pub returns-in-None : goal.returns-in-None
returns-in-None c = λ list f a same.
    let s = c.args.self.now in
    let n = c.args.name.now in
    let absent = f.table.covers n (sym c.in-None.ensures) in
    subst (λ us. RowsStayExcept us (uidnext_of s.start n list) (listing s.start n list) (listing s.start n (list ++ c.args.ops.now))) (sym c.new.ensures.items)
    (stays_but s.start n list c.args.ops.now a _ _ [] (chart_without s.start list s.next_k s.charts.entries n f.table (sym c.in-None.ensures)) _ (versions_none n list absent) [] (record { retained = λ u i. i; named = λ apart e i t. absurd i }) same)
