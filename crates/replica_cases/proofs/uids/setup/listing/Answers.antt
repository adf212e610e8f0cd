use Rattle.std.proofs.Common.{◌≡◌, ap, ◌∙◌}
use Rattle.uid_projection.specs.declared.first_numbers.Counters.{Counters}
use Rattle.uid_projection.specs.Listing.{listing}
use Rattle.uid_projection.proofs.ChartQueryLemmas.{if_ok}
use Rattle.replica_cases.proofs.uids.setup.listing.Goals as goal

pub returns : goal.returns
returns c =
    let list = c.args.inbox.now.received.applied in
    if_ok c.rows.result (λ rows h. h ∙ ap (λ (s : Counters). listing s c.args.name.now list) c.charts.ensures.start) (c.rows.ensures list c.charts.ensures.follows c.folders.ensures)
