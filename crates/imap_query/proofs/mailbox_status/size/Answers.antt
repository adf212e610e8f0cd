use Rattle.std.proofs.Common.{◌∙◌, ◌+◌, ap, arith, drop, sym}
use Rattle.std.specs.List.{sum_by}
use Rattle.imap_query.specs.Status.{size_of}
use Rattle.imap_query.proofs.CountLemmas.{drop_past, min_below, min_end, min_step, summed_from}
use Rattle.imap_query.proofs.mailbox_status.size.Goals as goal

pub loop-place-preserved : goal.loop-place-preserved
loop-place-preserved c =
    let rows = c.args.rows.now in
    let all = summed_from size_of rows c.loop-place.place in (
      min_below _ _ _ c.saturating_add-size.ensures,
      min_step c.loop-place.size c.octets.result (sum_by size_of (drop (c.loop-place.place + 1) rows)) (sum_by size_of (drop c.loop-place.place rows)) _ _ _
          c.saturating_add-size.ensures (all ∙ ap (λ n. n + sum_by size_of (drop (c.loop-place.place + 1) rows)) (sym c.octets.ensures)) c.loop-place.invariant.1,
    )

pub returns : goal.returns
returns c =
    let rows = c.args.rows.now in
    let f = c.loop-place-test.false in
    let n = c.count-place-end.ensures.count in
    min_end c.loop-place.size (sum_by size_of (drop c.loop-place.place rows)) _ _ (ap (λ xs. sum_by size_of xs) (drop_past rows c.loop-place.place (omega arith))) c.loop-place.invariant.0 c.loop-place.invariant.1
