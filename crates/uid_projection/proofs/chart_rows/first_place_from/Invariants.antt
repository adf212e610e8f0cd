use Rattle.std.proofs.Common.{◌≡◌, true, false, ltb, ◌-◌, ◌<◌, ◌≤◌, length, get_or}
use Rattle.mailbox_rows.specs.declared.entry.ListingEntry.{ListingEntry}
use Rattle.uid_projection.proofs.chart_rows.first_place_from.Given as goal

abbrev pub invariant-loop-low : goal.invariant-loop-low
invariant-loop-low l =
    let es = l.entries.entries in
    record { order : l.low ≤ l.high; within : l.high ≤ length es; pass : (d : ListingEntry) → 0 < l.low → ltb (get_or es (l.low - 1) d).uid l.uid ≡ true; fail : (d : ListingEntry) → l.high < length es → ltb (get_or es l.high d).uid l.uid ≡ false }

abbrev pub decreases-loop-low : goal.decreases-loop-low
decreases-loop-low l = l.high - l.low
