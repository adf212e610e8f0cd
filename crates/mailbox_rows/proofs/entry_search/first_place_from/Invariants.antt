use Rattle.std.proofs.Common.{◌≡◌, true, false, ltb, ◌-◌, ◌<◌, ◌≤◌, length, get_or}
use Rattle.mailbox_rows.specs.declared.entry.ListingEntry.{ListingEntry}
use Rattle.mailbox_rows.proofs.entry_search.first_place_from.Given as goal

abbrev pub invariant-loop-low : goal.invariant-loop-low
invariant-loop-low g l =
    let entries = g.L.EntryPlaces.entries in
    record { order : l.low ≤ l.high; within : l.high ≤ length (entries l.list); pass : (d : ListingEntry) → 0 < l.low → ltb (get_or (entries l.list) (l.low - 1) d).uid l.uid ≡ true; fail : (d : ListingEntry) → l.high < length (entries l.list) → ltb (get_or (entries l.list) l.high d).uid l.uid ≡ false }

abbrev pub decreases-loop-low : goal.decreases-loop-low
decreases-loop-low g l = l.high - l.low
