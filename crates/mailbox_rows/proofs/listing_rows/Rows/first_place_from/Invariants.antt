use Rattle.std.proofs.Common.{◌≡◌, true, false, ltb, ◌-◌, ◌<◌, ◌≤◌, length, get_or}
use Rattle.mailbox_rows.specs.ListedMessage.{ListedMessage}
use Rattle.mailbox_rows.proofs.listing_rows.Rows.first_place_from.Given as goal

abbrev pub invariant-loop-low : goal.invariant-loop-low
invariant-loop-low l =
    record { order : l.low ≤ l.high; within : l.high ≤ length l.self; pass : (d : ListedMessage) → 0 < l.low → ltb (get_or l.self (l.low - 1) d).uid l.uid ≡ true; fail : (d : ListedMessage) → l.high < length l.self → ltb (get_or l.self l.high d).uid l.uid ≡ false }

abbrev pub decreases-loop-low : goal.decreases-loop-low
decreases-loop-low l = l.high - l.low
