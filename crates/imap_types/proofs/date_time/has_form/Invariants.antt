use Rattle.std.proofs.Common.{ℕ, ◌<◌, IsTrue, get_or}
use Rattle.imap_types.specs.DateTimes.{fits_symbol}
use Rattle.imap_types.proofs.date_time.has_form.Given as goal

abbrev pub invariant-loop-i : goal.invariant-loop-i
invariant-loop-i l = (k : ℕ) → k < l.i → IsTrue (fits_symbol (get_or l.picture k 0) (get_or l.octets k 0))
