use Rattle.std.proofs.Common.{◌≡◌, ◌≤◌, drop}
use Rattle.mail_fields.specs.AddressWords.{run_start, run_start_from}
use Rattle.mail_fields.proofs.address_words.run_start.Given as goal

abbrev pub invariant-loop-place : goal.invariant-loop-place
invariant-loop-place l =
    record { within : l.start ≤ l.place; same : run_start_from l.place l.start l.before (drop l.place l.elements) ≡ run_start l.elements }
