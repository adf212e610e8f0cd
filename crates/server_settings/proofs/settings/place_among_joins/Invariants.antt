use Rattle.std.proofs.Common.{◌≡◌, false, take}
use Rattle.server_settings.specs.Settings.{is_named, join_names_of}
use Rattle.server_settings.proofs.settings.place_among_joins.Given as goal

abbrev pub invariant-loop-at : goal.invariant-loop-at
invariant-loop-at l = is_named l.name (join_names_of (take l.at l.joins)) ≡ false
