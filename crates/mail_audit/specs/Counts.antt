-- Counts of the commands in progress.

use Rattle.std.specs.Prelude.{ℕ, ◌+◌, Bool, List, [], ◌∷◌, if◌then◌else◌}
use Rattle.mail_audit.specs.declared.in_progress.RunningCommand.{RunningCommand}

-- The number of commands for which this is true.
abbrev pub count_of : (RunningCommand → Bool) → List RunningCommand → ℕ
count_of p [] = 0
count_of p (command ∷ commands) = if p command then 1 + count_of p commands else count_of p commands
