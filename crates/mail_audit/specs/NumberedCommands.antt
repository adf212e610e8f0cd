-- The commands in progress by the numbers under which they began.

use Rattle.std.specs.Prelude.{ℕ, ◌+◌, ◌≤◌, List, [], ◌∷◌, if◌then◌else◌}
use Rattle.std.specs.Global.{Global, Vec}
use Rattle.std.specs.Map.{lookup}
use Rattle.std.specs.Option.{option_map_or}
use Rattle.std.specs.Str.{bytes_eq}
use Rattle.std.specs.declared.collections.VecDeque.{VecDeque}
use Rattle.mail_audit.specs.declared.in_progress.RunningCommand.{RunningCommand}

-- The numbers of the commands with this tag.
abbrev pub numbers_of : List ℕ → List (ℕ × RunningCommand) → List ℕ
numbers_of tag [] = []
numbers_of tag (command ∷ commands) =
    if bytes_eq tag command.1.tag then command.0 ∷ numbers_of tag commands
    else numbers_of tag commands

-- The numbers ascend from `low`, and all are below `high`.
abbrev pub AreRising : ℕ → ℕ → List (ℕ × RunningCommand) → Type 0
AreRising low high [] = low ≤ high
AreRising low high (command ∷ commands) =
    (low ≤ command.0) × AreRising (1 + command.0) high commands

-- The numbers stored for this tag.
abbrev pub stored_for : List ℕ → List (Vec ℕ × VecDeque ℕ Global) → List ℕ
stored_for tag stored =
    option_map_or (λ (numbers : VecDeque ℕ Global). numbers.items)
    (lookup (λ (key : Vec ℕ). bytes_eq tag key.items) stored) []
