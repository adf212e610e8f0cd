use Rattle.std.proofs.Common.{◌≡◌, true, ℕ, All, take}
use Rattle.server_settings.specs.Settings.{is_named}
use Rattle.server_settings.proofs.settings.unknown_name.Given as goal

abbrev pub invariant-loop-name : goal.invariant-loop-name
invariant-loop-name l =
    All (λ (name : ℕ). is_named name l.known ≡ true) (take l.name-index l.names)
