-- A log that one thread at a time is lent, and what those get that wait for its operations.

use Rattle.std.specs.Prelude.{◌≡◌, ℕ, ◌<◌, false, Option, None, Some}
use Rattle.std.specs.Prelude.{if◌then◌else◌, nat_lt}
use Rattle.durable_log.specs.declared.durable_log.DurableLog.{DurableLog}
use Rattle.durable_progress.specs.declared.log_state.LogLoan.{LogLoan}
use Rattle.durable_progress.specs.declared.log_state.LogLoan.TheVariants.{Failed, Log, Synced}
use Rattle.durable_progress.specs.declared.log_state.LogState.{LogState}

-- Who waits for the first operations must still wait.
abbrev pub IsAwaited : {D : Type 0} → LogState D → ℕ → Type 0
IsAwaited state count =
    (state.synced < count) × (state.failed ≡ false) × (state.log ≡ None)

-- What somebody gets of a log that isn't there or is, and the state after that.
abbrev pub lent : {D : Type 0} → Option (DurableLog D) → LogState D → LogLoan D × LogState D
lent None state = (Failed, state)
lent (Some log) state = (Log log, record state { log = None })

-- What who waited for the first operations gets, and the state after that.
abbrev pub lent_log : {D : Type 0} → LogState D → ℕ → LogLoan D × LogState D
lent_log state count =
    if state.failed then (Failed, state)
    else if nat_lt state.synced count then lent state.log state else (Synced, state)
