-- The lines that report results, among the output of a script, with the ranges of their numbers.

use Rattle.std.specs.Prelude.{◌≡◌, ℕ, ◌<◌, ◌^◌, List}
use Rattle.mail_script.specs.Fields.{IsId, IsReplica}
use Rattle.mail_script.specs.Outcomes.{outcome_text}
use Rattle.mail_script.specs.declared.outcome_line.DeliveryResult.{DeliveryResult}
use Rattle.mail_script.specs.declared.outcome_line.DeliveryResult.TheVariants.{Applied, Conflict}
use Rattle.mail_script.specs.declared.outcome_line.JoinResult.{JoinResult}
use Rattle.mail_script.specs.declared.outcome_line.JoinResult.TheVariants.{Own}
use Rattle.mail_script.specs.declared.outcome_line.OutcomeLine.{OutcomeLine}
use Rattle.mail_script.specs.declared.outcome_line.OutcomeLine.TheVariants.{Delivered, Forged}
use Rattle.mail_script.specs.declared.outcome_line.OutcomeLine.TheVariants.{Unsound, Drained}
use Rattle.mail_script.specs.declared.outcome_line.OutcomeLine.TheVariants.{Settled, Agreed, Joined}
use Rattle.mail_script.specs.declared.outcome_line.OutcomeLine.TheVariants.{BadScript, CannotRead}
use Rattle.mail_script.specs.declared.outcome_line.OutcomeLine.TheVariants.{NoMemory}
use Rattle.mail_script.specs.declared.outcome_line.SettleResult.{SettleResult}
use Rattle.mail_script.specs.declared.outcome_line.SettleResult.TheVariants.{Conflict as ConflictOfTwo}

-- A count of operations that a line may report: one of 64 bits.
abbrev pub IsCount : ℕ → Type 0
IsCount count = count < 2 ^ 64

-- The result of a delivery, with a count and an id that a line may report.
abbrev pub IsDeliveryResult : DeliveryResult → Type 0
IsDeliveryResult (Applied count stalled) = IsCount count
IsDeliveryResult (Conflict id) = IsId id
IsDeliveryResult _ = Unit {0}

-- The result of an exchange, with an id that a line may report.
abbrev pub IsSettleResult : SettleResult → Type 0
IsSettleResult (ConflictOfTwo id) = IsId id
IsSettleResult _ = Unit {0}

-- The result of a join, with an id that a line may report.
abbrev pub IsJoinResult : JoinResult → Type 0
IsJoinResult (Own id) = IsId id
IsJoinResult _ = Unit {0}

-- The outcome of a delivery, a drain, an exchange, a comparison or a join, and not of a whole
-- script; its ids, replicas and counts are in range.
abbrev pub IsReportable : OutcomeLine → Type 0
IsReportable (Delivered id replica result) = IsId id × IsReplica replica × IsDeliveryResult result
IsReportable (Forged id replica result) = IsId id × IsReplica replica × IsDeliveryResult result
IsReportable (Unsound rule) = Unit {0}
IsReportable (Drained replica count stalled) = IsReplica replica × IsCount count
IsReportable (Settled result) = IsSettleResult result
IsReportable (Agreed first second same) = IsReplica first × IsReplica second
IsReportable (Joined replica peer result) = IsReplica replica × IsReplica peer × IsJoinResult result
IsReportable (BadScript line) = ⊥
IsReportable CannotRead = ⊥
IsReportable NoMemory = ⊥

-- A line that reports the result of a delivery, a drain, an exchange, a comparison or a join.
abbrev pub IsResult : List ℕ → Type 0
IsResult line = (reported : OutcomeLine) × IsReportable reported × (line ≡ outcome_text reported)
