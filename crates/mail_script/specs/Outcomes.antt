-- The texts of the lines that report the outcomes of a script's deliveries, exchanges, comparisons
-- and joins, and why a script ended early.

use Rattle.std.specs.Prelude.{ℕ, Bool, true, false, List, [], ◌∷◌, ◌++◌, codes}
use Rattle.std.specs.Fmt.{decimal}
use Rattle.tags_clocks.specs.declared.id.OpId.{OpId}
use Rattle.mail_script.specs.Fields.{id_text}
use Rattle.mail_script.specs.declared.outcome_line.BrokenRule.{BrokenRule}
use Rattle.mail_script.specs.declared.outcome_line.BrokenRule.TheVariants.{OwnEntry, UncoveredId}
use Rattle.mail_script.specs.declared.outcome_line.BrokenRule.TheVariants.{UnlawfulName}
use Rattle.mail_script.specs.declared.outcome_line.BrokenRule.TheVariants.{UnlawfulFlags}
use Rattle.mail_script.specs.declared.outcome_line.BrokenRule.TheVariants.{InboxDeleted, OldIdCount}
use Rattle.mail_script.specs.declared.outcome_line.DeliveryResult.{DeliveryResult}
use Rattle.mail_script.specs.declared.outcome_line.DeliveryResult.TheVariants.{Applied, Conflict}
use Rattle.mail_script.specs.declared.outcome_line.DeliveryResult.TheVariants.{Exhausted, Held}
use Rattle.mail_script.specs.declared.outcome_line.DeliveryResult.TheVariants.{HeldFull}
use Rattle.mail_script.specs.declared.outcome_line.DeliveryResult.TheVariants.{NoMemory as NoMemoryForIt}
use Rattle.mail_script.specs.declared.outcome_line.DeliveryResult.TheVariants.{Repeat}
use Rattle.mail_script.specs.declared.outcome_line.JoinResult.{JoinResult}
use Rattle.mail_script.specs.declared.outcome_line.JoinResult.TheVariants.{Done as DoneJoining}
use Rattle.mail_script.specs.declared.outcome_line.JoinResult.TheVariants.{Exhausted as ExhaustedByJoin}
use Rattle.mail_script.specs.declared.outcome_line.JoinResult.TheVariants.{NoMemory as NoMemoryToJoin}
use Rattle.mail_script.specs.declared.outcome_line.JoinResult.TheVariants.{Own}
use Rattle.mail_script.specs.declared.outcome_line.SettleResult.{SettleResult}
use Rattle.mail_script.specs.declared.outcome_line.SettleResult.TheVariants.{Conflict as ConflictOfTwo}
use Rattle.mail_script.specs.declared.outcome_line.SettleResult.TheVariants.{Done}
use Rattle.mail_script.specs.declared.outcome_line.SettleResult.TheVariants.{Exhausted as ExhaustedInIt}
use Rattle.mail_script.specs.declared.outcome_line.SettleResult.TheVariants.{NoMemory as NoMemoryToSettle}
use Rattle.mail_script.specs.declared.outcome_line.OutcomeLine.{OutcomeLine}
use Rattle.mail_script.specs.declared.outcome_line.OutcomeLine.TheVariants.{Delivered, Forged}
use Rattle.mail_script.specs.declared.outcome_line.OutcomeLine.TheVariants.{Unsound, Drained}
use Rattle.mail_script.specs.declared.outcome_line.OutcomeLine.TheVariants.{Settled, Agreed, Joined}
use Rattle.mail_script.specs.declared.outcome_line.OutcomeLine.TheVariants.{BadScript, CannotRead}
use Rattle.mail_script.specs.declared.outcome_line.OutcomeLine.TheVariants.{NoMemory}

-- The word that reports that a ripe operation is still held.
abbrev pub stalled_text : Bool → List ℕ
stalled_text true = codes " stalled"
stalled_text false = []

-- The number of operations that were applied.
abbrev pub applied_text : ℕ → Bool → List ℕ
applied_text count stalled = codes "Applied " ++ (decimal count ++ stalled_text stalled)

-- The result of a delivery.
abbrev pub result_text : DeliveryResult → List ℕ
result_text (Applied count stalled) = applied_text count stalled
result_text (Held stalled) = codes "Held" ++ stalled_text stalled
result_text (Repeat stalled) = codes "Repeat" ++ stalled_text stalled
result_text (Conflict id) = codes "Conflict " ++ id_text id
result_text HeldFull = codes "HeldFull"
result_text Exhausted = codes "Exhausted"
result_text NoMemoryForIt = codes "NoMemory"

-- The rule that an operation breaks.
abbrev pub rule_text : BrokenRule → List ℕ
rule_text OwnEntry = codes "U1"
rule_text UncoveredId = codes "U2"
rule_text UnlawfulName = codes "U3"
rule_text UnlawfulFlags = codes "U4"
rule_text InboxDeleted = codes "U5"
rule_text OldIdCount = codes "U6"

-- An operation and the replica to which it was delivered.
abbrev pub delivery_text : OpId → ℕ → List ℕ
delivery_text id replica = id_text id ++ (32 ∷ (decimal replica ++ codes ": "))

-- The result of an exchange between all replicas.
abbrev pub settled_text : SettleResult → List ℕ
settled_text Done = codes "Ok"
settled_text (ConflictOfTwo id) = codes "Conflict " ++ id_text id
settled_text ExhaustedInIt = codes "Exhausted"
settled_text NoMemoryToSettle = codes "NoMemory"

-- The two replicas that a line is about.
abbrev pub pair_text : ℕ → ℕ → List ℕ
pair_text first second = decimal first ++ (32 ∷ (decimal second ++ codes ": "))

-- Whether both replicas applied the same operations.
abbrev pub yes_or_no : Bool → List ℕ
yes_or_no true = codes "yes"
yes_or_no false = codes "no"

-- Whether a replica joined, or why not.
abbrev pub join_text : JoinResult → List ℕ
join_text DoneJoining = codes "Ok"
join_text (Own id) = codes "Own " ++ id_text id
join_text ExhaustedByJoin = codes "Exhausted"
join_text NoMemoryToJoin = codes "NoMemory"

-- The text of an outcome's line.
abbrev pub outcome_text : OutcomeLine → List ℕ
outcome_text (Delivered id replica result) =
    codes "deliver " ++ (delivery_text id replica ++ result_text result)
outcome_text (Forged id replica result) =
    codes "forge " ++ (delivery_text id replica ++ result_text result)
outcome_text (Unsound rule) = codes "forge: Unsound " ++ rule_text rule
outcome_text (Drained replica count stalled) =
    codes "drain " ++ (decimal replica ++ (codes ": " ++ applied_text count stalled))
outcome_text (Settled result) = codes "settle: " ++ settled_text result
outcome_text (Agreed first second same) =
    codes "agree " ++ (pair_text first second ++ yes_or_no same)
outcome_text (Joined replica peer result) =
    codes "join " ++ (pair_text replica peer ++ join_text result)
outcome_text (BadScript line) = codes "bad script: line " ++ decimal line
outcome_text CannotRead = codes "cannot read"
outcome_text NoMemory = codes "no memory"

-- An outcome's line with its LF (10).
abbrev pub outcome_line : OutcomeLine → List ℕ
outcome_line outcome = outcome_text outcome ++ 10 ∷ []
