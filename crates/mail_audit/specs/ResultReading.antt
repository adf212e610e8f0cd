-- How a line that reports a result is read. The meaning of such a line is defined by its text
-- (`IsResult`).

use Rattle.std.specs.Prelude.{ℕ, true, false, List, Option, Some, None, codes, if◌then◌else◌}
use Rattle.std.specs.Str.{bytes_eq}
use Rattle.mail_script.specs.declared.outcome_line.BrokenRule.TheVariants.{OwnEntry, UncoveredId}
use Rattle.mail_script.specs.declared.outcome_line.BrokenRule.TheVariants.{UnlawfulName}
use Rattle.mail_script.specs.declared.outcome_line.BrokenRule.TheVariants.{UnlawfulFlags}
use Rattle.mail_script.specs.declared.outcome_line.BrokenRule.TheVariants.{InboxDeleted, OldIdCount}
use Rattle.mail_script.specs.declared.outcome_line.DeliveryResult.{DeliveryResult}
use Rattle.mail_script.specs.declared.outcome_line.DeliveryResult.TheVariants.{Applied, Held}
use Rattle.mail_script.specs.declared.outcome_line.DeliveryResult.TheVariants.{Repeat, Conflict}
use Rattle.mail_script.specs.declared.outcome_line.DeliveryResult.TheVariants.{HeldFull, Exhausted}
use Rattle.mail_script.specs.declared.outcome_line.DeliveryResult.TheVariants.{NoMemory}
use Rattle.mail_script.specs.declared.outcome_line.JoinResult.{JoinResult}
use Rattle.mail_script.specs.declared.outcome_line.JoinResult.TheVariants.{Done as DoneJoining}
use Rattle.mail_script.specs.declared.outcome_line.JoinResult.TheVariants.{Exhausted as ExhaustedByJoin}
use Rattle.mail_script.specs.declared.outcome_line.JoinResult.TheVariants.{NoMemory as NoMemoryToJoin}
use Rattle.mail_script.specs.declared.outcome_line.JoinResult.TheVariants.{Own}
use Rattle.mail_script.specs.declared.outcome_line.OutcomeLine.{OutcomeLine}
use Rattle.mail_script.specs.declared.outcome_line.OutcomeLine.TheVariants.{Delivered, Forged}
use Rattle.mail_script.specs.declared.outcome_line.OutcomeLine.TheVariants.{Unsound, Drained}
use Rattle.mail_script.specs.declared.outcome_line.OutcomeLine.TheVariants.{Settled, Agreed, Joined}
use Rattle.mail_script.specs.declared.outcome_line.SettleResult.{SettleResult}
use Rattle.mail_script.specs.declared.outcome_line.SettleResult.TheVariants.{Conflict as ConflictOfTwo}
use Rattle.mail_script.specs.declared.outcome_line.SettleResult.TheVariants.{Done}
use Rattle.mail_script.specs.declared.outcome_line.SettleResult.TheVariants.{Exhausted as ExhaustedInIt}
use Rattle.mail_script.specs.declared.outcome_line.SettleResult.TheVariants.{NoMemory as NoMemoryToSettle}
use Rattle.text_fields.specs.FieldReading.{◌>>=◌, cut_at, id_at, number_at, replica_at}
use Rattle.mail_audit.specs.declared.results.AppliedCount.{AppliedCount}

-- A count, and whether a word follows it.
unfoldable pub counted_by : Option (List ℕ × List ℕ) → List ℕ → Option AppliedCount
counted_by None text =
    number_at 18446744073709551615 text
    >>= (λ count. Some (record { count = count; stalled = false }))
counted_by (Some parts) text =
    number_at 18446744073709551615 parts.0
    >>= (λ count. Some (record { count = count; stalled = true }))

-- A count with or without ` stalled`.
unfoldable pub counted_at : List ℕ → Option AppliedCount
counted_at text = counted_by (cut_at 32 text) text

-- The delivery result that is a single word.
unfoldable pub plain_at : List ℕ → Option DeliveryResult
plain_at word =
    if bytes_eq word (codes "Held") then Some (Held false) else
    (if bytes_eq word (codes "Repeat") then Some (Repeat false) else
    (if bytes_eq word (codes "HeldFull") then Some HeldFull else
    (if bytes_eq word (codes "Exhausted") then Some Exhausted else
    (if bytes_eq word (codes "NoMemory") then Some NoMemory else None))))

-- The result that another operation has this id.
abbrev pub conflict_at : List ℕ → Option DeliveryResult
conflict_at value = id_at value >>= (λ id. Some (Conflict id))

-- The result that this number of operations was applied.
abbrev pub applied_at : List ℕ → Option DeliveryResult
applied_at value = counted_at value >>= (λ counted. Some (Applied counted.count counted.stalled))

-- The delivery result that is a word with a text after it.
unfoldable pub valued_at : List ℕ → List ℕ → Option DeliveryResult
valued_at kind value =
    if bytes_eq kind (codes "Held") then Some (Held true) else
    (if bytes_eq kind (codes "Repeat") then Some (Repeat true) else
    (if bytes_eq kind (codes "Conflict") then conflict_at value else
    (if bytes_eq kind (codes "Applied") then applied_at value else None)))

-- The result of a delivery.
unfoldable pub result_by : Option (List ℕ × List ℕ) → List ℕ → Option DeliveryResult
result_by None text = plain_at text
result_by (Some parts) text = valued_at parts.0 parts.1

unfoldable pub result_at : List ℕ → Option DeliveryResult
result_at text = result_by (cut_at 32 text) text

-- The outcome after `deliver`.
unfoldable pub delivered_at : List ℕ → Option OutcomeLine
delivered_at fields = do
  name ← cut_at 32 fields
  to ← cut_at 58 name.1
  reported ← cut_at 32 to.1
  id ← id_at name.0
  replica ← replica_at to.0
  result ← result_at reported.1
  Some (Delivered id replica result)

-- The outcome after `forge`.
unfoldable pub forged_at : List ℕ → Option OutcomeLine
forged_at fields = do
  name ← cut_at 32 fields
  to ← cut_at 58 name.1
  reported ← cut_at 32 to.1
  id ← id_at name.0
  replica ← replica_at to.0
  result ← result_at reported.1
  Some (Forged id replica result)

-- The outcome after `forge:`.
unfoldable pub unsound_at : List ℕ → Option OutcomeLine
unsound_at fields =
    if bytes_eq fields (codes "Unsound U1") then Some (Unsound OwnEntry) else
    (if bytes_eq fields (codes "Unsound U2") then Some (Unsound UncoveredId) else
    (if bytes_eq fields (codes "Unsound U3") then Some (Unsound UnlawfulName) else
    (if bytes_eq fields (codes "Unsound U4") then Some (Unsound UnlawfulFlags) else
    (if bytes_eq fields (codes "Unsound U5") then Some (Unsound InboxDeleted) else
    (if bytes_eq fields (codes "Unsound U6") then Some (Unsound OldIdCount) else None)))))

-- The outcome after `drain`.
unfoldable pub drained_at : List ℕ → Option OutcomeLine
drained_at fields = do
  by ← cut_at 58 fields
  reported ← cut_at 32 by.1
  value ← cut_at 32 reported.1
  replica ← replica_at by.0
  counted ← counted_at value.1
  Some (Drained replica counted.count counted.stalled)

-- The result of an exchange that is a single word.
unfoldable pub settled_plainly_at : List ℕ → Option SettleResult
settled_plainly_at word =
    if bytes_eq word (codes "Ok") then Some Done else
    (if bytes_eq word (codes "Exhausted") then Some ExhaustedInIt else
    (if bytes_eq word (codes "NoMemory") then Some NoMemoryToSettle else None))

-- The result of an exchange.
unfoldable pub settle_result_by : Option (List ℕ × List ℕ) → List ℕ → Option SettleResult
settle_result_by None text = settled_plainly_at text
settle_result_by (Some parts) text = id_at parts.1 >>= (λ id. Some (ConflictOfTwo id))

unfoldable pub settle_result_at : List ℕ → Option SettleResult
settle_result_at text = settle_result_by (cut_at 32 text) text

-- The outcome after `settle:`.
unfoldable pub settled_at : List ℕ → Option OutcomeLine
settled_at fields = settle_result_at fields >>= (λ result. Some (Settled result))

-- The outcome after `agree`.
unfoldable pub agreed_at : List ℕ → Option OutcomeLine
agreed_at fields = do
  one ← cut_at 32 fields
  other ← cut_at 58 one.1
  first ← replica_at one.0
  second ← replica_at other.0
  Some (Agreed first second (bytes_eq other.1 (codes " yes")))

-- The result of a join that is a single word.
unfoldable pub joined_plainly_at : List ℕ → Option JoinResult
joined_plainly_at word =
    if bytes_eq word (codes "Ok") then Some DoneJoining else
    (if bytes_eq word (codes "Exhausted") then Some ExhaustedByJoin else
    (if bytes_eq word (codes "NoMemory") then Some NoMemoryToJoin else None))

-- The result of a join.
unfoldable pub join_result_by : Option (List ℕ × List ℕ) → List ℕ → Option JoinResult
join_result_by None text = joined_plainly_at text
join_result_by (Some parts) text = id_at parts.1 >>= (λ id. Some (Own id))

unfoldable pub join_result_at : List ℕ → Option JoinResult
join_result_at text = join_result_by (cut_at 32 text) text

-- The outcome after `join`.
unfoldable pub joined_at : List ℕ → Option OutcomeLine
joined_at fields = do
  one ← cut_at 32 fields
  other ← cut_at 58 one.1
  reported ← cut_at 32 other.1
  replica ← replica_at one.0
  peer ← replica_at other.0
  result ← join_result_at reported.1
  Some (Joined replica peer result)

-- The outcome of an exchange, a comparison or a join.
unfoldable pub replicas_at : List ℕ → List ℕ → Option OutcomeLine
replicas_at word fields =
    if bytes_eq word (codes "settle:") then settled_at fields else
    (if bytes_eq word (codes "agree") then agreed_at fields else
    (if bytes_eq word (codes "join") then joined_at fields else None))

-- The outcome of a word with its fields.
unfoldable pub fields_at : List ℕ → List ℕ → Option OutcomeLine
fields_at word fields =
    if bytes_eq word (codes "deliver") then delivered_at fields else
    (if bytes_eq word (codes "forge") then forged_at fields else
    (if bytes_eq word (codes "forge:") then unsound_at fields else
    (if bytes_eq word (codes "drain") then drained_at fields else replicas_at word fields)))

-- The outcome of a line.
unfoldable pub outcome_at : List ℕ → Option OutcomeLine
outcome_at line = do
  parts ← cut_at 32 line
  fields_at parts.0 parts.1
