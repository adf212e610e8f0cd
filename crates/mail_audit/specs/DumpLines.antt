-- How the audit reads a dump, line by line. The meaning of a right dump is defined by
-- `IsRightDump`.

use Rattle.std.specs.Prelude.{◌≡◌, ◌⊎◌, ℕ, ◌+◌, ◌<◌, ◌≤◌, true, false, List, [], ◌∷◌, ◌++◌, length}
use Rattle.std.specs.Prelude.{drop, codes}
use Rattle.std.specs.List.{flat_map}
use Rattle.std.specs.declared.cmp.Ordering.TheVariants.{Less}
use Rattle.tags_clocks.specs.declared.id.OpId.{OpId}
use Rattle.causal_inbox.specs.Inbox.{IsReceived, ReceivedOps}
use Rattle.crdt_ops.specs.Form.{IsInForm, IsSpelled}
use Rattle.crdt_ops.specs.SortedSets.{id_order}
use Rattle.crdt_ops.specs.Sound.{IsSound}
use Rattle.crdt_ops.specs.declared.op.Op.{Op}
use Rattle.merge_laws.specs.Orders.{AreSound, IsCausal, IsIn}
use Rattle.mail_audit.specs.Audits.{IsNoEnd, text_of}
use Rattle.crdt_ops.specs.DumpLines.{op_line, state_text}
use Rattle.mail_audit.specs.Dumps.{AreDumped, AreOrdered, HasCauses, inside_text}
use Rattle.mail_audit.specs.declared.expected_lines.Expected.{Expected}
use Rattle.mail_audit.specs.declared.expected_lines.Expected.TheVariants.{Lines, WrongOp}
use Rattle.mail_audit.specs.declared.open_dump.Comparison.{Comparison}
use Rattle.mail_audit.specs.declared.open_dump.DumpPhase.{DumpPhase}
use Rattle.mail_audit.specs.declared.open_dump.DumpPhase.TheVariants.{Ops, State}
use Rattle.mail_audit.specs.declared.open_dump.DumpStep.{DumpStep}
use Rattle.mail_audit.specs.declared.open_dump.DumpStep.TheVariants.{Continues, Ends, Wrong}
use Rattle.mail_audit.specs.declared.open_dump.DumpStep.TheVariants.{Unreadable}
use Rattle.mail_audit.specs.declared.line_forms.DumpLine.{DumpLine}
use Rattle.mail_audit.specs.declared.line_forms.DumpLine.TheVariants as line
use Rattle.mail_audit.specs.declared.op_lines.OpLines.{OpLines}
use Rattle.crdt_ops.specs.Ops.{clock_of, id_of}

-- The line is `op ` and a text that spells the operation.
abbrev pub IsOp : List ℕ → Op → Type 0
IsOp text op = (spelled : List ℕ) × (text ≡ codes "op " ++ spelled) × IsSpelled op spelled

-- The kind of a line of a dump: one that spells its operation, or one that spells none.
abbrev pub IsDumpLine : List ℕ → DumpLine → Type 0
IsDumpLine text (line.Op op) = IsOp text op
IsDumpLine text line.Other = (op : Op) → ¬ IsOp text op
IsDumpLine text line.Unreadable = (op : Op) → ¬ IsOp text op

-- A further op line was taken: it is good and follows the others, or all lines from it on count as
-- bad.
abbrev pub HasTakenOp : OpLines → Op → OpLines → Type 0
HasTakenOp old op new =
    ((old.is_bad ≡ false) × (new.is_bad ≡ false) × (new.ops.items ≡ old.ops.items ++ op ∷ [])
    × (AreOrdered old.ops.items → AreOrdered new.ops.items))
    ⊎ ((new.is_bad ≡ true) × (new.ops.items ≡ old.ops.items))

-- The id is above that of the last operation.
abbrev pub IsAboveLast : List Op → OpId → Type 0
IsAboveLast [] id = Unit {0}
IsAboveLast (op ∷ []) id = id_order op.id id ≡ Less
IsAboveLast (op ∷ next ∷ ops) id = IsAboveLast (next ∷ ops) id

-- The inbox has received no other operations than these.
abbrev pub HasReceivedOnly : {S : Type 0} → List Op → ReceivedOps S Op → Type 0
HasReceivedOnly ops received = (o : Op) → IsReceived received o → IsIn o ops

-- The lines that must follow these op lines: those of the state that the set of their operations
-- defines, if the causes are among them.
abbrev pub IsExpected : List Op → Expected → Type 0
IsExpected ops (Lines lines) =
    HasCauses ops
    × AreSound IsSound ops
    × (lines.items ≡ state_text ops ++ (codes "end" ++ 10 ∷ []))
IsExpected ops (WrongOp place) = place < length ops

-- The lines that must follow these applied operations.
abbrev pub IsExpectedOf : List Op → Expected → Type 0
IsExpectedOf applied (Lines lines) =
    AreSound IsSound applied × IsCausal id_of clock_of applied
    × (lines.items ≡ state_text applied ++ (codes "end" ++ 10 ∷ []))
IsExpectedOf applied (WrongOp place) = ⊥

-- These op lines are the lines of a dump so far, after its first.
abbrev pub AreOps : List (List ℕ) → OpLines → Type 0
AreOps inside lines =
    (length lines.ops.items ≤ length inside)
    × (lines.is_bad ≡ true → length lines.ops.items < length inside)
    × (lines.is_bad ≡ false
    → (text_of inside ≡ flat_map op_line lines.ops.items) × AreSound IsInForm lines.ops.items)
    × AreOrdered lines.ops.items

abbrev pub IsPhase : List (List ℕ) → DumpPhase → Type 0
IsPhase inside (Ops lines) = AreOps inside lines
IsPhase inside (State comparison) =
    (ops : List Op) × AreDumped ops × (comparison.pos ≤ length comparison.lines.items)
    × (text_of inside ++ drop comparison.pos comparison.lines.items ≡ inside_text ops)

-- The lines that must follow the op lines, or the place at which the op lines are wrong.
abbrev pub AreLinesAfterOps : List (List ℕ) → Expected → Type 0
AreLinesAfterOps inside (Lines lines) =
    (ops : List Op) × AreDumped ops × (text_of inside ++ lines.items ≡ inside_text ops)
AreLinesAfterOps inside (WrongOp place) = place ≤ length inside

-- The effect of a line that can't be read after op lines.
abbrev pub IsUnreadableStep : ℕ → OpLines → DumpStep → Type 0
IsUnreadableStep first lines Continues = ⊥
IsUnreadableStep first lines Ends = ⊥
IsUnreadableStep first lines (Wrong number) =
    (first < number) × (number ≤ first + 1 + length lines.ops.items)
IsUnreadableStep first lines Unreadable = Unit {0}

-- The effect of a line of a dump whose first line has this number and is followed by the lines
-- `inside`.
abbrev pub IsStep : ℕ → List (List ℕ) → List ℕ → DumpPhase → DumpStep → Type 0
IsStep first inside line phase Continues = IsPhase (inside ++ line ∷ []) phase × IsNoEnd line
IsStep first inside line phase Ends =
    (ops : List Op) × AreDumped ops × (text_of (inside ++ line ∷ []) ≡ inside_text ops)
IsStep first inside line phase (Wrong number) =
    (first < number) × (number ≤ first + 1 + length inside)
IsStep first inside line phase Unreadable = Unit {0}

-- The next line was taken.
abbrev pub HasTakenLine : Comparison → List ℕ → Comparison → Type 0
HasTakenLine old line new =
    (new.lines.items ≡ old.lines.items) × (new.pos ≤ length new.lines.items)
    × (drop old.pos old.lines.items ≡ line ++ 10 ∷ drop new.pos old.lines.items)

-- The effect of a line, of this number, that is compared with the next expected one.
abbrev pub IsCompared : Comparison → List ℕ → ℕ → Comparison → DumpStep → Type 0
IsCompared old line number new Continues = HasTakenLine old line new × IsNoEnd line
IsCompared old line number new Ends = HasTakenLine old line new × (new.pos ≡ length new.lines.items)
IsCompared old line number new (Wrong named) = named ≡ number
IsCompared old line number new Unreadable = Unit {0}

-- The effect of a line, of this number, that is the next expected one.
abbrev pub IsMatchStep : Comparison → List ℕ → ℕ → DumpStep → Type 0
IsMatchStep comparison line number Continues = IsNoEnd line
IsMatchStep comparison line number Ends = comparison.pos ≡ length comparison.lines.items
IsMatchStep comparison line number (Wrong named) = named ≡ number
IsMatchStep comparison line number Unreadable = ⊥
