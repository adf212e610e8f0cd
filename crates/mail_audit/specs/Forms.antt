-- The lines that a script may print besides op lines, regardless of the lines around them.

use Rattle.std.specs.Prelude.{◌≡◌, ◌⊎◌, ℕ, List, ◌∷◌, ◌++◌, codes}
use Rattle.imap_types.specs.DateTimes.{IsDateTime}
use Rattle.imap_types.specs.Escape.{AreOctets}
use Rattle.imap_types.specs.declared.flags.Flags.{Flags}
use Rattle.tags_clocks.specs.declared.id.OpId.{OpId}
use Rattle.crdt_ops.specs.Form.{AreIds, HasWords, IsId, IsReplica}
use Rattle.crdt_ops.specs.Text.{flags_text, id_text, ids_text, text_field, name_text}
pub use Rattle.mail_audit.specs.Audits.{IsSpokenLine}
use Rattle.mail_audit.specs.Dumps.{dump_line}
use Rattle.mail_audit.specs.Results.{IsResult}

-- A name followed by ids.
abbrev pub AreTagFields : List ℕ → Type 0
AreTagFields fields =
    (name : List ℕ)
    × (ids : List OpId)
    × AreOctets name
    × AreIds ids
    × (fields ≡ name_text name ++ 32 ∷ ids_text ids)

-- The text of a list of ids.
abbrev pub AreIdsText : List ℕ → Type 0
AreIdsText text = (ids : List OpId) × AreIds ids × (text ≡ ids_text ids)

-- The texts of an origin and of a message's flags, date and text.
abbrev pub AreAppendFields : List ℕ → List ℕ → Type 0
AreAppendFields origin rest =
    (id : OpId) × (flags : Flags) × (date : List ℕ) × (text : List ℕ)
    × IsId id × HasWords flags × IsDateTime date × AreOctets text
    × (origin ≡ id_text id) × (rest ≡ flags_text flags ++ 32 ∷ (date ++ 32 ∷ text_field text))

-- An origin followed by versions, flags, a date and a text.
abbrev pub AreMessageFields : List ℕ → Type 0
AreMessageFields fields =
    (origin : OpId) × (versions : List OpId) × (flags : Flags) × (date : List ℕ) × (text : List ℕ)
    × IsId origin × AreIds versions × HasWords flags × IsDateTime date × AreOctets text
    × (fields
    ≡ id_text origin ++ 32
    ∷ (ids_text versions ++ 32 ∷ (flags_text flags ++ 32 ∷ (date ++ 32 ∷ text_field text))))

-- A line in the form of a folder's, a message's or a subscription's line.
abbrev pub IsStateLine : List ℕ → Type 0
IsStateLine line =
    (fields : List ℕ)
    × (((line ≡ codes "folder " ++ fields) × AreTagFields fields)
    ⊎ (((line ≡ codes "message " ++ fields) × AreMessageFields fields)
    ⊎ ((line ≡ codes "subscribed " ++ fields) × AreTagFields fields)))

-- A dump's first or last line, one of its folder, message or subscription lines, a line of a
-- transcript, or one that reports a result.
abbrev pub IsOtherLine : List ℕ → Type 0
IsOtherLine line =
    (line ≡ codes "end")
    ⊎ (((replica : ℕ) × IsReplica replica × (line ≡ dump_line replica))
    ⊎ (IsStateLine line ⊎ (IsSpokenLine line ⊎ IsResult line)))
