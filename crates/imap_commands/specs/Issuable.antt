-- The operations that commands may issue: lawful changes of listed messages.

use Rattle.std.specs.Prelude.{◌≡◌, ◌≤◌, ℕ, List, length, IsTrue}
use Rattle.std.specs.List.{list_all}
use Rattle.crdt_ops.specs.declared.kind.Kind.{Kind}
use Rattle.crdt_ops.specs.declared.kind.Kind.TheVariants.{Create, Delete, Append, Expunge, Store}
use Rattle.crdt_ops.specs.declared.kind.Kind.TheVariants.{Subscribe, Unsubscribe}
use Rattle.imap_types.specs.Flags.{IsLawfulFlags}
use Rattle.imap_types.specs.Keywords.{is_lawful_keyword}
use Rattle.mailbox_rows.specs.ListedMessage.{ListedMessage}
use Rattle.merge_laws.specs.Orders.{IsIn}
use Rattle.tags_clocks.specs.declared.id.OpId.{OpId}

-- Each keyword of each listed message is one that a message may bear. (A message's versions
-- together may have more keywords than one operation may carry.)
abbrev pub HaveLawfulKeywords : List ListedMessage → Type 0
HaveLawfulKeywords rows =
    (row : ListedMessage) → IsIn row rows → IsTrue (list_all is_lawful_keyword row.flags.keywords)

-- The ids are those of all versions of a listed message.
abbrev pub AreListedIds : List ListedMessage → List OpId → Type 0
AreListedIds rows old_ids = (row : ListedMessage) × IsIn row rows × (old_ids ≡ row.versions)

-- The ids are those of all versions of a listed message, and `origin` is the id of its Append.
abbrev pub AreListedWithOrigin : List ListedMessage → List OpId → OpId → Type 0
AreListedWithOrigin rows old_ids origin =
    (row : ListedMessage) × IsIn row rows × (old_ids ≡ row.versions) × (origin ≡ row.origin)

-- The kind lawfully changes a message of the folder's listing and names no more ids than one
-- operation may, or it appends a copy with lawful flags to the destination.
abbrev pub IsIssuable : List ℕ → List ℕ → List ListedMessage → Kind → Type 0
IsIssuable folder destination rows (Store f flags old_ids origin) =
    (f ≡ folder)
    × IsLawfulFlags flags
    × (length old_ids ≤ 64)
    × AreListedWithOrigin rows old_ids origin
IsIssuable folder destination rows (Expunge f old_ids) =
    (f ≡ folder) × (length old_ids ≤ 64) × AreListedIds rows old_ids
IsIssuable folder destination rows (Append f flags date text) =
    (f ≡ destination) × IsLawfulFlags flags
IsIssuable folder destination rows (Create f) = ⊥
IsIssuable folder destination rows (Delete f seen) = ⊥
IsIssuable folder destination rows (Subscribe name) = ⊥
IsIssuable folder destination rows (Unsubscribe name seen) = ⊥

-- Each of these operations is issuable.
abbrev pub AreIssuable : List ℕ → List ℕ → List ListedMessage → List Kind → Type 0
AreIssuable folder destination rows kinds =
    (kind : Kind) → IsIn kind kinds → IsIssuable folder destination rows kind
