-- Entries that changed since a mod-sequence (RFC 7162, section 3.1), and how an index by
-- mod-sequence finds them.

use Rattle.std.specs.Prelude.{◌≡◌, ℕ, ◌≤◌, ◌==◌, ◌&&◌, nat_lt, Bool, true, List, [], ◌∷◌, map}
use Rattle.std.specs.List.{filter, list_any}
use Rattle.modseq_index.specs.declared.index.ModSeqEntry.{ModSeqEntry}
use Rattle.mailbox_rows.specs.declared.entry.ListingEntry.{ListingEntry}

-- The entries whose mod-sequences are above `modseq`.
abbrev pub changed_since : ℕ → List ListingEntry → List ListingEntry
changed_since modseq es = filter (λ e. nat_lt modseq e.modseq) es

-- The entry with this UID, if its mod-sequence is above `modseq`.
abbrev pub changed_with : ℕ → ℕ → List ListingEntry → List ListingEntry
changed_with modseq uid es = filter (λ e. (e.uid == uid) && nat_lt modseq e.modseq) es

-- Whether an entry of an index has a listing entry's mod-sequence and UID.
abbrev pub is_of : ListingEntry → ModSeqEntry → Bool
is_of e c = (c.modseq == e.modseq) && (c.uid == e.uid)

-- The entry's mod-sequence and UID are in the index.
abbrev pub IsNoted : List ModSeqEntry → ListingEntry → Type 0
IsNoted cs e = list_any (is_of e) cs ≡ true

-- The mod-sequence and UID of each of the entries are in the index. The index may have others too.
abbrev pub AreNoted : List ModSeqEntry → List ListingEntry → Type 0
AreNoted cs [] = Unit {0}
AreNoted cs (e ∷ es) = IsNoted cs e × AreNoted cs es

-- The mod-sequences and UIDs of these entries.
abbrev pub modseq_entries_of : List ListingEntry → List ModSeqEntry
modseq_entries_of es = map (λ e. record { modseq = e.modseq; uid = e.uid }) es

-- The UIDs ascend, the first of them at least `low`; neighbours may be equal.
abbrev pub AreAscending : ℕ → List ℕ → Type 0
AreAscending low [] = Unit {0}
AreAscending low (u ∷ us) = (low ≤ u) × AreAscending u us

-- The entries whose mod-sequences are above `modseq` have UIDs among these.
abbrev pub AreAmong : ℕ → List ℕ → List ListingEntry → Type 0
AreAmong modseq us [] = Unit {0}
AreAmong modseq us (e ∷ es) =
    (nat_lt modseq e.modseq ≡ true → list_any (λ u. u == e.uid) us ≡ true) × AreAmong modseq us es
