-- Which message got which mod-sequence (RFC 7162, section 3.1), by ascending mod-sequence.

use Rattle.std.specs.Prelude.{ℕ, ◌≤◌, nat_lt, max, List, [], ◌∷◌, map}
use Rattle.std.specs.List.{filter}
use Rattle.modseq_index.specs.declared.index.ModSeqEntry.{ModSeqEntry}

-- The entries in order, and how many further ones need no more memory.
pub record IndexState : Type 0 where
  pub entries : List ModSeqEntry
  pub room : ℕ

-- The mod-sequences ascend, the first of them at least `low`; neighbours may be equal.
abbrev pub AreInOrder : ℕ → List ModSeqEntry → Type 0
AreInOrder low [] = Unit {0}
AreInOrder low (e ∷ es) = (low ≤ e.modseq) × AreInOrder e.modseq es

-- The greatest mod-sequence of the entries; 0 if there are none.
abbrev pub latest : List ModSeqEntry → ℕ
latest [] = 0
latest (e ∷ es) = max e.modseq (latest es)

-- The UIDs of the entries whose mod-sequences are above `modseq`.
abbrev pub uids_above : ℕ → List ModSeqEntry → List ℕ
uids_above modseq es = map (λ e. e.uid) (filter (λ e. nat_lt modseq e.modseq) es)
