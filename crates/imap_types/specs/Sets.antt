-- The numbers that a sequence set names, given the greatest number in use (RFC 9051, section 9,
-- sequence-set).

use Rattle.std.specs.Prelude.{ℕ, nat_le, min, max, Bool, ◌&&◌, List}
use Rattle.std.specs.List.{list_any}
use Rattle.imap_types.specs.declared.sequence_set.SequenceBound.{SequenceBound}
use Rattle.imap_types.specs.declared.sequence_set.SequenceBound.TheVariants.{Number, Greatest}
use Rattle.imap_types.specs.declared.sequence_set.SequenceRange.{SequenceRange}

-- The number or UID that a bound stands for.
abbrev pub bound_of : ℕ → SequenceBound → ℕ
bound_of top (Number n) = n
bound_of top Greatest = top

-- The number lies between the two, in either order.
abbrev pub is_between : ℕ → ℕ → ℕ → Bool
is_between a b n = nat_le (min a b) n && nat_le n (max a b)

-- The range names the number.
abbrev pub range_names : ℕ → ℕ → SequenceRange → Bool
range_names top n range = is_between (bound_of top range.first) (bound_of top range.last) n

-- The set names the number.
abbrev pub set_names : ℕ → List SequenceRange → ℕ → Bool
set_names top set n = list_any (range_names top n) set
