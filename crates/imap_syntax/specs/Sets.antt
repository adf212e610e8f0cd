-- Sequence sets as they are written (RFC 9051, section 9, sequence-set).

use Rattle.std.specs.Prelude.{codes, ◌≡◌, ◌⊎◌, ℕ, List}
use Rattle.imap_types.specs.declared.sequence_set.SequenceBound.{SequenceBound}
use Rattle.imap_types.specs.declared.sequence_set.SequenceBound.TheVariants.{Number, Greatest}
use Rattle.imap_types.specs.declared.sequence_set.SequenceRange.{SequenceRange}
use Rattle.imap_syntax.specs.Languages.{◌⌢◌, exactly, listed}
use Rattle.imap_syntax.specs.Strings.{nz}

-- A number, or `*` (RFC 9051, section 9, seq-number).
abbrev pub bound : SequenceBound → List ℕ → Type 0
bound (Number value) = nz value
bound Greatest = exactly (codes "*")

-- Two bounds with `:` between them, or a single bound that is both (RFC 9051, section 9,
-- seq-range).
abbrev pub range : SequenceRange → List ℕ → Type 0
range this text =
    (bound this.first ⌢ exactly (codes ":") ⌢ bound this.last) text
    ⊎ (bound this.first text × (this.first ≡ this.last))

-- One or more ranges with commas between them (RFC 9051, section 9, sequence-set).
abbrev pub sequence_set : List SequenceRange → List ℕ → Type 0
sequence_set = listed (exactly (codes ",")) range
