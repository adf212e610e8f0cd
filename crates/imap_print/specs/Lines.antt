-- The lines that answer most commands: the flags of a message, and a tagged OK without a code (RFC
-- 9051, sections 7.1.1 and 7.5.2).

use Rattle.std.specs.Prelude.{◌≡◌, ℕ, List, [], ◌++◌, codes, decimal, Some, None}
use Rattle.imap_types.specs.Flags.{flag_texts}
use Rattle.imap_types.specs.declared.flags.Flags.{Flags}
use Rattle.imap_answers.specs.declared.fetch_items.FetchItems.{FetchItems}
use Rattle.imap_answers.specs.Strings.{separated_by}

-- FETCH items that are only a message's flags.
abbrev pub only_flags : Flags → FetchItems
only_flags flags =
    record {
      uid = None;
      flags = Some flags;
      date = None;
      size = None;
      modseq = None;
      sections = [];
    }

-- The text after the number, in a line of FETCH that sends only flags (RFC 9051, section 7.5.2).
abbrev pub flags_end : Flags → List ℕ
flags_end flags = codes " FETCH (FLAGS (" ++ separated_by 32 (flag_texts flags) ++ codes "))\r\n"

-- The items are only flags, and this is the text after the number in their line.
abbrev pub EndsFlags : FetchItems → List ℕ → Type 0
EndsFlags items end = (flags : Flags) × (items ≡ only_flags flags) × (end ≡ flags_end flags)

-- A line from the number of its message and the text after that number.
abbrev pub numbered_line : ℕ → List ℕ → List ℕ
numbered_line number end = codes "* " ++ decimal number ++ end

-- The line of a command that is completed without a code (RFC 9051, section 7.1.1).
abbrev pub done_line : List ℕ → List ℕ → List ℕ
done_line tag word = tag ++ codes " OK " ++ word ++ codes " completed\r\n"
