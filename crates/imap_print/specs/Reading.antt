-- The reader's steps for strings, numbers and lists, as functions that the code computes.
-- `text_of_answer` of `imap_answers` says what an answer's text is (RFC 9051, sections 7 and 9).

use Rattle.std.specs.Prelude.{◌≡◌, ℕ, zero, suc, ◌+◌, ◌-◌, ◌*◌, Bool, true, false, ◌&&◌, not, ◌==◌}
use Rattle.std.specs.Prelude.{nat_le, List, [], ◌∷◌, ◌++◌, length, take, drop, min, codes, Option}
use Rattle.std.specs.Prelude.{Some, None, Result, Ok, Err, if◌then◌else◌}
use Rattle.imap_types.specs.DateTimes.{is_digit}
use Rattle.imap_types.specs.Keywords.{is_astring_octet, is_atom_octet, is_tag_octet}
use Rattle.imap_types.specs.Numbers.{are_runs_from, numbers_in}
pub use Rattle.imap_types.specs.ReaderSteps.{◌>>=◌, IsReadingBy, after, with_prefix}
use Rattle.imap_types.specs.declared.number_set.Run.{Run}
use Rattle.imap_print.specs.declared.fault.ReadFault.{ReadFault}
use Rattle.imap_print.specs.declared.fault.ReadFault.TheVariants.{NoMemory, NotPrinted}
use Rattle.imap_print.specs.declared.scanner.ScanClass.{ScanClass}
use Rattle.imap_print.specs.declared.scanner.ScanClass.TheVariants.{Tag, Astring, Atom}

-- A fault means that nothing was read; `NoMemory` may replace any result.
abbrev pub IsFaultOfReading : {Y : Type 0} → ReadFault → Option Y → Type 0
IsFaultOfReading NoMemory read = Unit {0}
IsFaultOfReading NotPrinted read = read ≡ None

-- The code's result is that of a reading function, unless memory runs out.
abbrev pub IsReading : {X Y : Type 0} → (X → Y) → Result X ReadFault → Option Y → Type 0
IsReading = IsReadingBy IsFaultOfReading

-- A value and the rest, if the text after the value was skipped.
abbrev pub value_with_rest : {A : Type 0} → A → Option (List ℕ) → Option (A × List ℕ)
value_with_rest x None = None
value_with_rest x (Some rest) = Some (x, rest)

-- The first of two results, if any, else the second.
abbrev pub or_else : {A : Type 0} → Option A → Option A → Option A
or_else None other = other
or_else (Some x) other = Some x

-- A function of the value read, with the rest.
abbrev pub map_value : {A B : Type 0} → (A → B) → Option (A × List ℕ) → Option (B × List ℕ)
map_value f None = None
map_value f (Some x) = Some (f x.0, x.1)

-- The value and the rest if its text was skipped, else another result.
abbrev pub word_or_else : {X : Type 0} → X → Option (List ℕ) → Option (X × List ℕ)
    → Option (X × List ℕ)
word_or_else x None other = other
word_or_else x (Some rest) other = Some (x, rest)

-- The first of some values whose text the octets begin with.
abbrev pub word_at : {X : Type 0} → (X → List ℕ) → List X → List ℕ → Option (X × List ℕ)
word_at text [] bytes = None
word_at text (x ∷ xs) bytes = word_or_else x (after (text x) bytes) (word_at text xs bytes)

-- The longest prefix whose octets all pass a test, and the rest.
abbrev pub span : (ℕ → Bool) → List ℕ → List ℕ × List ℕ
span p [] = ([], [])
span p (b ∷ bs) = if p b then (b ∷ (span p bs).0, (span p bs).1) else ([], b ∷ bs)

-- Whether an octet belongs to a class.
abbrev pub is_in : ScanClass → ℕ → Bool
is_in Tag octet = is_tag_octet octet
is_in Astring octet = is_astring_octet octet
is_in Atom octet = is_atom_octet octet

-- The number that further digits continue, at most the greatest number of 64 bits, and the rest.
abbrev pub number_from : ℕ → List ℕ → ℕ × List ℕ
number_from value [] = (value, [])
number_from value (b ∷ bs) =
    if is_digit b
    then number_from (min (min (value * 10) 18446744073709551615 + (b - 48)) 18446744073709551615)
    bs
    else (value, b ∷ bs)

-- The number, or the greatest number of 32 bits if it is greater.
abbrev pub capped_at_32_bits : ℕ → ℕ
capped_at_32_bits number = min number 4294967295

-- The octets read, with one octet before them, and the rest.
abbrev pub with_octet : ℕ → Option (List ℕ × List ℕ) → Option (List ℕ × List ℕ)
with_octet b None = None
with_octet b (Some x) = Some (b ∷ x.0, x.1)

-- The string up to the next `"` (34) that no `\` (92) escapes, without escapes, and the rest.
abbrev pub quoted_from : Bool → List ℕ → Option (List ℕ × List ℕ)
quoted_from escaped [] = None
quoted_from true (b ∷ bs) = with_octet b (quoted_from false bs)
quoted_from false (b ∷ bs) =
    if b == 34 then Some ([], bs)
    else (if b == 92 then quoted_from true bs else with_octet b (quoted_from false bs))

-- A string after its opening quote if that was skipped, else a string without quotes.
abbrev pub string_after_quote : Option (List ℕ) → List ℕ → Option (List ℕ × List ℕ)
string_after_quote None bytes = Some (span (is_in Astring) bytes)
string_after_quote (Some rest) bytes = quoted_from false rest

-- A string, with or without quotes.
abbrev pub string_at : List ℕ → Option (List ℕ × List ℕ)
string_at bytes = string_after_quote (after (codes "\"") bytes) bytes

-- The first `count` octets, if there are as many, and the rest.
abbrev pub octets_at : ℕ → List ℕ → Option (List ℕ × List ℕ)
octets_at count bytes =
    if nat_le count (length bytes) then Some (take count bytes, drop count bytes) else None

-- A literal.
unfoldable pub literal_at : List ℕ → Option (List ℕ × List ℕ)
literal_at bytes = do
  digits ← after (codes "{") bytes
  rest ← after (codes "}\r\n") (number_from 0 digits).1
  octets_at (number_from 0 digits).0 rest

-- The name of a header field.
unfoldable pub field_at : List ℕ → Option (List ℕ × List ℕ)
field_at bytes = or_else (literal_at bytes) (string_at bytes)

-- A run from its first number: a second number if a `:` was skipped, else only the first.
abbrev pub run_after_first : ℕ → Option (List ℕ) → List ℕ → Run × List ℕ
run_after_first first None rest =
    (record { first = capped_at_32_bits first; last = capped_at_32_bits first }, rest)
run_after_first first (Some more) rest =
    let last = number_from 0 more in
    (record { first = capped_at_32_bits first; last = capped_at_32_bits last.0 }, last.1)

-- A run of numbers: one number, or two with a `:` between.
abbrev pub run_at : List ℕ → Run × List ℕ
run_at bytes =
    run_after_first (number_from 0 bytes).0 (after (codes ":") (number_from 0 bytes).1)
    (number_from 0 bytes).1

-- A run and the runs after it, if a comma was skipped, else only this run.
abbrev pub runs_after : Run → Option (List ℕ) → List ℕ → (List ℕ → Option (List Run × List ℕ))
    → Option (List Run × List ℕ)
runs_after run None rest reader = Some (run ∷ [], rest)
runs_after run (Some more) rest reader = with_prefix (run ∷ []) (reader more)

-- At most `fuel` runs separated by commas.
abbrev pub runs_at : ℕ → List ℕ → Option (List Run × List ℕ)
runs_at zero bytes = None
runs_at (suc fuel) bytes =
    runs_after (run_at bytes).0 (after (codes ",") (run_at bytes).1) (run_at bytes).1 (runs_at fuel)

-- The numbers of runs, if these are a set.
abbrev pub numbers_of_set : Bool → List Run → List ℕ → Option (List ℕ × List ℕ)
numbers_of_set is_set runs rest = if is_set then Some (numbers_in runs, rest) else None

-- A set of numbers.
unfoldable pub set_at : List ℕ → Option (List ℕ × List ℕ)
set_at bytes = do
  runs ← runs_at (length bytes) bytes
  numbers_of_set (are_runs_from 1 runs.0) runs.0 runs.1

-- A text of a list, after a space unless it is the first.
abbrev pub lead : Bool → List ℕ → List ℕ
lead is_first text = if is_first then text else 32 ∷ text

-- The value read from a list, whether the list's next text is still the first, and the rest.
abbrev pub ListReading : Type 0 → Type 0
ListReading X = X × Bool × List ℕ

-- A flag that is set if its text was skipped.
abbrev pub flag_after : Bool → Option (List ℕ) → List ℕ → ListReading Bool
flag_after is_first None bytes = (false, is_first, bytes)
flag_after is_first (Some rest) bytes = (true, false, rest)

-- Whether a flag comes next.
abbrev pub flag_at : Bool → List ℕ → List ℕ → ListReading Bool
flag_at is_first text bytes = flag_after is_first (after (lead is_first text) bytes) bytes

-- The number after its label, if the label was skipped.
abbrev pub item_after : Bool → Option (List ℕ) → List ℕ → ListReading (Option ℕ)
item_after is_first None bytes = (None, is_first, bytes)
item_after is_first (Some rest) bytes = (Some (number_from 0 rest).0, false, (number_from 0 rest).1)

-- A label and its number, if the label comes next.
abbrev pub item_at : Bool → List ℕ → List ℕ → ListReading (Option ℕ)
item_at is_first label bytes = item_after is_first (after (lead is_first label) bytes) bytes

-- The words of a list from the next one on, if there is one.
abbrev pub words_after : Option (List ℕ) → List ℕ → (List ℕ → Option (List (List ℕ) × List ℕ))
    → Option (List (List ℕ) × List ℕ)
words_after None bytes reader = Some ([], bytes)
words_after (Some rest) bytes reader =
    if length (span (is_in Atom) rest).0 == 0 then Some ([], bytes)
    else with_prefix ((span (is_in Atom) rest).0 ∷ []) (reader (span (is_in Atom) rest).1)

-- Fewer than `fuel` words of a list, up to octets that are no word.
abbrev pub words_at : ℕ → Bool → List ℕ → Option (List (List ℕ) × List ℕ)
words_at zero is_first bytes = None
words_at (suc fuel) is_first bytes =
    words_after (after (lead is_first []) bytes) bytes (words_at fuel false)
