-- How the code reads a script line, step by step. The meaning of a line is defined by `Means`; the
-- contract of `read_line` joins the two.

use Rattle.std.specs.Prelude.{◌≡◌, ℕ, ◌==◌, List, [], ◌∷◌, Option, Some, None, Result, Ok, Err}
use Rattle.std.specs.Prelude.{codes, if◌then◌else◌}
use Rattle.std.specs.Str.{bytes_eq}
use Rattle.imap_types.specs.Escape.{unescape}
use Rattle.imap_types.specs.ReaderSteps.{IsReadingBy}
use Rattle.imap_types.specs.declared.escape.Escape.TheVariants.{Text}
use Rattle.mail_script.specs.Fields.{is_session_name}
pub use Rattle.text_fields.specs.FieldReading.{◌>>=◌, cut_at, id_at, before_first_part, number_at}
pub use Rattle.text_fields.specs.FieldReading.{positive}
pub use Rattle.text_fields.specs.FieldReading.{replica_at}
use Rattle.mail_script.specs.declared.script.ScriptWord.{ScriptWord}
use Rattle.mail_script.specs.declared.script.ScriptWord.TheVariants.{Node as NodeWord}
use Rattle.mail_script.specs.declared.script.ScriptWord.TheVariants.{Now as NowWord}
use Rattle.mail_script.specs.declared.script.ScriptWord.TheVariants.{Open as OpenWord}
use Rattle.mail_script.specs.declared.script.ScriptWord.TheVariants.{Line as LineWord}
use Rattle.mail_script.specs.declared.script.ScriptWord.TheVariants.{Send as SendWord}
use Rattle.mail_script.specs.declared.script.ScriptWord.TheVariants.{Poll as PollWord}
use Rattle.mail_script.specs.declared.script.ScriptWord.TheVariants.{Close as CloseWord}
use Rattle.mail_script.specs.declared.script.ScriptWord.TheVariants.{Show as ShowWord}
use Rattle.mail_script.specs.declared.script.ScriptWord.TheVariants.{Deliver as DeliverWord}
use Rattle.mail_script.specs.declared.script.ScriptWord.TheVariants.{Forge as ForgeWord}
use Rattle.mail_script.specs.declared.script.ScriptWord.TheVariants.{Drain as DrainWord}
use Rattle.mail_script.specs.declared.script.ScriptWord.TheVariants.{Agree as AgreeWord}
use Rattle.mail_script.specs.declared.script.ScriptWord.TheVariants.{Join as JoinWord}
use Rattle.mail_script.specs.declared.script.ScriptWord.TheVariants.{Restart as RestartWord}
use Rattle.mail_script.specs.declared.script.LineFault.{LineFault}
use Rattle.mail_script.specs.declared.script.LineFault.TheVariants.{NotALine, NoMemory}
use Rattle.mail_script.specs.declared.script.ScriptLine.{ScriptLine}
use Rattle.mail_script.specs.declared.script.ScriptLine.TheVariants.{Blank, Node, Now, Open, Line}
use Rattle.mail_script.specs.declared.script.ScriptLine.TheVariants.{Send, Poll, Close, Show}
use Rattle.mail_script.specs.declared.script.ScriptLine.TheVariants.{Deliver, Forge, Drain, Settle}
use Rattle.mail_script.specs.declared.script.ScriptLine.TheVariants.{Agree, Join, Restart}

-- A fault other than lack of memory means that the text can't be read.
abbrev pub FailsReading : {Y : Type 0} → LineFault → Option Y → Type 0
FailsReading NoMemory read = Unit {0}
FailsReading NotALine read = read ≡ None

-- A reader gives what its definition reads, or runs out of memory.
abbrev pub IsReading : {X Y : Type 0} → (X → Y) → Result X LineFault → Option Y → Type 0
IsReading = IsReadingBy FailsReading

-- The moment that a field gives.
unfoldable pub moment_at : List ℕ → Option ℕ
moment_at text = number_at 253402300799 text

-- The session that a field names.
unfoldable pub session_at : List ℕ → Option (List ℕ)
session_at text = if is_session_name text then Some text else None

-- A session and the unescaped text after it.
unfoldable pub session_and_text_at : List ℕ → Option (List ℕ × List ℕ)
session_and_text_at text = do
  parts ← cut_at 32 text
  session ← session_at parts.0
  spoken ← unescape Text parts.1
  Some (session, spoken)

-- The text after a word and a space.
unfoldable pub tail_at : List ℕ → List ℕ → Option (List ℕ)
tail_at word text = do
  parts ← cut_at 32 text
  if bytes_eq parts.0 word then Some parts.1 else None

-- The number that a field spells, from 1 to a limit.
unfoldable pub counted_at : ℕ → List ℕ → Option ℕ
counted_at limit text = do
  number ← number_at limit text
  positive number

-- The first numbers of a replica's counters.
unfoldable pub first_numbers_at : List ℕ → Option (ℕ × ℕ)
first_numbers_at text = do
  numbers ← tail_at (codes "uid") text
  parts ← cut_at 32 numbers
  uid ← counted_at 4294967295 parts.0
  last ← tail_at (codes "k") parts.1
  k ← counted_at 65536 last
  Some (uid, k)

-- The word that begins a line.
unfoldable pub keyword_at : List ℕ → Option ScriptWord
keyword_at word =
    if bytes_eq word (codes "node") then Some NodeWord
    else (if bytes_eq word (codes "now") then Some NowWord
    else (if bytes_eq word (codes "open") then Some OpenWord
    else (if bytes_eq word (codes "line") then Some LineWord
    else (if bytes_eq word (codes "send") then Some SendWord
    else (if bytes_eq word (codes "poll") then Some PollWord
    else (if bytes_eq word (codes "close") then Some CloseWord
    else (if bytes_eq word (codes "show") then Some ShowWord
    else (if bytes_eq word (codes "deliver") then Some DeliverWord
    else (if bytes_eq word (codes "forge") then Some ForgeWord
    else (if bytes_eq word (codes "drain") then Some DrainWord
    else (if bytes_eq word (codes "agree") then Some AgreeWord
    else (if bytes_eq word (codes "join") then Some JoinWord
    else (if bytes_eq word (codes "restart") then Some RestartWord
    else None)))))))))))))

-- Reads the fields after `node`.
unfoldable pub node_at : Option (List ℕ × List ℕ) → List ℕ → Option ScriptLine
node_at None fields = replica_at fields >>= (λ replica. Some (Node replica 1 1))
node_at (Some parts) fields = do
  replica ← replica_at parts.0
  numbers ← first_numbers_at parts.1
  Some (Node replica numbers.0 numbers.1)

-- Reads the fields after `open`.
unfoldable pub open_at : List ℕ → Option ScriptLine
open_at fields = do
  parts ← cut_at 32 fields
  replica ← replica_at parts.0
  session ← session_at parts.1
  Some (Open replica session)

-- Reads the fields after `deliver`.
unfoldable pub deliver_at : List ℕ → Option ScriptLine
deliver_at fields = do
  parts ← cut_at 32 fields
  id ← id_at parts.0
  replica ← replica_at parts.1
  Some (Deliver id replica)

-- Reads the fields after `agree`.
unfoldable pub agree_at : List ℕ → Option ScriptLine
agree_at fields = do
  parts ← cut_at 32 fields
  first ← replica_at parts.0
  second ← replica_at parts.1
  Some (Agree first second)

-- Reads the fields after `join`.
unfoldable pub join_at : List ℕ → Option ScriptLine
join_at fields = do
  parts ← cut_at 32 fields
  replica ← replica_at parts.0
  peer ← replica_at parts.1
  Some (Join replica peer)

-- Reads the fields after `forge`.
unfoldable pub forge_at : List ℕ → Option ScriptLine
forge_at fields = do
  parts ← cut_at 32 fields
  replica ← replica_at parts.0
  Some (Forge replica parts.1)

-- Reads the fields after a line's first word.
abbrev pub fields_at : ScriptWord → List ℕ → Option ScriptLine
fields_at NodeWord fields = node_at (cut_at 32 fields) fields
fields_at NowWord fields = moment_at fields >>= (λ moment. Some (Now moment))
fields_at OpenWord fields = open_at fields
fields_at LineWord fields = session_and_text_at fields >>= (λ spoken. Some (Line spoken.0 spoken.1))
fields_at SendWord fields = session_and_text_at fields >>= (λ spoken. Some (Send spoken.0 spoken.1))
fields_at PollWord fields = session_at fields >>= (λ session. Some (Poll session))
fields_at CloseWord fields = session_at fields >>= (λ session. Some (Close session))
fields_at ShowWord fields = replica_at fields >>= (λ replica. Some (Show replica))
fields_at DeliverWord fields = deliver_at fields
fields_at ForgeWord fields = forge_at fields
fields_at DrainWord fields = replica_at fields >>= (λ replica. Some (Drain replica))
fields_at AgreeWord fields = agree_at fields
fields_at JoinWord fields = join_at fields
fields_at RestartWord fields = replica_at fields >>= (λ replica. Some (Restart replica))

-- Reads a line that consists of a word and its fields.
unfoldable pub words_at : List ℕ → Option ScriptLine
words_at line = do
  parts ← cut_at 32 line
  keyword ← keyword_at parts.0
  fields_at keyword parts.1

-- Reads a line that isn't blank.
unfoldable pub word_or_words_at : List ℕ → Option ScriptLine
word_or_words_at line = if bytes_eq line (codes "settle") then Some Settle else words_at line

-- Reads a line.
abbrev pub line_at : List ℕ → Option ScriptLine
line_at [] = Some Blank
line_at (octet ∷ octets) = if octet == 35 then Some Blank else word_or_words_at (octet ∷ octets)
