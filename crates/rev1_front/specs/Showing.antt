-- What a client is shown of the answers to its command (RFC 3501, sections 6 and 7).

use Rattle.std.specs.Prelude.{◌≡◌, ℕ, Bool, true, false, List, [], ◌∷◌, ◌++◌, codes, decimal}
use Rattle.std.specs.Prelude.{flat_map, Option, Some, None}
use Rattle.imap_answers.specs.AnswerText.{status_texts, text_of_answer}
use Rattle.imap_answers.specs.Strings.{crlf, name_text, separated_by}
use Rattle.imap_answers.specs.declared.answer.Answer.{Answer}
use Rattle.imap_answers.specs.declared.answer.Answer.TheVariants as answers
use Rattle.imap_answers.specs.declared.mailbox.SearchResults.{SearchResults}
use Rattle.imap_answers.specs.declared.mailbox.StatusItems.{StatusItems}
use Rattle.rev1_front.specs.FrontTexts.{capability_line}
use Rattle.rev1_front.specs.LsubLines.{AreLsubLines}
use Rattle.rev1_front.specs.Names.{IsOuter}
use Rattle.rev1_front.specs.declared.form.Form.{Form}
use Rattle.rev1_front.specs.declared.form.Form.TheVariants as forms
use Rattle.rev1_front.specs.declared.session.Mode.{Mode}

-- An answer with the name in it as a client in a mode is shown it.
abbrev pub IsNamed : Mode → Answer → Answer → Type 0
IsNamed mode (answers.List name state subscribed) named =
    (outer : List ℕ) × IsOuter mode name outer × (named ≡ answers.List outer state subscribed)
IsNamed mode (answers.Status name items) named =
    (outer : List ℕ) × IsOuter mode name outer × (named ≡ answers.Status outer items)
IsNamed mode answer named = named ≡ answer

-- RECENT of a mailbox that is opened: which session saw a message first can't be known among
-- replicas, so no message is recent (RFC 3501, section 7.3.2).
abbrev pub recent_line : List ℕ
recent_line = codes "* 0 RECENT" ++ crlf

-- The tagged lines of CHECK and AUTHENTICATE (RFC 3501, sections 6.4.1 and 6.2.2).
abbrev pub check_line : List ℕ → List ℕ
check_line tag = tag ++ (codes " OK CHECK completed" ++ crlf)

abbrev pub authenticate_line : List ℕ → List ℕ
authenticate_line tag = tag ++ (codes " OK AUTHENTICATE completed" ++ crlf)

-- A number after a space.
abbrev pub spaced_number : ℕ → List ℕ
spaced_number number = codes " " ++ decimal number

-- The greatest mod-sequence among the hits, if it is known (RFC 7162, section 3.1.5).
abbrev pub highest_text : Option ℕ → List ℕ
highest_text None = []
highest_text (Some modseq) = codes " (MODSEQ" ++ (spaced_number modseq ++ codes ")")

-- The hits of a search: all of them, ascending (RFC 3501, section 7.2.5).
abbrev pub hits_line : SearchResults → List ℕ
hits_line results =
    codes "* SEARCH"
    ++ ((flat_map spaced_number results.all ++ highest_text results.modseq) ++ crlf)

-- The items of STATUS with RECENT, last; or RECENT alone (RFC 3501, section 7.2.4).
abbrev pub items_with_recent : Bool → StatusItems → List (List ℕ)
items_with_recent true items = codes "RECENT 0" ∷ []
items_with_recent false items = status_texts items ++ codes "RECENT 0" ∷ []

-- STATUS of a name up to its items' closing parenthesis (RFC 3501, section 7.2.4).
abbrev pub status_front : List ℕ → StatusItems → List ℕ
status_front name items =
    codes "* STATUS " ++ name_text name ++ codes " (" ++ separated_by 32 (status_texts items)

abbrev pub recent_status_line : Bool → List ℕ → StatusItems → List ℕ
recent_status_line only_recent name items =
    codes "* STATUS " ++ name_text name ++ codes " ("
    ++ separated_by 32 (items_with_recent only_recent items)
    ++ codes ")" ++ crlf

-- An answer as it is, with the name in it as a client in this mode is shown it.
abbrev pub IsPlain : Mode → Answer → List ℕ → Type 0
IsPlain mode answer text =
    (named : Answer) × IsNamed mode answer named × (text ≡ text_of_answer named)

-- CAPABILITY: the capabilities of the front.
abbrev pub IsCapability : Mode → Answer → List ℕ → Type 0
IsCapability mode answers.Capability text = text ≡ capability_line
IsCapability mode answer text = IsPlain mode answer text

-- SELECT and EXAMINE: no LIST, and RECENT after EXISTS (RFC 3501, section 6.3.1).
abbrev pub IsOpening : Mode → Answer → List ℕ → Type 0
IsOpening mode (answers.List name state subscribed) text = text ≡ []
IsOpening mode (answers.Exists count) text =
    text ≡ text_of_answer (answers.Exists count) ++ recent_line
IsOpening mode answer text = IsPlain mode answer text

-- SEARCH: the hits (RFC 3501, section 7.2.5).
abbrev pub IsSearch : Mode → Answer → List ℕ → Type 0
IsSearch mode (answers.Search tag by_uid results) text = text ≡ hits_line results
IsSearch mode answer text = IsPlain mode answer text

-- STATUS with RECENT (RFC 3501, section 7.2.4).
abbrev pub IsRecentStatus : Mode → Bool → Answer → List ℕ → Type 0
IsRecentStatus mode only_recent (answers.Status name items) text =
    (outer : List ℕ) × IsOuter mode name outer
    × (text ≡ recent_status_line only_recent outer items)
IsRecentStatus mode only_recent answer text = IsPlain mode answer text

-- CHECK (RFC 3501, section 6.4.1).
abbrev pub IsCheck : Mode → Answer → List ℕ → Type 0
IsCheck mode (answers.Completed tag code command) text = text ≡ check_line tag
IsCheck mode answer text = IsPlain mode answer text

-- AUTHENTICATE (RFC 3501, section 6.2.2).
abbrev pub IsAuthenticate : Mode → Answer → List ℕ → Type 0
IsAuthenticate mode (answers.Completed tag code command) text = text ≡ authenticate_line tag
IsAuthenticate mode answer text = IsPlain mode answer text

-- What is shown of one answer, in any form but that of LSUB.
abbrev pub IsShown : Mode → Form → Answer → List ℕ → Type 0
IsShown mode forms.Plain answer text = IsPlain mode answer text
IsShown mode forms.Capability answer text = IsCapability mode answer text
IsShown mode forms.Opening answer text = IsOpening mode answer text
IsShown mode forms.Search answer text = IsSearch mode answer text
IsShown mode (forms.Status only_recent) answer text = IsRecentStatus mode only_recent answer text
IsShown mode (forms.Lsub pattern) answer text = IsPlain mode answer text
IsShown mode forms.Check answer text = IsCheck mode answer text
IsShown mode forms.Authenticate answer text = IsAuthenticate mode answer text

-- What is shown of answers, one after another.
abbrev pub EachIsShown : Mode → Form → List Answer → List ℕ → Type 0
EachIsShown mode form [] text = text ≡ []
EachIsShown mode form (answer ∷ answers) text =
    (first rest : List ℕ)
    × IsShown mode form answer first
    × EachIsShown mode form answers rest
    × (text ≡ first ++ rest)

-- What is shown of the first of these answers to a command.
abbrev pub AreShown : Mode → Form → List Answer → List Answer → List ℕ → Type 0
AreShown mode (forms.Lsub pattern) answers front text =
    AreLsubLines mode pattern answers [] front text
AreShown mode form answers front text = EachIsShown mode form front text

-- The first list is an initial part of the second.
abbrev pub IsFrontOf : List Answer → List Answer → Type 0
IsFrontOf front answers = (back : List Answer) × (answers ≡ front ++ back)
