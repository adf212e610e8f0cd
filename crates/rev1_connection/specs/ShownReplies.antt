-- What a client is shown of the replies to its commands (RFC 3501, section 7).

use Rattle.std.specs.Prelude.{◌≡◌, ℕ, Bool, true, false, List, [], ◌∷◌, ◌++◌, codes}
use Rattle.std.specs.Prelude.{if◌then◌else◌}
use Rattle.imap_answers.specs.AnswerText.{text_of_answer}
use Rattle.imap_answers.specs.Strings.{crlf}
use Rattle.imap_answers.specs.declared.answer.Answer.{Answer}
use Rattle.imap_answers.specs.declared.answer.Answer.TheVariants as answers
use Rattle.imap_answers.specs.declared.fetch_items.SectionData.{SectionData}
use Rattle.imap_answers.specs.declared.fixed_words.Refusal.{Refusal}
use Rattle.imap_node.specs.declared.reply.Reply.{Reply}
use Rattle.imap_node.specs.declared.reply.Reply.TheVariants as replies
use Rattle.imap_connection.specs.Replies.{refused_answers}
use Rattle.imap_connection.specs.Requests.{texts}
use Rattle.rev1_front.specs.Showing.{AreShown, IsFrontOf, IsShown}
use Rattle.rev1_front.specs.declared.form.Form.{Form}
use Rattle.rev1_front.specs.declared.form.Form.TheVariants as forms
use Rattle.rev1_front.specs.declared.session.Mode.{Mode}
use Rattle.rev1_fetch.specs.ShownItems.{IsShownFetch}
use Rattle.rev1_fetch.specs.declared.text_item.TextItem.{TextItem}
use Rattle.rev1_connection.specs.declared.manner.Manner.{Manner}
use Rattle.rev1_connection.specs.declared.manner.Manner.TheVariants as manners

-- The tagged line of RENAME (RFC 3501, section 6.3.5).
abbrev pub renamed_line : List ℕ → List ℕ
renamed_line tag = tag ++ (codes " OK RENAME completed" ++ crlf)

-- FETCH with a plan: the answers with the whole text as the plan says. No other answer has a name,
-- which a mode would change; nor has one to NOOP.
abbrev pub IsPlanShown : List TextItem → Answer → List ℕ → Type 0
IsPlanShown plan (answers.Fetch number items) text = IsShownFetch plan number items text
IsPlanShown plan answer text = text ≡ text_of_answer answer

-- Whether there are no sections.
abbrev pub lacks_sections : List SectionData → Bool
lacks_sections [] = true
lacks_sections (part ∷ parts) = false

-- An answer reports what others did: it has no texts, and isn't the command's own line.
abbrev pub is_news : Answer → Bool
is_news (answers.Fetch number items) = lacks_sections items.sections
is_news (answers.Completed tag code command) = false
is_news answer = true

-- What is shown of an answer if only news are shown.
abbrev pub news_text : Answer → List ℕ
news_text answer = if is_news answer then text_of_answer answer else []

-- RENAME, by the answers to a NOOP.
abbrev pub rename_text : Answer → List ℕ
rename_text (answers.Completed tag code command) = renamed_line tag
rename_text answer = text_of_answer answer

-- What is shown of one answer.
abbrev pub IsShownIn : Mode → Manner → Answer → List ℕ → Type 0
IsShownIn mode (manners.Form form) answer text = IsShown mode form answer text
IsShownIn mode (manners.Plan plan) answer text = IsPlanShown plan answer text
IsShownIn mode manners.Renamed answer text = text ≡ rename_text answer

-- What is shown of answers, one after another.
abbrev pub EachIsShownIn : Mode → Manner → List Answer → List ℕ → Type 0
EachIsShownIn mode manner [] text = text ≡ []
EachIsShownIn mode manner (answer ∷ answers) text =
    (first rest : List ℕ)
    × IsShownIn mode manner answer first
    × EachIsShownIn mode manner answers rest
    × (text ≡ first ++ rest)

-- What is shown of the first of these answers to a command.
abbrev pub AreShownIn : Mode → Manner → List Answer → List Answer → List ℕ → Type 0
AreShownIn mode (manners.Form form) answers front text = AreShown mode form answers front text
AreShownIn mode manner answers front text = EachIsShownIn mode manner front text

-- The answers are shown together, not one by one: those to LSUB, whose lines depend on one another.
abbrev pub is_lsub : Form → Bool
is_lsub (forms.Lsub pattern) = true
is_lsub form = false

abbrev pub shows_whole : Manner → Bool
shows_whole (manners.Form form) = is_lsub form
shows_whole manner = false

-- The text that a refused command is answered with. RENAME has been carried out when its NOOP is
-- refused.
abbrev pub refusal_text : Manner → List ℕ → Refusal → Bool → List ℕ
refusal_text manners.Renamed tag why closed = renamed_line tag
refusal_text manner tag why closed = texts (refused_answers tag why closed)

-- A text is shown whole, or nothing of it.
abbrev pub IsAllOrNone : Bool → List ℕ → List ℕ → Type 0
IsAllOrNone true line text = text ≡ line
IsAllOrNone false line text = text ≡ []

-- What is shown of a reply to the command with this tag: all of it (`true`), or what is shown of
-- some of its first answers.
abbrev pub IsReplyShown : Bool → Mode → Manner → List ℕ → Reply → List ℕ → Type 0
IsReplyShown true mode manner tag (replies.Done given silent issued) text =
    AreShownIn mode manner given given text
IsReplyShown false mode manner tag (replies.Done given silent issued) text =
    (front : List Answer) × IsFrontOf front given × AreShownIn mode manner given front text
IsReplyShown whole mode manner tag (replies.Refused why closed) text =
    IsAllOrNone whole (refusal_text manner tag why closed) text
