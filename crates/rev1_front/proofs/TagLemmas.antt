-- The tags of what is shown, and of what frames are.
use Rattle.std.proofs.Common.{◌≡◌, inl, inr, ℕ, Bool, true, false, List, [], ◌∷◌, ◌++◌, codes, Option, Some, None, refl, sym, ap, ◌∙◌, subst, append_assoc}
use Rattle.std.specs.List.{concat}
use Rattle.imap_syntax.specs.Commands.{IsSpelled}
use Rattle.imap_syntax.specs.Faults.{HasTag, IsTagged}
use Rattle.imap_syntax.specs.Strings.{run}
use Rattle.imap_syntax.specs.declared.command.Tagged.{Tagged}
use Rattle.imap_syntax.specs.declared.octet_class.OctetClass.TheVariants.{Tag}
use Rattle.imap_answers.specs.AnswerText.{code_prefix, line_of_answer, text_of_answer}
use Rattle.imap_answers.specs.Strings.{crlf}
use Rattle.imap_answers.specs.Words.{command_text, refusal_text}
use Rattle.imap_answers.specs.declared.answer.Answer.{Answer}
use Rattle.imap_answers.specs.declared.answer.Answer.TheVariants as answers
use Rattle.imap_answers.specs.declared.fixed_words.ByeReason.{ByeReason}
use Rattle.imap_answers.specs.declared.fixed_words.ByeReason.TheVariants as bye
use Rattle.imap_answers.specs.declared.fixed_words.Continuation.{Continuation}
use Rattle.imap_answers.specs.declared.fixed_words.Continuation.TheVariants as awaited
use Rattle.imap_answers.specs.declared.fixed_words.EnabledExtensions.{EnabledExtensions}
use Rattle.imap_answers.specs.declared.fixed_words.EnabledExtensions.TheVariants as extensions
use Rattle.imap_answers.specs.declared.fixed_words.Login.{Login}
use Rattle.imap_answers.specs.declared.fixed_words.Login.TheVariants as login
use Rattle.imap_answers.specs.declared.mailbox.MailboxState.{MailboxState}
use Rattle.imap_grammar.proofs.FrameLaws.{read_complete, tag_read}
use Rattle.imap_grammar.proofs.ReaderLaws.{some_is}
use Rattle.rev1_front.specs.ClientFrames.{IsCarried, IsCommandFrame, IsOfFront, IsSearchRead, LsubOfPattern, RenameOf, answer_to_response, known_days, search_word}
use Rattle.rev1_front.specs.FrameForms.{reworded}
use Rattle.rev1_front.specs.LsubLines.{AreLsubLines, IsLsubText, IsShownOfName}
use Rattle.rev1_front.specs.SearchReading.{search_read}
use Rattle.rev1_front.specs.Showing.{AreShown, EachIsShown, IsAuthenticate, IsCapability, IsCheck, IsNamed, IsOpening, IsPlain, IsRecentStatus, IsSearch as IsShownSearch, IsShown}
use Rattle.rev1_front.specs.Tags.{AreTextsOf, HasTagOf, is_untagged, tag_of_answer, tag_of_taken}
use Rattle.rev1_front.specs.declared.authentication.PlainResponse.{PlainResponse}
use Rattle.rev1_front.specs.declared.authentication.PlainResponse.TheVariants as responses
use Rattle.rev1_front.specs.declared.form.Form.{Form}
use Rattle.rev1_front.specs.declared.form.Form.TheVariants as forms
use Rattle.rev1_front.specs.declared.frame_parts.FrontWord.{FrontWord}
use Rattle.rev1_front.specs.declared.frame_parts.FrontWord.TheVariants as words
use Rattle.rev1_front.specs.declared.search_days.SentDay.{SentDay}
use Rattle.rev1_front.specs.declared.session.Mode.{Mode}
use Rattle.rev1_front.specs.declared.session.Mode.TheVariants as modes
use Rattle.rev1_front.specs.declared.taken.Taken.{Taken}
use Rattle.rev1_front.specs.declared.taken.Taken.TheVariants as taken
use Rattle.rev1_front.proofs.FrameLemmas.{reworded_tag, tag_spelled}

-- ---- Answers.

greeting_untagged : (l : Login) → is_untagged (text_of_answer (answers.Greeting l)) ≡ true
unfolding line_of_answer
greeting_untagged login.Required = refl
greeting_untagged login.PreAuthenticated = refl

continue_untagged : (a : Continuation) → is_untagged (text_of_answer (answers.Continue a)) ≡ true
unfolding line_of_answer
continue_untagged awaited.Ready = refl
continue_untagged awaited.Idling = refl

enabled_untagged : (e : EnabledExtensions) → is_untagged (text_of_answer (answers.Enabled e)) ≡ true
unfolding line_of_answer
enabled_untagged extensions.Nothing = refl
enabled_untagged extensions.Condstore = refl
enabled_untagged extensions.Imap4Rev2 = refl
enabled_untagged extensions.CondstoreImap4Rev2 = refl
enabled_untagged extensions.Imap4Rev2Condstore = refl

bye_untagged : (b : ByeReason) → is_untagged (text_of_answer (answers.Bye b)) ≡ true
unfolding line_of_answer
bye_untagged bye.LoggingOut = refl
bye_untagged bye.LineTooLong = refl
bye_untagged bye.LiteralTooLong = refl
bye_untagged bye.NulInText = refl
bye_untagged bye.NoMemory = refl
bye_untagged bye.ReplicaChanged = refl
bye_untagged bye.TooManySessions = refl

longer : (tag front rest text : List ℕ) → text ≡ tag ++ front → text ++ rest ≡ tag ++ (front ++ rest)
longer tag front rest text e = ap (λ xs. xs ++ rest) e ∙ append_assoc tag front rest

text_tag : (answer : Answer) → HasTagOf (tag_of_answer answer) (text_of_answer answer)
unfolding line_of_answer
text_tag (answers.Greeting login) = greeting_untagged login
text_tag (answers.Continue awaited) = continue_untagged awaited
text_tag answers.Capability = refl
text_tag (answers.Enabled extensions) = enabled_untagged extensions
text_tag answers.Namespace = refl
text_tag (answers.Flags flags) = refl
text_tag (answers.Exists count) = refl
text_tag (answers.Expunge number) = refl
text_tag (answers.List name state subscribed) = refl
text_tag (answers.UntaggedOk notice) = refl
text_tag (answers.Status name items) = refl
text_tag (answers.Search tag by_uid results) = refl
text_tag (answers.Fetch number items) = refl
text_tag (answers.Bye reason) = bye_untagged reason
text_tag answers.NoTag = refl
text_tag answers.LiteralTooLong = refl
text_tag (answers.Completed tag code command) = (
  codes "OK " ++ code_prefix code ++ command_text command ++ codes " completed" ++ crlf,
  longer tag (codes " OK " ++ code_prefix code ++ command_text command ++ codes " completed") crlf _
      (longer tag (codes " OK " ++ code_prefix code ++ command_text command) (codes " completed") _
      (longer tag (codes " OK " ++ code_prefix code) (command_text command) _ (append_assoc tag (codes " OK ") (code_prefix code)))),
)
text_tag (answers.Refused tag reason) = (refusal_text reason ++ crlf, longer tag (codes " " ++ refusal_text reason) crlf _ (append_assoc tag (codes " ") (refusal_text reason)))

-- a name changes no tag
named_tag : (mode : Mode) (answer named : Answer) → IsNamed mode answer named → tag_of_answer named ≡ tag_of_answer answer
named_tag mode (answers.Greeting login) named h = ap tag_of_answer h
named_tag mode (answers.Continue awaited) named h = ap tag_of_answer h
named_tag mode answers.Capability named h = ap tag_of_answer h
named_tag mode (answers.Enabled extensions) named h = ap tag_of_answer h
named_tag mode answers.Namespace named h = ap tag_of_answer h
named_tag mode (answers.Flags flags) named h = ap tag_of_answer h
named_tag mode (answers.Exists count) named h = ap tag_of_answer h
named_tag mode (answers.Expunge number) named h = ap tag_of_answer h
named_tag mode (answers.List name state subscribed) named h = ap tag_of_answer h.2
named_tag mode (answers.UntaggedOk notice) named h = ap tag_of_answer h
named_tag mode (answers.Status name items) named h = ap tag_of_answer h.2
named_tag mode (answers.Search tag by_uid results) named h = ap tag_of_answer h
named_tag mode (answers.Fetch number items) named h = ap tag_of_answer h
named_tag mode (answers.Bye reason) named h = ap tag_of_answer h
named_tag mode answers.NoTag named h = ap tag_of_answer h
named_tag mode answers.LiteralTooLong named h = ap tag_of_answer h
named_tag mode (answers.Completed tag code command) named h = ap tag_of_answer h
named_tag mode (answers.Refused tag reason) named h = ap tag_of_answer h

plain_tag : (mode : Mode) (answer : Answer) (text : List ℕ) → IsPlain mode answer text → HasTagOf (tag_of_answer answer) text
plain_tag mode answer text h =
    subst (λ o. HasTagOf o text) (named_tag mode answer h.0 h.1) (subst (λ (t : List ℕ). HasTagOf (tag_of_answer h.0) t) (sym h.2) (text_tag h.0))

capability_tag : (mode : Mode) (answer : Answer) (text : List ℕ) → IsCapability mode answer text → HasTagOf (tag_of_answer answer) text
capability_tag mode (answers.Greeting login) text h = plain_tag mode (answers.Greeting login) text h
capability_tag mode (answers.Continue awaited) text h = plain_tag mode (answers.Continue awaited) text h
capability_tag mode answers.Capability text h = subst (λ (t : List ℕ). is_untagged t ≡ true) (sym h) refl
capability_tag mode (answers.Enabled extensions) text h = plain_tag mode (answers.Enabled extensions) text h
capability_tag mode answers.Namespace text h = plain_tag mode answers.Namespace text h
capability_tag mode (answers.Flags flags) text h = plain_tag mode (answers.Flags flags) text h
capability_tag mode (answers.Exists count) text h = plain_tag mode (answers.Exists count) text h
capability_tag mode (answers.Expunge number) text h = plain_tag mode (answers.Expunge number) text h
capability_tag mode (answers.List name state subscribed) text h = plain_tag mode (answers.List name state subscribed) text h
capability_tag mode (answers.UntaggedOk notice) text h = plain_tag mode (answers.UntaggedOk notice) text h
capability_tag mode (answers.Status name items) text h = plain_tag mode (answers.Status name items) text h
capability_tag mode (answers.Search tag by_uid results) text h = plain_tag mode (answers.Search tag by_uid results) text h
capability_tag mode (answers.Fetch number items) text h = plain_tag mode (answers.Fetch number items) text h
capability_tag mode (answers.Bye reason) text h = plain_tag mode (answers.Bye reason) text h
capability_tag mode answers.NoTag text h = plain_tag mode answers.NoTag text h
capability_tag mode answers.LiteralTooLong text h = plain_tag mode answers.LiteralTooLong text h
capability_tag mode (answers.Completed tag code command) text h = plain_tag mode (answers.Completed tag code command) text h
capability_tag mode (answers.Refused tag reason) text h = plain_tag mode (answers.Refused tag reason) text h

exists_tag : (mode : Mode) (count : ℕ) (text : List ℕ) → IsOpening mode (answers.Exists count) text → is_untagged text ≡ true
unfolding line_of_answer
exists_tag mode count text h = subst (λ (t : List ℕ). is_untagged t ≡ true) (sym h) refl

opening_tag : (mode : Mode) (answer : Answer) (text : List ℕ) → IsOpening mode answer text → HasTagOf (tag_of_answer answer) text
opening_tag mode (answers.Greeting login) text h = plain_tag mode (answers.Greeting login) text h
opening_tag mode (answers.Continue awaited) text h = plain_tag mode (answers.Continue awaited) text h
opening_tag mode answers.Capability text h = plain_tag mode answers.Capability text h
opening_tag mode (answers.Enabled extensions) text h = plain_tag mode (answers.Enabled extensions) text h
opening_tag mode answers.Namespace text h = plain_tag mode answers.Namespace text h
opening_tag mode (answers.Flags flags) text h = plain_tag mode (answers.Flags flags) text h
opening_tag mode (answers.Exists count) text h = exists_tag mode count text h
opening_tag mode (answers.Expunge number) text h = plain_tag mode (answers.Expunge number) text h
opening_tag mode (answers.List name state subscribed) text h = subst (λ (t : List ℕ). is_untagged t ≡ true) (sym h) refl
opening_tag mode (answers.UntaggedOk notice) text h = plain_tag mode (answers.UntaggedOk notice) text h
opening_tag mode (answers.Status name items) text h = plain_tag mode (answers.Status name items) text h
opening_tag mode (answers.Search tag by_uid results) text h = plain_tag mode (answers.Search tag by_uid results) text h
opening_tag mode (answers.Fetch number items) text h = plain_tag mode (answers.Fetch number items) text h
opening_tag mode (answers.Bye reason) text h = plain_tag mode (answers.Bye reason) text h
opening_tag mode answers.NoTag text h = plain_tag mode answers.NoTag text h
opening_tag mode answers.LiteralTooLong text h = plain_tag mode answers.LiteralTooLong text h
opening_tag mode (answers.Completed tag code command) text h = plain_tag mode (answers.Completed tag code command) text h
opening_tag mode (answers.Refused tag reason) text h = plain_tag mode (answers.Refused tag reason) text h

search_tag : (mode : Mode) (answer : Answer) (text : List ℕ) → IsShownSearch mode answer text → HasTagOf (tag_of_answer answer) text
search_tag mode (answers.Greeting login) text h = plain_tag mode (answers.Greeting login) text h
search_tag mode (answers.Continue awaited) text h = plain_tag mode (answers.Continue awaited) text h
search_tag mode answers.Capability text h = plain_tag mode answers.Capability text h
search_tag mode (answers.Enabled extensions) text h = plain_tag mode (answers.Enabled extensions) text h
search_tag mode answers.Namespace text h = plain_tag mode answers.Namespace text h
search_tag mode (answers.Flags flags) text h = plain_tag mode (answers.Flags flags) text h
search_tag mode (answers.Exists count) text h = plain_tag mode (answers.Exists count) text h
search_tag mode (answers.Expunge number) text h = plain_tag mode (answers.Expunge number) text h
search_tag mode (answers.List name state subscribed) text h = plain_tag mode (answers.List name state subscribed) text h
search_tag mode (answers.UntaggedOk notice) text h = plain_tag mode (answers.UntaggedOk notice) text h
search_tag mode (answers.Status name items) text h = plain_tag mode (answers.Status name items) text h
search_tag mode (answers.Search tag by_uid results) text h = subst (λ (t : List ℕ). is_untagged t ≡ true) (sym h) refl
search_tag mode (answers.Fetch number items) text h = plain_tag mode (answers.Fetch number items) text h
search_tag mode (answers.Bye reason) text h = plain_tag mode (answers.Bye reason) text h
search_tag mode answers.NoTag text h = plain_tag mode answers.NoTag text h
search_tag mode answers.LiteralTooLong text h = plain_tag mode answers.LiteralTooLong text h
search_tag mode (answers.Completed tag code command) text h = plain_tag mode (answers.Completed tag code command) text h
search_tag mode (answers.Refused tag reason) text h = plain_tag mode (answers.Refused tag reason) text h

status_tag : (mode : Mode) (only : Bool) (answer : Answer) (text : List ℕ) → IsRecentStatus mode only answer text → HasTagOf (tag_of_answer answer) text
status_tag mode only (answers.Greeting login) text h = plain_tag mode (answers.Greeting login) text h
status_tag mode only (answers.Continue awaited) text h = plain_tag mode (answers.Continue awaited) text h
status_tag mode only answers.Capability text h = plain_tag mode answers.Capability text h
status_tag mode only (answers.Enabled extensions) text h = plain_tag mode (answers.Enabled extensions) text h
status_tag mode only answers.Namespace text h = plain_tag mode answers.Namespace text h
status_tag mode only (answers.Flags flags) text h = plain_tag mode (answers.Flags flags) text h
status_tag mode only (answers.Exists count) text h = plain_tag mode (answers.Exists count) text h
status_tag mode only (answers.Expunge number) text h = plain_tag mode (answers.Expunge number) text h
status_tag mode only (answers.List name state subscribed) text h = plain_tag mode (answers.List name state subscribed) text h
status_tag mode only (answers.UntaggedOk notice) text h = plain_tag mode (answers.UntaggedOk notice) text h
status_tag mode only (answers.Status name items) text h = subst (λ (t : List ℕ). is_untagged t ≡ true) (sym h.2) refl
status_tag mode only (answers.Search tag by_uid results) text h = plain_tag mode (answers.Search tag by_uid results) text h
status_tag mode only (answers.Fetch number items) text h = plain_tag mode (answers.Fetch number items) text h
status_tag mode only (answers.Bye reason) text h = plain_tag mode (answers.Bye reason) text h
status_tag mode only answers.NoTag text h = plain_tag mode answers.NoTag text h
status_tag mode only answers.LiteralTooLong text h = plain_tag mode answers.LiteralTooLong text h
status_tag mode only (answers.Completed tag code command) text h = plain_tag mode (answers.Completed tag code command) text h
status_tag mode only (answers.Refused tag reason) text h = plain_tag mode (answers.Refused tag reason) text h

check_tag : (mode : Mode) (answer : Answer) (text : List ℕ) → IsCheck mode answer text → HasTagOf (tag_of_answer answer) text
check_tag mode (answers.Greeting login) text h = plain_tag mode (answers.Greeting login) text h
check_tag mode (answers.Continue awaited) text h = plain_tag mode (answers.Continue awaited) text h
check_tag mode answers.Capability text h = plain_tag mode answers.Capability text h
check_tag mode (answers.Enabled extensions) text h = plain_tag mode (answers.Enabled extensions) text h
check_tag mode answers.Namespace text h = plain_tag mode answers.Namespace text h
check_tag mode (answers.Flags flags) text h = plain_tag mode (answers.Flags flags) text h
check_tag mode (answers.Exists count) text h = plain_tag mode (answers.Exists count) text h
check_tag mode (answers.Expunge number) text h = plain_tag mode (answers.Expunge number) text h
check_tag mode (answers.List name state subscribed) text h = plain_tag mode (answers.List name state subscribed) text h
check_tag mode (answers.UntaggedOk notice) text h = plain_tag mode (answers.UntaggedOk notice) text h
check_tag mode (answers.Status name items) text h = plain_tag mode (answers.Status name items) text h
check_tag mode (answers.Search tag by_uid results) text h = plain_tag mode (answers.Search tag by_uid results) text h
check_tag mode (answers.Fetch number items) text h = plain_tag mode (answers.Fetch number items) text h
check_tag mode (answers.Bye reason) text h = plain_tag mode (answers.Bye reason) text h
check_tag mode answers.NoTag text h = plain_tag mode answers.NoTag text h
check_tag mode answers.LiteralTooLong text h = plain_tag mode answers.LiteralTooLong text h
check_tag mode (answers.Completed tag code command) text h = (codes "OK CHECK completed" ++ crlf, h)
check_tag mode (answers.Refused tag reason) text h = plain_tag mode (answers.Refused tag reason) text h

authenticate_tag : (mode : Mode) (answer : Answer) (text : List ℕ) → IsAuthenticate mode answer text → HasTagOf (tag_of_answer answer) text
authenticate_tag mode (answers.Greeting login) text h = plain_tag mode (answers.Greeting login) text h
authenticate_tag mode (answers.Continue awaited) text h = plain_tag mode (answers.Continue awaited) text h
authenticate_tag mode answers.Capability text h = plain_tag mode answers.Capability text h
authenticate_tag mode (answers.Enabled extensions) text h = plain_tag mode (answers.Enabled extensions) text h
authenticate_tag mode answers.Namespace text h = plain_tag mode answers.Namespace text h
authenticate_tag mode (answers.Flags flags) text h = plain_tag mode (answers.Flags flags) text h
authenticate_tag mode (answers.Exists count) text h = plain_tag mode (answers.Exists count) text h
authenticate_tag mode (answers.Expunge number) text h = plain_tag mode (answers.Expunge number) text h
authenticate_tag mode (answers.List name state subscribed) text h = plain_tag mode (answers.List name state subscribed) text h
authenticate_tag mode (answers.UntaggedOk notice) text h = plain_tag mode (answers.UntaggedOk notice) text h
authenticate_tag mode (answers.Status name items) text h = plain_tag mode (answers.Status name items) text h
authenticate_tag mode (answers.Search tag by_uid results) text h = plain_tag mode (answers.Search tag by_uid results) text h
authenticate_tag mode (answers.Fetch number items) text h = plain_tag mode (answers.Fetch number items) text h
authenticate_tag mode (answers.Bye reason) text h = plain_tag mode (answers.Bye reason) text h
authenticate_tag mode answers.NoTag text h = plain_tag mode answers.NoTag text h
authenticate_tag mode answers.LiteralTooLong text h = plain_tag mode answers.LiteralTooLong text h
authenticate_tag mode (answers.Completed tag code command) text h = (codes "OK AUTHENTICATE completed" ++ crlf, h)
authenticate_tag mode (answers.Refused tag reason) text h = plain_tag mode (answers.Refused tag reason) text h

shown_tag : (mode : Mode) (form : Form) (answer : Answer) (text : List ℕ) → IsShown mode form answer text → HasTagOf (tag_of_answer answer) text
shown_tag mode forms.Plain answer text h = plain_tag mode answer text h
shown_tag mode forms.Capability answer text h = capability_tag mode answer text h
shown_tag mode forms.Opening answer text h = opening_tag mode answer text h
shown_tag mode forms.Search answer text h = search_tag mode answer text h
shown_tag mode (forms.Status only) answer text h = status_tag mode only answer text h
shown_tag mode (forms.Lsub pattern) answer text h = plain_tag mode answer text h
shown_tag mode forms.Check answer text h = check_tag mode answer text h
shown_tag mode forms.Authenticate answer text h = authenticate_tag mode answer text h

-- answers, one after another
abbrev pub AreTagged : List Answer → List ℕ → Type 0
AreTagged given text = (texts : List (List ℕ)) × AreTextsOf given texts × (text ≡ concat texts)

one_more : (answer : Answer) (given : List Answer) (first rest text : List ℕ) → HasTagOf (tag_of_answer answer) first → AreTagged given rest → text ≡ first ++ rest → AreTagged (answer ∷ given) text
one_more answer given first rest text t h e = (first ∷ h.0, (t, h.1), e ∙ ap (λ xs. first ++ xs) h.2)

each_tagged : (mode : Mode) (form : Form) (given : List Answer) (text : List ℕ) → EachIsShown mode form given text → AreTagged given text
each_tagged mode form [] text h = ([], refl, h)
each_tagged mode form (answer ∷ given) text h = one_more answer given h.0 h.1 text (shown_tag mode form answer h.0 h.2) (each_tagged mode form given h.1 h.3) h.4

-- LSUB
name_tag : (mode : Mode) (pattern : List ℕ) (listed earlier : List Answer) (name : List ℕ) (state : MailboxState) (text : List ℕ) → IsShownOfName mode pattern listed earlier name state text → is_untagged text ≡ true
name_tag mode pattern listed earlier name state text (inl h) = subst (λ (t : List ℕ). is_untagged t ≡ true) (sym h.1.2) refl
name_tag mode pattern listed earlier name state text (inr (inl h)) = subst (λ (t : List ℕ). is_untagged t ≡ true) (sym h.2.2) refl
name_tag mode pattern listed earlier name state text (inr (inr h)) = subst (λ (t : List ℕ). is_untagged t ≡ true) (sym h.2) refl

lsub_tag : (mode : Mode) (pattern : List ℕ) (listed earlier : List Answer) (answer : Answer) (text : List ℕ) → IsLsubText mode pattern listed earlier answer text → HasTagOf (tag_of_answer answer) text
lsub_tag mode pattern listed earlier (answers.Greeting login) text h = subst (λ (t : List ℕ). HasTagOf (tag_of_answer (answers.Greeting login)) t) (sym h) (text_tag (answers.Greeting login))
lsub_tag mode pattern listed earlier (answers.Continue awaited) text h = subst (λ (t : List ℕ). HasTagOf (tag_of_answer (answers.Continue awaited)) t) (sym h) (text_tag (answers.Continue awaited))
lsub_tag mode pattern listed earlier answers.Capability text h = subst (λ (t : List ℕ). HasTagOf (tag_of_answer answers.Capability) t) (sym h) (text_tag answers.Capability)
lsub_tag mode pattern listed earlier (answers.Enabled extensions) text h = subst (λ (t : List ℕ). HasTagOf (tag_of_answer (answers.Enabled extensions)) t) (sym h) (text_tag (answers.Enabled extensions))
lsub_tag mode pattern listed earlier answers.Namespace text h = subst (λ (t : List ℕ). HasTagOf (tag_of_answer answers.Namespace) t) (sym h) (text_tag answers.Namespace)
lsub_tag mode pattern listed earlier (answers.Flags flags) text h = subst (λ (t : List ℕ). HasTagOf (tag_of_answer (answers.Flags flags)) t) (sym h) (text_tag (answers.Flags flags))
lsub_tag mode pattern listed earlier (answers.Exists count) text h = subst (λ (t : List ℕ). HasTagOf (tag_of_answer (answers.Exists count)) t) (sym h) (text_tag (answers.Exists count))
lsub_tag mode pattern listed earlier (answers.Expunge number) text h = subst (λ (t : List ℕ). HasTagOf (tag_of_answer (answers.Expunge number)) t) (sym h) (text_tag (answers.Expunge number))
lsub_tag mode pattern listed earlier (answers.List name state subscribed) text h = name_tag mode pattern listed earlier name state text h
lsub_tag mode pattern listed earlier (answers.UntaggedOk notice) text h = subst (λ (t : List ℕ). HasTagOf (tag_of_answer (answers.UntaggedOk notice)) t) (sym h) (text_tag (answers.UntaggedOk notice))
lsub_tag mode pattern listed earlier (answers.Status name items) text h = subst (λ (t : List ℕ). HasTagOf (tag_of_answer (answers.Status name items)) t) (sym h) (text_tag (answers.Status name items))
lsub_tag mode pattern listed earlier (answers.Search tag by_uid results) text h = subst (λ (t : List ℕ). HasTagOf (tag_of_answer (answers.Search tag by_uid results)) t) (sym h) (text_tag (answers.Search tag by_uid results))
lsub_tag mode pattern listed earlier (answers.Fetch number items) text h = subst (λ (t : List ℕ). HasTagOf (tag_of_answer (answers.Fetch number items)) t) (sym h) (text_tag (answers.Fetch number items))
lsub_tag mode pattern listed earlier (answers.Bye reason) text h = subst (λ (t : List ℕ). HasTagOf (tag_of_answer (answers.Bye reason)) t) (sym h) (text_tag (answers.Bye reason))
lsub_tag mode pattern listed earlier answers.NoTag text h = subst (λ (t : List ℕ). HasTagOf (tag_of_answer answers.NoTag) t) (sym h) (text_tag answers.NoTag)
lsub_tag mode pattern listed earlier answers.LiteralTooLong text h = subst (λ (t : List ℕ). HasTagOf (tag_of_answer answers.LiteralTooLong) t) (sym h) (text_tag answers.LiteralTooLong)
lsub_tag mode pattern listed earlier (answers.Completed tag code command) text h = (codes "OK LSUB completed" ++ crlf, h)
lsub_tag mode pattern listed earlier (answers.Refused tag reason) text h = subst (λ (t : List ℕ). HasTagOf (tag_of_answer (answers.Refused tag reason)) t) (sym h) (text_tag (answers.Refused tag reason))

lsub_tagged : (mode : Mode) (pattern : List ℕ) (listed earlier given : List Answer) (text : List ℕ) → AreLsubLines mode pattern listed earlier given text → AreTagged given text
lsub_tagged mode pattern listed earlier [] text h = ([], refl, h)
lsub_tagged mode pattern listed earlier (answer ∷ given) text h =
    one_more answer given h.0 h.1 text (lsub_tag mode pattern listed earlier answer h.0 h.2) (lsub_tagged mode pattern listed (earlier ++ answer ∷ []) given h.1 h.3) h.4

pub answers_tagged : (mode : Mode) (form : Form) (given front : List Answer) (text : List ℕ) → AreShown mode form given front text → AreTagged front text
answers_tagged mode forms.Plain given front text h = each_tagged mode forms.Plain front text h
answers_tagged mode forms.Capability given front text h = each_tagged mode forms.Capability front text h
answers_tagged mode forms.Opening given front text h = each_tagged mode forms.Opening front text h
answers_tagged mode forms.Search given front text h = each_tagged mode forms.Search front text h
answers_tagged mode (forms.Status only) given front text h = each_tagged mode (forms.Status only) front text h
answers_tagged mode (forms.Lsub pattern) given front text h = lsub_tagged mode pattern given [] front text h
answers_tagged mode forms.Check given front text h = each_tagged mode forms.Check front text h
answers_tagged mode forms.Authenticate given front text h = each_tagged mode forms.Authenticate front text h

-- ---- Frames.

-- what is taken bears this tag
abbrev pub Bears : List ℕ → Taken → Type 0
Bears tag it = tag_of_taken it ≡ Some tag

carried_tag : (mode : Mode) (tagged : Tagged) (form : Form) (it : Taken) → IsCarried mode tagged form it → Bears tagged.tag it
carried_tag modes.Rev2 tagged form it h = ap tag_of_taken h
carried_tag modes.Rev1 tagged form it (inl h) = ap tag_of_taken h.2
carried_tag modes.Rev1 tagged form it (inr h) = ap tag_of_taken h.1

response_tag : (tag : List ℕ) (said : PlainResponse) → Bears tag (answer_to_response tag said)
response_tag tag (responses.Login user password) = refl
response_tag tag responses.OtherUser = refl
response_tag tag responses.Malformed = refl

pattern_tag : (tag : List ℕ) (joined : Option (List ℕ)) (it : Taken) → LsubOfPattern tag joined it → Bears tag it
pattern_tag tag None it h = ap tag_of_taken h
pattern_tag tag (Some pattern) it h = ap tag_of_taken h

rename_tag : (tag : List ℕ) (from to : Option (List ℕ)) (it : Taken) → RenameOf tag from to it → Bears tag it
rename_tag tag None None it h = ap tag_of_taken h
rename_tag tag None (Some to) it h = ap tag_of_taken h
rename_tag tag (Some from) None it h = ap tag_of_taken h
rename_tag tag (Some from) (Some to) it h = ap tag_of_taken h

-- the tag of a command that is spelled by parts of the frame
module _ (tag : List ℕ) (is : run Tag tag tag) where
  part_tag : (letters rest : List ℕ) (tagged : Tagged) → IsSpelled tagged (reworded tag letters rest) → ◌≡◌ {A = Option (List ℕ)} (Some tagged.tag) (Some tag)
  part_tag letters rest tagged s = ap (λ (t : List ℕ). Some t) (reworded_tag tag letters rest tagged is s)

  search_read_tag : (mode : Mode) (days : Option (List SentDay)) (frame : List ℕ) (by_uid : Bool) (read : Option (List ℕ × Bool)) (it : Taken) → IsSearchRead mode days frame by_uid tag read it → Bears tag it
  search_read_tag mode days frame by_uid None it h = ap tag_of_taken h
  search_read_tag mode None frame by_uid (Some (inner, true)) it h = ap tag_of_taken h.4 ∙ part_tag (codes "FETCH") (codes " 1:* (UID BODY.PEEK[])\r\n") h.1 h.3
  search_read_tag mode None frame by_uid (Some (inner, false)) it h = ap tag_of_taken h.4 ∙ part_tag (search_word by_uid) inner h.0 h.2
  search_read_tag mode (Some days) frame by_uid (Some read) it h = ap tag_of_taken h.4 ∙ part_tag (search_word by_uid) read.0 h.0 h.2

  form_tag : (mode : Mode) (days : Option (List SentDay)) (frame rest : List ℕ) (w : FrontWord) (it : Taken) → IsOfFront mode days frame w tag rest it → Bears tag it
  form_tag mode days frame rest words.Check it h = ap tag_of_taken h.2 ∙ part_tag (codes "NOOP") rest h.0 h.1
  form_tag mode days frame rest words.Id it h = ap tag_of_taken h
  form_tag mode days frame rest words.Authenticate it (front, response, a, b, inl h) = ap tag_of_taken h.1
  form_tag mode days frame rest words.Authenticate it (front, response, a, b, inr h) = ap tag_of_taken h.4 ∙ response_tag tag h.1
  form_tag mode days frame rest words.Lsub it h = pattern_tag tag h.1 it h.6
  form_tag mode days frame rest words.Rename it h = rename_tag tag h.2 h.3 it h.7
  form_tag mode days frame rest words.Status it h = carried_tag mode h.2 (forms.Status h.1) it h.5 ∙ part_tag (codes "STATUS") h.0 h.2 h.4
  form_tag mode days frame rest words.Search it h = search_read_tag mode days frame false (search_read (known_days days) rest) it h
  form_tag mode days frame rest words.Uid it h = search_read_tag mode days frame true (search_read (known_days days) h.1) it h.5

-- a frame has one tag
one_frame_tag : (frame tag rest other more : List ℕ) → IsTagged frame tag rest → IsTagged frame other more → other ≡ tag
one_frame_tag frame tag rest other more t u = ap (λ (y : List ℕ × List ℕ). y.0) (some_is (other, more) (tag, rest) (sym (tag_read frame other more u) ∙ tag_read frame tag rest t))

spelled_tag : (frame tag rest : List ℕ) (tagged : Tagged) → IsTagged frame tag rest → IsSpelled tagged frame → tagged.tag ≡ tag
spelled_tag frame tag rest tagged t s =
    let r = read_complete frame tagged s in
    ap (λ (y : List ℕ × List ℕ). y.0) (some_is (tagged.tag, r.rest) (tag, rest) (sym r.tag ∙ tag_read frame tag rest t))

module _ (mode : Mode) (days : Option (List SentDay)) (frame : List ℕ) (it : Taken) where
  pub frame_tag : (tag rest : List ℕ) → IsTagged frame tag rest → IsCommandFrame mode days frame it → tag_of_taken it ≡ Some tag
  frame_tag tag rest t (inl p) = carried_tag mode p.0 p.1 it p.4 ∙ ap (λ (x : List ℕ). Some x) (spelled_tag frame tag rest p.0 t p.2)
  frame_tag tag rest t (inr (inl u)) =
      let f = u.1 in
      let same : f.1 ≡ tag = one_frame_tag frame tag rest f.1 (f.3.0 ++ f.2) t f.3.1 in
      form_tag f.1 f.3.1.0 mode days frame f.2 f.0 it f.4 ∙ ap (λ (x : List ℕ). Some x) same
  frame_tag tag rest t (inr (inr (inl n))) = absurd (n.0 (tag, rest, t))
  frame_tag tag rest t (inr (inr (inr r))) = ap tag_of_taken r.5 ∙ ap (λ (x : List ℕ). Some x) (one_frame_tag frame tag rest r.0 r.1 t r.3)

  pub no_tag_taken : (HasTag frame → ⊥) → IsCommandFrame mode days frame it → it ≡ taken.Answer answers.NoTag
  no_tag_taken none (inl p) = absurd (none (tag_spelled frame p.0 p.2))
  no_tag_taken none (inr (inl u)) = let f = u.1 in absurd (none (f.1, f.3.0 ++ f.2, f.3.1))
  no_tag_taken none (inr (inr (inl n))) = n.1
  no_tag_taken none (inr (inr (inr r))) = absurd (none (r.0, r.1, r.3))
