-- The tagged line that a command gets.
use Rattle.std.proofs.Common.{◌≡◌, inl, inr, ℕ, Bool, true, false, List, [], ◌∷◌, ◌++◌, codes, drop, Option, Some, None, Result, if◌then◌else◌, refl, sym, ap, ◌∙◌, subst, append_assoc, append-nil}
use Rattle.std.specs.List.{concat, flat_map}
use Rattle.std.proofs.lemmas.List.Folds.{concat-append}
use Rattle.imap_answers.specs.AnswerText.{text_of_answer}
use Rattle.imap_answers.specs.Strings.{crlf}
use Rattle.imap_answers.specs.declared.answer.Answer.{Answer}
use Rattle.imap_answers.specs.declared.answer.Answer.TheVariants as answers
use Rattle.imap_answers.specs.declared.codes.Notice.TheVariants.{Closed}
use Rattle.imap_answers.specs.declared.fetch_items.FetchItems.{FetchItems}
use Rattle.imap_answers.specs.declared.fixed_words.Refusal.{Refusal}
use Rattle.imap_lex.specs.declared.item.Item.TheVariants.{Frame}
use Rattle.imap_grammar.proofs.FrameLaws.{read_complete, tag_read}
use Rattle.imap_grammar.proofs.ReaderLaws.{some_is}
use Rattle.imap_syntax.specs.Commands.{IsSpelled}
use Rattle.imap_syntax.specs.Faults.{IsTagged}
use Rattle.imap_syntax.specs.Strings.{run}
use Rattle.imap_syntax.specs.declared.command.Tagged.{Tagged}
use Rattle.imap_syntax.specs.declared.octet_class.OctetClass.TheVariants.{Tag}
use Rattle.mail_text.specs.TextSearch.{is_prefix}
use Rattle.imap_node.specs.Commands.{is_idle}
use Rattle.imap_node.specs.declared.reply.Reply.{Reply}
use Rattle.imap_node.specs.declared.reply.Reply.TheVariants as replies
use Rattle.imap_connection.specs.PortCalls.{PortCall}
use Rattle.imap_connection.specs.declared.fault.PortFault.{PortFault}
use Rattle.rev1_fetch.specs.ShownItems.{IsShownWhole, whole_text}
use Rattle.rev1_fetch.specs.declared.plan.FetchRequest.{FetchRequest}
use Rattle.rev1_fetch.specs.declared.plan.FetchRequest.TheVariants as fetches
use Rattle.rev1_fetch.specs.declared.text_item.TextItem.{TextItem}
use Rattle.rev1_front.specs.ClientFrames.{IsCommandFrame, IsOfResponse, IsTaken, answer_to_response}
use Rattle.rev1_front.specs.FrontTexts.{challenge_line, front_refusal_text, refused_line, text_at_once}
use Rattle.rev1_front.specs.SentDays.{sent_days}
use Rattle.rev1_front.specs.Showing.{AreShown, IsNamed}
use Rattle.rev1_front.specs.Tags.{AreTextsOf, HasTagOf, is_untagged, tag_of_answer, tag_of_taken}
use Rattle.rev1_front.specs.declared.authentication.PlainResponse.{PlainResponse}
use Rattle.rev1_front.specs.declared.authentication.PlainResponse.TheVariants as responses
use Rattle.rev1_front.specs.declared.fixed_texts.FrontRefusal.{FrontRefusal}
use Rattle.rev1_front.specs.declared.fixed_texts.FrontRefusal.TheVariants as reasons
use Rattle.rev1_front.specs.declared.form.Form.{Form}
use Rattle.rev1_front.specs.declared.form.Form.TheVariants.{Plain}
use Rattle.rev1_front.specs.declared.search_days.SentDay.{SentDay}
use Rattle.rev1_front.specs.declared.session.Awaited.{Awaited}
use Rattle.rev1_front.specs.declared.session.Awaited.TheVariants as awaited
use Rattle.rev1_front.specs.declared.session.Mode.{Mode}
use Rattle.rev1_front.specs.declared.session.Mode.TheVariants.{Rev2}
use Rattle.rev1_front.specs.declared.taken.Taken.{Taken}
use Rattle.rev1_front.specs.declared.taken.Taken.TheVariants as taken
use Rattle.rev1_connection.specs.FrontRequests.{IsAnsweredRequest, IsFetchAfter, IsFetchBy, IsTakenRequest, lacks_memory, request_of}
use Rattle.rev1_connection.specs.Handling.{FollowsDays, FollowsRefusal, FollowsRename, FollowsSearch, HandlesCall, HandlesCommand, HandlesItem, HandlesRequest, is_of_no_message, noop_of, session_after}
use Rattle.rev1_connection.specs.ShownReplies.{AreShownIn, EachIsShownIn, IsPlanShown, IsReplyShown, IsShownIn, is_news, news_text, refusal_text, rename_text, renamed_line}
use Rattle.rev1_connection.specs.TaggedLines.{AreAnswersTo, AreUntagged, AreUntaggedTexts, EndsTagged, IsCompletedBy, IsReplyTo, IsUntaggedText, RepliesToCommands}
use Rattle.rev1_connection.specs.TakingSteps.{closed_line}
use Rattle.rev1_connection.specs.declared.manner.Manner.{Manner}
use Rattle.rev1_connection.specs.declared.manner.Manner.TheVariants as manners
use Rattle.rev1_connection.specs.declared.rename_port.RenameEnd.{RenameEnd}
use Rattle.rev1_connection.specs.declared.rename_port.RenameEnd.TheVariants as ends
use Rattle.rev1_connection.specs.declared.request.FrontRequest.{FrontRequest}
use Rattle.rev1_connection.specs.declared.request.FrontRequest.TheVariants as requests
use Rattle.rev1_connection.specs.declared.session.FrontSession.{FrontSession}
use Rattle.rev1_connection.proofs.AskedLemmas.{IsAsked, IsDated, command_asked}
use Rattle.rev1_connection.proofs.DayLemmas.{asked_once}
use Rattle.rev1_connection.proofs.RequestLemmas.{refused_text}

-- ---- texts

both_untagged : (some more : List (List ℕ)) → AreUntaggedTexts some → AreUntaggedTexts more → AreUntaggedTexts (some ++ more)
both_untagged [] more u v = v
both_untagged (text ∷ some) more u v = (u.0, both_untagged some more u.1 v)

-- after lines without a tag
completed_after : (tag news text : List ℕ) (after : FrontSession) → IsUntaggedText news → IsCompletedBy tag text after → IsCompletedBy tag (news ++ text) after
completed_after tag news text after n h = elim h [
  | inl e ↦ inl (
    n.0 ++ e.0,
    e.1,
    both_untagged n.0 e.0 n.1 e.2,
    e.3,
    ap (λ t. t ++ text) n.2 ∙ ap (λ t. concat n.0 ++ t) e.4 ∙ sym (append_assoc (concat n.0) (concat e.0) e.1) ∙ ap (λ t. t ++ e.1) (sym (concat-append n.0 e.0)),
  )
  | inr m ↦ inr ((n.0 ++ m.0.0, both_untagged n.0 m.0.0 n.1 m.0.1, ap (λ t. t ++ text) n.2 ∙ ap (λ t. concat n.0 ++ t) m.0.2 ∙ sym (concat-append n.0 m.0.0)), m.1)
]

-- one line with the tag
one_line : (tag line : List ℕ) → HasTagOf (Some tag) line → EndsTagged tag line
one_line tag line h = ([], line, tt, h, refl)

-- a text for each answer
abbrev AreTagged : List Answer → List ℕ → Type 0
AreTagged given text = (texts : List (List ℕ)) × AreTextsOf given texts × (text ≡ concat texts)

untagged_texts : (given : List Answer) (texts : List (List ℕ)) → AreUntagged given → AreTextsOf given texts → AreUntaggedTexts texts
untagged_texts [] texts u h = subst (λ (ts : List (List ℕ)). AreUntaggedTexts ts) (sym h) tt
untagged_texts (answer ∷ given) [] u h = absurd h
untagged_texts (answer ∷ given) (text ∷ texts) u h = (subst (λ (o : Option (List ℕ)). HasTagOf o text) u.0 h.0, untagged_texts given texts u.1 h.1)

last_text : (front : List Answer) (answer : Answer) (texts : List (List ℕ)) → AreTextsOf (front ++ answer ∷ []) texts
    → (before : List (List ℕ)) × (last : List ℕ) × AreTextsOf front before × HasTagOf (tag_of_answer answer) last × (concat texts ≡ concat before ++ last)
last_text [] answer [] h = absurd h
last_text [] answer (text ∷ texts) h = ([], text, refl, h.0, ap (λ (ts : List (List ℕ)). text ++ concat ts) h.1 ∙ append-nil text)
last_text (other ∷ front) answer [] h = absurd h
last_text (other ∷ front) answer (text ∷ texts) h =
    let r = last_text front answer texts h.1 in
    (text ∷ r.0, r.1, (h.0, r.2), r.3, ap (λ t. text ++ t) r.4 ∙ sym (append_assoc text (concat r.0) r.1))

-- the answers to a command
answers_complete : (idles : Bool) (tag : List ℕ) (given : List Answer) (text : List ℕ) (after : FrontSession) → AreAnswersTo idles tag given → AreTagged given text → after.awaited ≡ (if idles then awaited.Line tag else awaited.Command) → IsCompletedBy tag text after
answers_complete true tag given text after p t e = inr ((t.0, untagged_texts given t.0 p t.1, t.2), inl e)
answers_complete false tag given text after p t e =
    let s = last_text p.0 (answers.Completed tag p.1 p.2) t.0 (subst (λ (all : List Answer). AreTextsOf all t.0) p.4 t.1) in
    inl (s.0, s.1, untagged_texts p.0 s.0 p.3 s.2, s.3, t.2 ∙ s.4)

-- ---- tags

one_tag : (frame tag rest other more : List ℕ) → IsTagged frame tag rest → IsTagged frame other more → other ≡ tag
one_tag frame tag rest other more t k =
    ap (λ (y : List ℕ × List ℕ). y.0) (some_is (other, more) (tag, rest) (sym (tag_read frame other more k) ∙ tag_read frame tag rest t))

spelled_tag : (frame tag rest : List ℕ) (tagged : Tagged) → IsTagged frame tag rest → IsSpelled tagged frame → tagged.tag ≡ tag
spelled_tag frame tag rest tagged t s =
    let r = read_complete frame tagged s in
    ap (λ (y : List ℕ × List ℕ). y.0) (some_is (tagged.tag, r.rest) (tag, rest) (sym r.tag ∙ tag_read frame tag rest t))

-- What the front says of tags.
abbrev KeepsLines : Type 0
KeepsLines = (mode : Mode) (form : Form) (given front : List Answer) (text : List ℕ) → AreShown mode form given front text → (texts : List (List ℕ)) × AreTextsOf front texts × (text ≡ concat texts)

abbrev KeepsTags : Type 0
KeepsTags = (mode : Mode) (days : Option (List SentDay)) (frame tag rest : List ℕ) (it : Taken) → IsTagged frame tag rest → IsCommandFrame mode days frame it → tag_of_taken it ≡ Some tag

self_named : (answer : Answer) → IsNamed Rev2 answer answer
self_named (answers.Greeting login) = refl
self_named (answers.Continue with) = refl
self_named answers.Capability = refl
self_named (answers.Enabled extensions) = refl
self_named answers.Namespace = refl
self_named (answers.Flags flags) = refl
self_named (answers.Exists count) = refl
self_named (answers.Expunge number) = refl
self_named (answers.List name state subscribed) = (name, refl, refl)
self_named (answers.UntaggedOk notice) = refl
self_named (answers.Status name items) = (name, refl, refl)
self_named (answers.Search tag by_uid results) = refl
self_named (answers.Fetch number items) = refl
self_named (answers.Bye reason) = refl
self_named answers.NoTag = refl
self_named answers.LiteralTooLong = refl
self_named (answers.Completed tag code command) = refl
self_named (answers.Refused tag reason) = refl

only_text : (answer : Answer) (texts : List (List ℕ)) (text : List ℕ) → AreTextsOf (answer ∷ []) texts → text ≡ concat texts → HasTagOf (tag_of_answer answer) text
only_text answer [] text h e = absurd h
only_text answer (first ∷ texts) text h e = subst (λ (t : List ℕ). HasTagOf (tag_of_answer answer) t) (sym (e ∙ ap (λ (ts : List (List ℕ)). first ++ concat ts) h.1 ∙ append-nil first)) h.0

module _ (keeps : KeepsLines) where
  text_tag : (answer : Answer) → HasTagOf (tag_of_answer answer) (text_of_answer answer)
  text_tag answer =
      let text = text_of_answer answer in
      let k = keeps Rev2 Plain (answer ∷ []) (answer ∷ []) text (text, [], (answer, self_named answer, refl), refl, sym (append-nil text)) in
      only_text answer k.0 text k.1 k.2

  as_is : (answer : Answer) (text : List ℕ) → text ≡ text_of_answer answer → HasTagOf (tag_of_answer answer) text
  as_is answer text h = subst (λ (t : List ℕ). HasTagOf (tag_of_answer answer) t) (sym h) (text_tag answer)

  whole_untagged : (plan : List TextItem) (number : ℕ) (items : FetchItems) (message : Option (List ℕ)) (text : List ℕ) → IsShownWhole plan number items message text → is_untagged text ≡ true
  whole_untagged plan number items None text h = as_is (answers.Fetch number items) text h
  whole_untagged plan number items (Some message) text h = subst (λ (t : List ℕ). is_untagged t ≡ true) (sym h.2) refl

  plan_tag : (plan : List TextItem) (answer : Answer) (text : List ℕ) → IsPlanShown plan answer text → HasTagOf (tag_of_answer answer) text
  plan_tag plan (answers.Greeting login) text h = as_is (answers.Greeting login) text h
  plan_tag plan (answers.Continue with) text h = as_is (answers.Continue with) text h
  plan_tag plan answers.Capability text h = as_is answers.Capability text h
  plan_tag plan (answers.Enabled extensions) text h = as_is (answers.Enabled extensions) text h
  plan_tag plan answers.Namespace text h = as_is answers.Namespace text h
  plan_tag plan (answers.Flags flags) text h = as_is (answers.Flags flags) text h
  plan_tag plan (answers.Exists count) text h = as_is (answers.Exists count) text h
  plan_tag plan (answers.Expunge number) text h = as_is (answers.Expunge number) text h
  plan_tag plan (answers.List name state subscribed) text h = as_is (answers.List name state subscribed) text h
  plan_tag plan (answers.UntaggedOk notice) text h = as_is (answers.UntaggedOk notice) text h
  plan_tag plan (answers.Status name items) text h = as_is (answers.Status name items) text h
  plan_tag plan (answers.Search tag by_uid results) text h = as_is (answers.Search tag by_uid results) text h
  plan_tag plan (answers.Fetch number items) text h = whole_untagged plan number items (whole_text items.sections) text h
  plan_tag plan (answers.Bye reason) text h = as_is (answers.Bye reason) text h
  plan_tag plan answers.NoTag text h = as_is answers.NoTag text h
  plan_tag plan answers.LiteralTooLong text h = as_is answers.LiteralTooLong text h
  plan_tag plan (answers.Completed tag code command) text h = as_is (answers.Completed tag code command) text h
  plan_tag plan (answers.Refused tag reason) text h = as_is (answers.Refused tag reason) text h

  renamed_tag : (answer : Answer) → HasTagOf (tag_of_answer answer) (rename_text answer)
  renamed_tag (answers.Greeting login) = text_tag (answers.Greeting login)
  renamed_tag (answers.Continue with) = text_tag (answers.Continue with)
  renamed_tag answers.Capability = text_tag answers.Capability
  renamed_tag (answers.Enabled extensions) = text_tag (answers.Enabled extensions)
  renamed_tag answers.Namespace = text_tag answers.Namespace
  renamed_tag (answers.Flags flags) = text_tag (answers.Flags flags)
  renamed_tag (answers.Exists count) = text_tag (answers.Exists count)
  renamed_tag (answers.Expunge number) = text_tag (answers.Expunge number)
  renamed_tag (answers.List name state subscribed) = text_tag (answers.List name state subscribed)
  renamed_tag (answers.UntaggedOk notice) = text_tag (answers.UntaggedOk notice)
  renamed_tag (answers.Status name items) = text_tag (answers.Status name items)
  renamed_tag (answers.Search tag by_uid results) = text_tag (answers.Search tag by_uid results)
  renamed_tag (answers.Fetch number items) = text_tag (answers.Fetch number items)
  renamed_tag (answers.Bye reason) = text_tag (answers.Bye reason)
  renamed_tag answers.NoTag = text_tag answers.NoTag
  renamed_tag answers.LiteralTooLong = text_tag answers.LiteralTooLong
  renamed_tag (answers.Completed tag code command) = (codes "OK RENAME completed" ++ crlf, refl)
  renamed_tag (answers.Refused tag reason) = text_tag (answers.Refused tag reason)

  each_tagged : (mode : Mode) (manner : Manner) (given : List Answer) (text : List ℕ) → ((answer : Answer) (one : List ℕ) → IsShownIn mode manner answer one → HasTagOf (tag_of_answer answer) one)
      → EachIsShownIn mode manner given text → AreTagged given text
  each_tagged mode manner [] text f h = ([], refl, h)
  each_tagged mode manner (answer ∷ given) text f h =
      let k = each_tagged mode manner given h.1 f h.3 in
      (h.0 ∷ k.0, (f answer h.0 h.2, k.1), h.4 ∙ ap (λ t. h.0 ++ t) k.2)

  shown_tagged : (mode : Mode) (manner : Manner) (given : List Answer) (text : List ℕ) → AreShownIn mode manner given given text → AreTagged given text
  shown_tagged mode (manners.Form form) given text h = keeps mode form given given text h
  shown_tagged mode (manners.Plan plan) given text h = each_tagged mode (manners.Plan plan) given text (λ answer one s. plan_tag plan answer one s) h
  shown_tagged mode manners.Renamed given text h = each_tagged mode manners.Renamed given text (λ answer one s. subst (λ (t : List ℕ). HasTagOf (tag_of_answer answer) t) (sym s) (renamed_tag answer)) h

  -- a refused command
  closed_untagged : (closed : Bool) → is_untagged (closed_line closed) ≡ true
  closed_untagged true = text_tag (answers.UntaggedOk Closed)
  closed_untagged false = refl

  refusal_ends : (tag : List ℕ) (why : Refusal) (closed : Bool) → EndsTagged tag (closed_line closed ++ text_of_answer (answers.Refused tag why))
  refusal_ends tag why closed = (
    closed_line closed ∷ [],
    text_of_answer (answers.Refused tag why),
    (closed_untagged closed, tt),
    text_tag (answers.Refused tag why),
    ap (λ t. t ++ text_of_answer (answers.Refused tag why)) (sym (append-nil (closed_line closed))),
  )

  refused_ends : (manner : Manner) (tag : List ℕ) (why : Refusal) (closed : Bool) → EndsTagged tag (refusal_text manner tag why closed)
  refused_ends (manners.Form form) tag why closed = subst (λ (t : List ℕ). EndsTagged tag t) (sym (refused_text tag why closed)) (refusal_ends tag why closed)
  refused_ends (manners.Plan plan) tag why closed = subst (λ (t : List ℕ). EndsTagged tag t) (sym (refused_text tag why closed)) (refusal_ends tag why closed)
  refused_ends manners.Renamed tag why closed = one_line tag (renamed_line tag) (codes "OK RENAME completed" ++ crlf, refl)

  -- ---- the reply to a command

  reply_completes : (mode : Mode) (tagged : Tagged) (manner : Manner) (reply : Reply) (text : List ℕ) (after : FrontSession) → IsReplyTo tagged reply → IsReplyShown true mode manner tagged.tag reply text → after ≡ session_after mode tagged reply → IsCompletedBy tagged.tag text after
  reply_completes mode tagged manner (replies.Done given silent issued) text after p h e =
      answers_complete (is_idle tagged.command) tagged.tag given text after p (shown_tagged mode manner given text h) (ap (λ (s : FrontSession). s.awaited) e)
  reply_completes mode tagged manner (replies.Refused why closed) text after p h e = inl (subst (λ (t : List ℕ). EndsTagged tagged.tag t) (sym h) (refused_ends manner tagged.tag why closed))

  -- the news among the answers to a command
  text_or_none : (answer : Answer) (news : Bool) → tag_of_answer answer ≡ None → is_untagged (if news then text_of_answer answer else []) ≡ true
  text_or_none answer true n = subst (λ (o : Option (List ℕ)). HasTagOf o (text_of_answer answer)) n (text_tag answer)
  text_or_none answer false n = refl

  news_tag : (answer : Answer) → tag_of_answer answer ≡ None → is_untagged (news_text answer) ≡ true
  news_tag answer n = text_or_none answer (is_news answer) n

  untagged_news : (given : List Answer) → AreUntagged given → IsUntaggedText (flat_map news_text given)
  untagged_news [] u = ([], tt, refl)
  untagged_news (answer ∷ given) u =
      let r = untagged_news given u.1 in
      (news_text answer ∷ r.0, (news_tag answer u.0, r.1), ap (λ t. news_text answer ++ t) r.2)

  ended_news : (front : List Answer) (answer : Answer) → AreUntagged front → news_text answer ≡ [] → IsUntaggedText (flat_map news_text (front ++ answer ∷ []))
  ended_news [] answer u e = ([], tt, ap (λ t. t ++ []) e)
  ended_news (first ∷ front) answer u e =
      let r = ended_news front answer u.1 e in
      (news_text first ∷ r.0, (news_tag first u.0, r.1), ap (λ t. news_text first ++ t) r.2)

  news_of : (idles : Bool) (tag : List ℕ) (given : List Answer) → AreAnswersTo idles tag given → IsUntaggedText (flat_map news_text given)
  news_of true tag given p = untagged_news given p
  news_of false tag given p = subst (λ (all : List Answer). IsUntaggedText (flat_map news_text all)) (sym p.4) (ended_news p.0 (answers.Completed tag p.1 p.2) p.3 refl)

  -- ---- what a frame is

  -- a request that doesn't ask for days, of a command with this tag
  abbrev IsFor : List ℕ → FrontRequest → Type 0
  IsFor tag (requests.Immediate it) = EndsTagged tag (text_at_once it)
  IsFor tag (requests.Challenge own) = own ≡ tag
  IsFor tag (requests.Command tagged manner) = tagged.tag ≡ tag
  IsFor tag (requests.Line own line) = ⊥
  IsFor tag (requests.Rename renaming) = renaming.tag ≡ tag
  IsFor tag (requests.Days fetch) = ⊥

  abbrev IsAskedBy : List ℕ → FrontRequest → Type 0
  IsAskedBy tag (requests.Days fetch) = fetch.tag ≡ tag
  IsAskedBy tag request = IsFor tag request

  answer_ends : (tag : List ℕ) (answer : Answer) → tag_of_answer answer ≡ Some tag → EndsTagged tag (text_of_answer answer)
  answer_ends tag answer e = one_line tag (text_of_answer answer) (subst (λ (o : Option (List ℕ)). HasTagOf o (text_of_answer answer)) e (text_tag answer))

  line_ends : (tag own : List ℕ) (reason : FrontRefusal) → own ≡ tag → EndsTagged tag (refused_line own reason)
  line_ends tag own reason e = one_line tag (refused_line own reason) (front_refusal_text reason ++ crlf, ap (λ (t : List ℕ). refused_line t reason) e)

  taken_for : (tag : List ℕ) (it : Taken) → tag_of_taken it ≡ Some tag → IsAsked it → IsDated it → IsFor tag (request_of it)
  taken_for tag (taken.Answer answer) e a d = answer_ends tag answer e
  taken_for tag (taken.Refused own reason) e a d = line_ends tag own reason (some_is own tag e)
  taken_for tag (taken.Identity own) e a d = (
    codes "* ID (\"name\" \"Burknafel\")\r\n" ∷ [],
    own ++ codes " OK ID completed\r\n",
    (refl, tt),
    (codes "OK ID completed\r\n", ap (λ (t : List ℕ). t ++ codes " OK ID completed\r\n") (some_is own tag e)),
    refl,
  )
  taken_for tag (taken.Challenge own) e a d = some_is own tag e
  taken_for tag (taken.Command tagged form) e a d = some_is tagged.tag tag e
  taken_for tag (taken.AsksDays fetch) e a d = absurd d
  taken_for tag (taken.Line own line) e a d = absurd a
  taken_for tag (taken.Rename own from to) e a d = some_is own tag e

  taken_asked : (tag : List ℕ) (it : Taken) → tag_of_taken it ≡ Some tag → IsAsked it → IsAskedBy tag (request_of it)
  taken_asked tag (taken.Answer answer) e a = taken_for tag (taken.Answer answer) e a tt
  taken_asked tag (taken.Refused own reason) e a = taken_for tag (taken.Refused own reason) e a tt
  taken_asked tag (taken.Identity own) e a = taken_for tag (taken.Identity own) e a tt
  taken_asked tag (taken.Challenge own) e a = taken_for tag (taken.Challenge own) e a tt
  taken_asked tag (taken.Command tagged form) e a = taken_for tag (taken.Command tagged form) e a tt
  taken_asked tag (taken.AsksDays fetch) e a = some_is fetch.tag tag e
  taken_asked tag (taken.Line own line) e a = absurd a
  taken_asked tag (taken.Rename own from to) e a = taken_for tag (taken.Rename own from to) e a tt

  module _ (frame tag rest : List ℕ) (t : IsTagged frame tag rest) where
    -- a FETCH with items that the profile hasn't
    module _ (own : List ℕ) (is : run Tag own own) (same : own ≡ tag) (answer : Answer) (e : tag_of_answer answer ≡ Some tag) (request : FrontRequest) where
      answered : request ≡ requests.Immediate (taken.Answer answer) → IsAskedBy tag request
      answered h = subst (λ (r : FrontRequest). IsAskedBy tag r) (sym h) (answer_ends tag answer e)

      fetch_asked : (word : List ℕ) (asked : Option FetchRequest) → IsFetchBy own (32 ∷ word) asked answer request → IsAskedBy tag request
      fetch_asked word None h = answered h
      fetch_asked word (Some fetches.PartZero) h = subst (λ (r : FrontRequest). IsAskedBy tag r) (sym h) (line_ends tag own reasons.BadSyntax same)
      fetch_asked word (Some (fetches.Planned more plan)) h = elim h [
        | inl s ↦ subst (λ (r : FrontRequest). IsAskedBy tag r) (sym s.2) (spelled_tag (own ++ ((32 ∷ word) ++ more.items)) own (word ++ more.items) s.0 (is, refl) s.1 ∙ same)
        | inr n ↦ answered n.1
      ]

      cut_asked : (plain by_uid : Bool) (x y : List ℕ) → IsFetchAfter own (if plain then Some (codes " FETCH", x) else (if by_uid then Some (codes " UID FETCH", y) else None)) answer request → IsAskedBy tag request
      cut_asked true by_uid x y h = fetch_asked (codes "FETCH") h.0 h.2
      cut_asked false true x y h = fetch_asked (codes "UID FETCH") h.0 h.2
      cut_asked false false x y h = answered h

    answer_asked : (lacks : Bool) (answer : Answer) → tag_of_answer answer ≡ Some tag → (request : FrontRequest) → IsAnsweredRequest lacks frame answer request → IsAskedBy tag request
    answer_asked true answer e request h = subst (λ (r : FrontRequest). IsAskedBy tag r) (sym h) (answer_ends tag answer e)
    answer_asked false answer e request h = elim h [
      | inl n ↦ absurd (n.0 (tag, rest, t))
      | inr k ↦ cut_asked k.0 k.2.0 (one_tag frame tag rest k.0 k.1 t k.2) answer e request (is_prefix (codes " FETCH") (32 ∷ k.1)) (is_prefix (codes " UID FETCH") (32 ∷ k.1)) (drop 6 (32 ∷ k.1)) (drop 10 (32 ∷ k.1)) k.3
    ]

    request_asked : (it : Taken) → tag_of_taken it ≡ Some tag → IsAsked it → (request : FrontRequest) → IsTakenRequest frame it request → IsAskedBy tag request
    request_asked (taken.Answer answer) e a request h = answer_asked (lacks_memory answer) answer e request h
    request_asked (taken.Refused own reason) e a request h = subst (λ (r : FrontRequest). IsAskedBy tag r) (sym h) (taken_asked tag (taken.Refused own reason) e a)
    request_asked (taken.Identity own) e a request h = subst (λ (r : FrontRequest). IsAskedBy tag r) (sym h) (taken_asked tag (taken.Identity own) e a)
    request_asked (taken.Challenge own) e a request h = subst (λ (r : FrontRequest). IsAskedBy tag r) (sym h) (taken_asked tag (taken.Challenge own) e a)
    request_asked (taken.Command tagged form) e a request h = subst (λ (r : FrontRequest). IsAskedBy tag r) (sym h) (taken_asked tag (taken.Command tagged form) e a)
    request_asked (taken.AsksDays fetch) e a request h = subst (λ (r : FrontRequest). IsAskedBy tag r) (sym h) (taken_asked tag (taken.AsksDays fetch) e a)
    request_asked (taken.Line own line) e a request h = absurd a
    request_asked (taken.Rename own from to) e a request h = subst (λ (r : FrontRequest). IsAskedBy tag r) (sym h) (taken_asked tag (taken.Rename own from to) e a)

  -- ---- what is done

  module _ {S : Type 0} (steps : S → PortCall → Result Reply PortFault → S → Type 0) (renames : S → List ℕ → List ℕ → Result RenameEnd PortFault → S → Type 0) (gives : RepliesToCommands steps) where
    command_completes : (old : S) (mode : Mode) (tagged : Tagged) (manner : Manner) (text : List ℕ) (new : S) (after : FrontSession) (out : Bool) → HandlesCommand steps old mode tagged manner true text new after out → IsCompletedBy tagged.tag text after
    command_completes old mode tagged manner text new after out h = reply_completes mode tagged manner h.0 text after (gives old new tagged h.0 h.1) h.2 h.3

    rename_completes : (end : RenameEnd) (old : S) (mode : Mode) (tag text : List ℕ) (new : S) (after : FrontSession) (out : Bool)
        → FollowsRename steps renames old mode tag end true text new after out → IsCompletedBy tag text after
    rename_completes ends.NoSecondSession old mode tag text new after out h = inl (subst (λ (t : List ℕ). EndsTagged tag t) (sym h.0) (line_ends tag tag reasons.NoSecondSession refl))
    rename_completes (ends.Refused why) old mode tag text new after out h = inl (subst (λ (t : List ℕ). EndsTagged tag t) (sym h.0) (answer_ends tag (answers.Refused tag why) refl))
    rename_completes ends.Renamed old mode tag text new after out h = command_completes old mode (noop_of tag) manners.Renamed text new after out h

    call_completes : (old : S) (mode : Mode) (tag : List ℕ) (request : FrontRequest) (text : List ℕ) (new : S) (after : FrontSession) (out : Bool) → IsFor tag request → HandlesCall steps renames old mode request true text new after out → IsCompletedBy tag text after
    call_completes old mode tag (requests.Immediate it) text new after out f h = inl (subst (λ (t : List ℕ). EndsTagged tag t) (sym h.0) f)
    call_completes old mode tag (requests.Challenge own) text new after out f h =
        inr ((challenge_line ∷ [], (refl, tt), h.0 ∙ sym (append-nil challenge_line)), inr (ap (λ (s : FrontSession). s.awaited) h.2 ∙ ap (λ (t : List ℕ). awaited.Response t) f))
    call_completes old mode tag (requests.Command tagged manner) text new after out f h = subst (λ (t : List ℕ). IsCompletedBy t text after) f (command_completes old mode tagged manner text new after out h)
    call_completes old mode tag (requests.Line own line) text new after out f h = absurd f
    call_completes old mode tag (requests.Rename renaming) text new after out f h = subst (λ (t : List ℕ). IsCompletedBy t text after) f (rename_completes h.0 h.1 mode renaming.tag text new after out h.3)
    call_completes old mode tag (requests.Days fetch) text new after out f h = absurd f

    module _ (tags : KeepsTags) where
      dated : (mode : Mode) (days : List SentDay) (frame : List ℕ) (it : Taken) → IsCommandFrame mode (Some days) frame it → IsDated it
      dated mode days frame (taken.AsksDays fetch) h = asked_once mode days frame (taken.AsksDays fetch) fetch h refl
      dated mode days frame (taken.Answer answer) h = tt
      dated mode days frame (taken.Refused own reason) h = tt
      dated mode days frame (taken.Identity own) h = tt
      dated mode days frame (taken.Challenge own) h = tt
      dated mode days frame (taken.Command tagged form) h = tt
      dated mode days frame (taken.Line own line) h = tt
      dated mode days frame (taken.Rename own from to) h = tt

      search_completes : (given : List Answer) (old : S) (mode : Mode) (frame tag rest text : List ℕ) (new : S) (after : FrontSession) (out : Bool) → IsTagged frame tag rest → IsUntaggedText (flat_map news_text given)
          → FollowsSearch steps renames old mode frame given true text new after out → IsCompletedBy tag text after
      search_completes given old mode frame tag rest text new after out t news h =
          let days = sent_days given in
          let f = taken_for tag h.0 (tags mode (Some days) frame tag rest h.0 t h.2) (command_asked mode (Some days) frame h.0 h.2) (dated mode days frame h.0 h.2) in
          subst (λ (x : List ℕ). IsCompletedBy tag x after) (sym h.4)
          (completed_after tag (flat_map news_text given) h.1 after news (call_completes old mode tag (request_of h.0) h.1 new after out f h.3))

      refusal_completes : (is_none : Bool) (old : S) (mode : Mode) (frame tag rest : List ℕ) (fetch : Tagged) (why : Refusal) (closed : Bool) (text : List ℕ) (new : S) (after : FrontSession) (out : Bool) → IsTagged frame tag rest → fetch.tag ≡ tag
          → FollowsRefusal steps renames is_none old mode frame fetch.tag why closed true text new after out → IsCompletedBy tag text after
      refusal_completes true old mode frame tag rest fetch why closed text new after out t e h = search_completes [] old mode frame tag rest text new after out t ([], tt, refl) h
      refusal_completes false old mode frame tag rest fetch why closed text new after out t e h =
          inl (subst (λ (own : List ℕ). EndsTagged own text) e (subst (λ (x : List ℕ). EndsTagged fetch.tag x) (sym h.0) (refused_ends (manners.Form Plain) fetch.tag why closed)))

      days_complete : (reply : Reply) (old : S) (mode : Mode) (frame tag rest : List ℕ) (fetch : Tagged) (text : List ℕ) (new : S) (after : FrontSession) (out : Bool) → IsTagged frame tag rest → fetch.tag ≡ tag → IsReplyTo fetch reply
          → FollowsDays steps renames old mode frame fetch.tag reply true text new after out → IsCompletedBy tag text after
      days_complete (replies.Refused why closed) old mode frame tag rest fetch text new after out t e p h =
          refusal_completes (is_of_no_message why closed) old mode frame tag rest fetch why closed text new after out t e h
      days_complete (replies.Done given silent issued) old mode frame tag rest fetch text new after out t e p h =
          search_completes given old mode frame tag rest text new after out t (news_of (is_idle fetch.command) fetch.tag given p) h

      request_completes : (old : S) (mode : Mode) (frame tag rest : List ℕ) (request : FrontRequest) (text : List ℕ) (new : S) (after : FrontSession) (out : Bool) → IsTagged frame tag rest → IsAskedBy tag request
          → HandlesRequest steps renames old mode frame request true text new after out → IsCompletedBy tag text after
      request_completes old mode frame tag rest (requests.Immediate it) text new after out t f h = call_completes old mode tag (requests.Immediate it) text new after out f h
      request_completes old mode frame tag rest (requests.Challenge own) text new after out t f h = call_completes old mode tag (requests.Challenge own) text new after out f h
      request_completes old mode frame tag rest (requests.Command tagged manner) text new after out t f h = call_completes old mode tag (requests.Command tagged manner) text new after out f h
      request_completes old mode frame tag rest (requests.Line own line) text new after out t f h = absurd f
      request_completes old mode frame tag rest (requests.Rename renaming) text new after out t f h = call_completes old mode tag (requests.Rename renaming) text new after out f h
      request_completes old mode frame tag rest (requests.Days fetch) text new after out t f h = days_complete h.0 h.1 mode frame tag rest fetch text new after out t f (gives old h.1 fetch h.0 h.2) h.3

      -- a frame of a session that awaits a command
      pub frame_completes : (old new : S) (session : FrontSession) (frame tag rest text : List ℕ) (after : FrontSession) (out : Bool) → session.awaited ≡ awaited.Command → IsTagged frame tag rest
          → HandlesItem steps renames old session (Frame frame) true text new after out → IsCompletedBy tag text after
      frame_completes old new session frame tag rest text after out e t h =
          let it = h.1.0 in
          let k : IsCommandFrame session.mode None frame it = subst (λ (a : Awaited). IsTaken session.mode a frame it) e h.1.1 in
          let f = request_asked frame tag rest t it (tags session.mode None frame tag rest it t k) (command_asked session.mode None frame it k) h.0 h.1.2 in
          request_completes old session.mode frame tag rest h.0 text new after out t f h.2

    -- the response to AUTHENTICATE
    said_completes : (old : S) (mode : Mode) (frame tag : List ℕ) (said : PlainResponse) (it : Taken) (request : FrontRequest) (text : List ℕ) (new : S) (after : FrontSession) (out : Bool) → it ≡ answer_to_response tag said → IsTakenRequest frame it request
        → HandlesRequest steps renames old mode frame request true text new after out → IsCompletedBy tag text after
    said_completes old mode frame tag (responses.Login user password) it request text new after out e k h =
        let r = subst (λ (i : Taken). IsTakenRequest frame i request) e k in
        call_completes old mode tag (request_of (answer_to_response tag (responses.Login user password))) text new after out refl (subst (λ (q : FrontRequest). HandlesRequest steps renames old mode frame q true text new after out) r h)
    said_completes old mode frame tag responses.OtherUser it request text new after out e k h =
        let r = subst (λ (i : Taken). IsTakenRequest frame i request) e k in
        call_completes old mode tag (requests.Immediate (taken.Refused tag reasons.OtherUser)) text new after out (line_ends tag tag reasons.OtherUser refl) (subst (λ (q : FrontRequest). HandlesRequest steps renames old mode frame q true text new after out) r h)
    said_completes old mode frame tag responses.Malformed it request text new after out e k h =
        let r = subst (λ (i : Taken). IsTakenRequest frame i request) e k in
        call_completes old mode tag (requests.Immediate (taken.Refused tag reasons.BadSyntax)) text new after out (line_ends tag tag reasons.BadSyntax refl) (subst (λ (q : FrontRequest). HandlesRequest steps renames old mode frame q true text new after out) r h)

    pub response_completes : (old new : S) (session : FrontSession) (frame tag text : List ℕ) (after : FrontSession) (out : Bool) → session.awaited ≡ awaited.Response tag
        → HandlesItem steps renames old session (Frame frame) true text new after out → IsCompletedBy tag text after
    response_completes old new session frame tag text after out e h =
        let it = h.1.0 in
        let mode = session.mode in
        let k : IsOfResponse tag frame it = subst (λ (a : Awaited). IsTaken mode a frame it) e h.1.1 in
        elim k [
          | inl given_up ↦ (
              let r = subst (λ (i : Taken). IsTakenRequest frame i h.0) given_up.1 h.1.2 in
              call_completes old mode tag (requests.Immediate (taken.Refused tag reasons.GivenUp)) text new after out (line_ends tag tag reasons.GivenUp refl) (subst (λ (q : FrontRequest). HandlesRequest steps renames old mode frame q true text new after out) r h.2)
              )
          | inr other ↦ said_completes old mode frame tag other.1.0 it h.0 text new after out other.1.2 h.1.2 h.2
        ]
