use Rattle.std.proofs.Common.{◌≡◌, ℕ, suc, ◌+◌, ◌%◌, ◌<◌, ◌≤◌, ◌^◌, Bool, true, false, eqb, cond, List, [], ◌∷◌, ◌++◌, length, codes, Option, None, Some, refl, ap, sym, ◌∙◌, append_assoc, arith}
use Rattle.std.proofs.lemmas.Bool.{ne_eqb}
use Rattle.std.proofs.lemmas.Fmt.{decimal_by_steps}
use Rattle.std.specs.Fmt.{decimal}
use Rattle.imap_types.specs.Keywords.{is_tag_octet}
use Rattle.imap_types.specs.declared.flags.Flags.{Flags}
use Rattle.imap_answers.specs.declared.answer.Answer.{Answer}
use Rattle.imap_answers.specs.declared.answer.Answer.TheVariants as answer
use Rattle.imap_answers.specs.declared.codes.Code.{Code}
use Rattle.imap_answers.specs.declared.codes.Code.TheVariants as code
use Rattle.imap_answers.specs.declared.codes.Notice.{Notice}
use Rattle.imap_answers.specs.declared.codes.Notice.TheVariants as notice
use Rattle.imap_answers.specs.declared.mailbox.MailboxState.{MailboxState}
use Rattle.imap_answers.specs.declared.mailbox.MailboxState.TheVariants as state
use Rattle.imap_answers.specs.declared.mailbox.SearchResults.{SearchResults}
use Rattle.imap_answers.specs.declared.mailbox.StatusItems.{StatusItems}
use Rattle.imap_answers.specs.declared.fetch_items.FetchItems.{FetchItems}
use Rattle.imap_print.specs.declared.scanner.ScanClass.TheVariants.{Tag}
use Rattle.imap_answers.specs.declared.fixed_words.Login.{Login}
use Rattle.imap_answers.specs.declared.fixed_words.Login.TheVariants as login
use Rattle.imap_answers.specs.declared.fixed_words.Continuation.{Continuation}
use Rattle.imap_answers.specs.declared.fixed_words.Continuation.TheVariants as continuation
use Rattle.imap_answers.specs.declared.fixed_words.EnabledExtensions.{EnabledExtensions}
use Rattle.imap_answers.specs.declared.fixed_words.EnabledExtensions.TheVariants as enabled
use Rattle.imap_answers.specs.declared.fixed_words.ByeReason.{ByeReason}
use Rattle.imap_answers.specs.declared.fixed_words.ByeReason.TheVariants as bye
use Rattle.imap_answers.specs.declared.fixed_words.Refusal.{Refusal}
use Rattle.imap_answers.specs.declared.fixed_words.Refusal.TheVariants as refusal
use Rattle.imap_answers.specs.declared.fixed_words.CompletedWord.{CompletedWord}
use Rattle.imap_answers.specs.declared.fixed_words.CompletedWord.TheVariants as command
use Rattle.imap_print.specs.Appending.{spaced}
use Rattle.imap_answers.specs.Printable.{AreFetchItems, AreFlags, AreResults, AreStatusItems, IsCode, IsFolded, IsNotice, IsPrintable, IsSet, IsSmall, IsTag, IfPresent}
use Rattle.imap_answers.specs.AnswerText.{line_of_answer, code_prefix, code_text, fetch_texts, notice_text, permanent_text, text_of_answer, results_text, sets_text, status_texts, uid_label}
use Rattle.imap_print.specs.Reading.{◌>>=◌, after, value_with_rest, is_in, number_from, set_at, capped_at_32_bits, span, map_value, word_at}
use Rattle.imap_print.specs.ReadingAnswers.{answer_at, appended_at, read_or, code_at, code_before_at, code_or, number_code_at, completed_at, copyuid_at, done_at, fetch_at, fixed_at, last_set_at, line_at, list_at, modified_at, notice_at, numbered_at, permanent_at, permanent_notice_at, search_at, search_from, sets_at, star_at, status_at, status_items_at, status_list_at, tagged_at, untagged_ok_at, untagged_at, word_answer_at}
use Rattle.imap_answers.specs.Strings.{crlf, name_text, separated_by, set_text}
use Rattle.imap_print.specs.Tables.{commands}
use Rattle.imap_answers.specs.Words.{attributes_text, bye_text, command_text, continuation_text, enabled_text, greeting_text, refusal_text}
use Rattle.imap_print.proofs.RoundTrips.{name-round_trip, number-round_trip, set-round_trip, capped_at_32_bits-round_trip, span-round_trip, word_parts}
use Rattle.imap_print.proofs.ListRoundTrips.{flags-round_trip, permanent-round_trip}
use Rattle.imap_print.proofs.ItemRoundTrips.{bracket_ends, fetch-items-round_trip, not_by_uid, results-round_trip, space_ends, status-items-round_trip}

-- a number and its bracket
coded-round_trip : (n : ℕ) (rest : List ℕ) → n < 2 ^ 64 → number_code_at ((decimal n ++ (93 ∷ [])) ++ rest) ≡ Some (n, rest)
unfolding number_code_at
coded-round_trip n rest h =
    ap (λ (x : ℕ × List ℕ). after (codes "]") x.1 >>= λ rest. Some (x.0, rest)) (ap (number_from 0) (append_assoc (decimal n) (93 ∷ []) rest) ∙ number-round_trip n (93 ∷ rest) h)

-- two sets
last-set-round_trip : (c rest : List ℕ) → IsSet c → last_set_at (32 ∷ (set_text c ++ (93 ∷ rest))) ≡ Some (c, rest)
unfolding last_set_at
last-set-round_trip c rest h = ap (λ o. o >>= λ copies. value_with_rest copies.0 (after (codes "]") copies.1)) (set-round_trip c (93 ∷ rest) h (bracket_ends rest))

sets-round_trip : (s c rest : List ℕ) → IsSet s → IsSet c → sets_at (set_text s ++ (32 ∷ (set_text c ++ (93 ∷ rest)))) ≡ Some ((s, c), rest)
unfolding sets_at
sets-round_trip s c rest h i =
    ap (λ o. o >>= λ source. (last_set_at source.1 >>= λ copies. Some ((source.0, copies.0), copies.1))) (set-round_trip s (32 ∷ (set_text c ++ (93 ∷ rest))) h (space_ends _))
    ∙ ap (λ o. o >>= λ copies. Some ((s, copies.0), copies.1)) (last-set-round_trip c rest i)

-- a UIDVALIDITY and two sets
copied-round_trip : (u : ℕ) (s c rest : List ℕ) → IsSmall u → IsSet s → IsSet c → copyuid_at ((decimal u ++ (32 ∷ []) ++ sets_text s c ++ (93 ∷ [])) ++ rest) ≡ Some ((u, s, c), rest)
unfolding copyuid_at
copied-round_trip u s c rest h i j =
    let more = set_text s ++ (32 ∷ (set_text c ++ (93 ∷ rest))) in
    let inner : sets_text s c ++ (93 ∷ rest) ≡ more = append_assoc (set_text s ++ (32 ∷ [])) (set_text c) (93 ∷ rest) ∙ append_assoc (set_text s) (32 ∷ []) (set_text c ++ (93 ∷ rest)) in
    let whole : (decimal u ++ (32 ∷ []) ++ sets_text s c ++ (93 ∷ [])) ++ rest ≡ decimal u ++ (32 ∷ more) =
    append_assoc (decimal u ++ (32 ∷ []) ++ sets_text s c) (93 ∷ []) rest
    ∙ append_assoc (decimal u ++ (32 ∷ [])) (sets_text s c) (93 ∷ rest)
    ∙ append_assoc (decimal u) (32 ∷ []) (sets_text s c ++ (93 ∷ rest))
    ∙ ap (λ (x : List ℕ). decimal u ++ (32 ∷ x)) inner in
    let widen : u < 2 ^ 64 = omega arith in
    ap (λ (x : ℕ × List ℕ). after (codes " ") x.1 >>= λ beyond. (sets_at beyond >>= λ sets. Some ((capped_at_32_bits x.0, sets.0.0, sets.0.1), sets.1))) (ap (number_from 0) whole ∙ number-round_trip u (32 ∷ more) widen)
    ∙ ap (λ o. o >>= λ sets. Some ((capped_at_32_bits u, sets.0.0, sets.0.1), sets.1)) (sets-round_trip s c rest i j)
    ∙ ap (λ k. Some ((k, s, c), rest)) (capped_at_32_bits-round_trip u h)

-- the flags that can be changed permanently
permanent-notice-round_trip : (flags : Option Flags) (rest : List ℕ) → IfPresent AreFlags flags → permanent_notice_at (permanent_text flags ++ (93 ∷ rest)) ≡ Some (notice.PermanentFlags flags, rest)
unfolding permanent_notice_at
permanent-notice-round_trip flags rest h = ap (λ o. o >>= λ flags. value_with_rest (notice.PermanentFlags flags.0) (after (codes "]") flags.1)) (permanent-round_trip flags (93 ∷ rest) h)

-- the code of an untagged OK
notice-round_trip : (n : Notice) (rest : List ℕ) → IsNotice n → notice_at (notice_text n ++ rest) ≡ Some (n, rest)
unfolding notice_at
notice-round_trip notice.Closed rest h = refl
notice-round_trip (notice.UidValidity v) rest h =
    let widen : v < 2 ^ 64 = omega (arith, h.1) in
    ap (map_value (λ n. notice.UidValidity (capped_at_32_bits n))) (coded-round_trip v rest widen) ∙ ap (λ k. Some (notice.UidValidity k, rest)) (capped_at_32_bits-round_trip v h.1)
notice-round_trip (notice.UidNext v) rest h =
    let widen : v < 2 ^ 64 = omega (arith, h.1) in
    ap (map_value (λ n. notice.UidNext (capped_at_32_bits n))) (coded-round_trip v rest widen) ∙ ap (λ k. Some (notice.UidNext k, rest)) (capped_at_32_bits-round_trip v h.1)
notice-round_trip (notice.PermanentFlags flags) rest h =
    ap permanent_notice_at (append_assoc (permanent_text flags) (93 ∷ []) rest) ∙ permanent-notice-round_trip flags rest h
notice-round_trip (notice.HighestModSeq m) rest h = ap (map_value (λ n. notice.HighestModSeq n)) (coded-round_trip m rest h.1)
notice-round_trip (notice.CopyUid u s c) rest h = ap (map_value (λ x. notice.CopyUid x.0 x.1 x.2)) (copied-round_trip u s c rest h.validity.1 h.sources h.copied)

-- the code of a tagged OK
appended-round_trip : (u n : ℕ) (rest : List ℕ) → IsSmall u → IsSmall n → appended_at ((decimal u ++ (32 ∷ []) ++ decimal n ++ (93 ∷ [])) ++ rest) ≡ Some ((u, n), rest)
unfolding appended_at
appended-round_trip u n rest h i =
    let more = (decimal n ++ (93 ∷ [])) ++ rest in
    let whole : (decimal u ++ (32 ∷ []) ++ decimal n ++ (93 ∷ [])) ++ rest ≡ decimal u ++ (32 ∷ more) = simp append_assoc in
    let widen : u < 2 ^ 64 = omega arith in
    let widen' : n < 2 ^ 64 = omega arith in
    ap (λ (x : ℕ × List ℕ). after (codes " ") x.1 >>= λ between. (number_code_at between >>= λ uid. Some ((capped_at_32_bits x.0, capped_at_32_bits uid.0), uid.1))) (ap (number_from 0) whole ∙ number-round_trip u (32 ∷ more) widen)
    ∙ ap (λ o. o >>= λ uid. Some ((capped_at_32_bits u, capped_at_32_bits uid.0), uid.1)) (coded-round_trip n rest widen')
    ∙ (λ k. Some ((capped_at_32_bits-round_trip u h k, capped_at_32_bits-round_trip n i k), rest))

modified-round_trip : (refused rest : List ℕ) → IsSet refused → modified_at (set_text refused ++ (93 ∷ rest)) ≡ Some (code.Modified refused, rest)
unfolding modified_at
modified-round_trip refused rest h = ap (λ o. o >>= λ set. value_with_rest (code.Modified set.0) (after (codes "]") set.1)) (set-round_trip refused (93 ∷ rest) h (bracket_ends rest))

code-round_trip : (c : Code) (rest : List ℕ) → IsCode c → code_at (code_text c ++ rest) ≡ Some (c, rest)
unfolding code_at
code-round_trip code.ReadWrite rest h = refl
code-round_trip code.ReadOnly rest h = refl
code-round_trip (code.AppendUid u n) rest h = ap (map_value (λ a. code.AppendUid a.0 a.1)) (appended-round_trip u n rest h.0.1 h.1.1)
code-round_trip (code.CopyUid u s c) rest h = ap (map_value (λ x. code.CopyUid x.0 x.1 x.2)) (copied-round_trip u s c rest h.validity.1 h.sources h.copied)
code-round_trip (code.Modified refused) rest h =
    ap modified_at (append_assoc (set_text refused) (93 ∷ []) rest) ∙ modified-round_trip refused rest h
code-round_trip code.ExpungeIssued rest h = refl

code_opens : (c : Code) (rest : List ℕ) (A : Option (List ℕ) → Option (Option Code × List ℕ)) → (x : List ℕ) × (after (codes "[") (code_text c ++ rest) ≡ Some x)
code_opens code.ReadWrite rest A = (_, refl)
code_opens code.ReadOnly rest A = (_, refl)
code_opens (code.AppendUid u n) rest A = (_, refl)
code_opens (code.CopyUid u s c) rest A = (_, refl)
code_opens (code.Modified refused) rest A = (_, refl)
code_opens code.ExpungeIssued rest A = (_, refl)

code-before-round_trip : (c : Option Code) (rest : List ℕ) → IfPresent IsCode c → after (codes "[") rest ≡ None → code_before_at (code_prefix c ++ rest) ≡ Some (c, rest)
code-before-round_trip None rest h n = ap (λ o. code_or o rest) n
code-before-round_trip (Some c) rest h n =
    let opened = code_opens c (32 ∷ rest) (λ o. None) in
    let whole : (code_text c ++ (32 ∷ [])) ++ rest ≡ code_text c ++ (32 ∷ rest) = append_assoc (code_text c) (32 ∷ []) rest in
    ap (λ (x : List ℕ). code_or (after (codes "[") x) x) whole
    ∙ ap (λ o. code_or o (code_text c ++ (32 ∷ rest))) opened.1
    ∙ ap (λ o. o >>= λ code. value_with_rest (Some code.0) (after (codes " ") code.1)) (code-round_trip c (32 ∷ rest) h)

-- the words of commands
word-round_trip : (w : CompletedWord) (rest : List ℕ) → word_at command_text commands (command_text w ++ rest) ≡ Some (w, rest)
word-round_trip command.Capability rest = refl
word-round_trip command.Noop rest = refl
word-round_trip command.Logout rest = refl
word-round_trip command.Login rest = refl
word-round_trip command.Enable rest = refl
word-round_trip command.Select rest = refl
word-round_trip command.Examine rest = refl
word-round_trip command.Create rest = refl
word-round_trip command.Delete rest = refl
word-round_trip command.Subscribe rest = refl
word-round_trip command.Unsubscribe rest = refl
word-round_trip command.List rest = refl
word-round_trip command.Namespace rest = refl
word-round_trip command.Status rest = refl
word-round_trip command.Append rest = refl
word-round_trip command.Idle rest = refl
word-round_trip command.Close rest = refl
word-round_trip command.Unselect rest = refl
word-round_trip command.Expunge rest = refl
word-round_trip command.Search rest = refl
word-round_trip command.Fetch rest = refl
word-round_trip command.Store rest = refl
word-round_trip command.Copy rest = refl
word-round_trip command.Move rest = refl
word-round_trip command.UidFetch rest = refl
word-round_trip command.UidStore rest = refl
word-round_trip command.UidSearch rest = refl
word-round_trip command.UidCopy rest = refl
word-round_trip command.UidMove rest = refl
word-round_trip command.UidExpunge rest = refl

no_code : (w : CompletedWord) (rest : List ℕ) → after (codes "[") (command_text w ++ rest) ≡ None
no_code command.Capability rest = refl
no_code command.Noop rest = refl
no_code command.Logout rest = refl
no_code command.Login rest = refl
no_code command.Enable rest = refl
no_code command.Select rest = refl
no_code command.Examine rest = refl
no_code command.Create rest = refl
no_code command.Delete rest = refl
no_code command.Subscribe rest = refl
no_code command.Unsubscribe rest = refl
no_code command.List rest = refl
no_code command.Namespace rest = refl
no_code command.Status rest = refl
no_code command.Append rest = refl
no_code command.Idle rest = refl
no_code command.Close rest = refl
no_code command.Unselect rest = refl
no_code command.Expunge rest = refl
no_code command.Search rest = refl
no_code command.Fetch rest = refl
no_code command.Store rest = refl
no_code command.Copy rest = refl
no_code command.Move rest = refl
no_code command.UidFetch rest = refl
no_code command.UidStore rest = refl
no_code command.UidSearch rest = refl
no_code command.UidCopy rest = refl
no_code command.UidMove rest = refl
no_code command.UidExpunge rest = refl

-- the tagged line of a refused command
refused-round_trip : (tag : List ℕ) (reason : Refusal) (rest : List ℕ) → tagged_at tag (32 ∷ (refusal_text reason ++ rest)) ≡ Some (answer.Refused tag reason, rest)
unfolding tagged_at
refused-round_trip tag refusal.NoSuchMailbox rest = refl
refused-round_trip tag refusal.NoDestination rest = refl
refused-round_trip tag refusal.MailboxExists rest = refl
refused-round_trip tag refusal.NameNotAllowed rest = refl
refused-round_trip tag refusal.InboxStays rest = refl
refused-round_trip tag refusal.NotInProfile rest = refl
refused-round_trip tag refusal.LoginFailed rest = refl
refused-round_trip tag refusal.ReadOnly rest = refl
refused-round_trip tag refusal.TooManyKeywords rest = refl
refused-round_trip tag refusal.TooManyVersions rest = refl
refused-round_trip tag refusal.KeywordTooLong rest = refl
refused-round_trip tag refusal.NumberUsedUp rest = refl
refused-round_trip tag refusal.LiteralTooLong rest = refl
refused-round_trip tag refusal.NoMemory rest = refl
refused-round_trip tag refusal.NoStoreRoom rest = refl
refused-round_trip tag refusal.UnknownCommand rest = refl
refused-round_trip tag refusal.BadSyntax rest = refl
refused-round_trip tag refusal.NotNow rest = refl
refused-round_trip tag refusal.NoSuchMessage rest = refl
refused-round_trip tag refusal.DoneExpected rest = refl

command-done-round_trip : (w : CompletedWord) (rest : List ℕ) → done_at (command_text w ++ (codes " completed" ++ rest)) ≡ Some (w, rest)
unfolding done_at
command-done-round_trip w rest = ap (λ o. o >>= λ command. value_with_rest command.0 (after (codes " completed") command.1)) (word-round_trip w (codes " completed" ++ rest))

completed-round_trip : (tag : List ℕ) (c : Option Code) (w : CompletedWord) (rest : List ℕ) → IfPresent IsCode c → completed_at tag (code_prefix c ++ (command_text w ++ (codes " completed" ++ rest))) ≡ Some (answer.Completed tag c w, rest)
unfolding completed_at
completed-round_trip tag c w rest h =
    let more = command_text w ++ (codes " completed" ++ rest) in
    ap (λ o. o >>= λ code. (done_at code.1 >>= λ command. Some (answer.Completed tag code.0 command.0, command.1))) (code-before-round_trip c more h (no_code w (codes " completed" ++ rest)))
    ∙ ap (λ o. o >>= λ command. Some (answer.Completed tag c command.0, command.1)) (command-done-round_trip w rest)

tagged-round_trip : (tag more : List ℕ) → IsTag tag → answer_at (tag ++ (32 ∷ more)) ≡ tagged_at tag (32 ∷ more)
unfolding answer_at
tagged-round_trip tag more h =
    let p = word_parts is_tag_octet tag h in
    let bytes = tag ++ (32 ∷ more) in
    let filled : eqb (length tag) 0 ≡ false = ap (λ (x : List ℕ). eqb (length x) 0) p.2 ∙ ne_eqb (suc (length p.1)) 0 (λ e. absurd (omega arith)) in
    ap (λ (x : List ℕ × List ℕ). cond (eqb (length x.0) 0) (star_at bytes) (tagged_at x.0 x.1)) (span-round_trip Tag tag (32 ∷ more) p.4 refl)
    ∙ ap (λ b. cond b (star_at bytes) (tagged_at tag (32 ∷ more))) filled

-- a number begins with a digit
Begins : ℕ → List ℕ → Type 0
Begins n ds = (d : ℕ) × (rest : List ℕ) × (ds ≡ d ∷ rest) × (48 ≤ d) × (d ≤ 57)

decimal-begins : (n : ℕ) → n < 2 ^ 64 → Begins n (decimal n)
unfolding Begins
decimal-begins n h = decimal_by_steps Begins (λ m l. (48 + m, [], refl, omega arith, omega arith)) (λ m ds l b. (b.0, b.1 ++ ((48 + m % 10) ∷ []), ap (λ (x : List ℕ). x ++ ((48 + m % 10) ∷ [])) b.2, b.3, b.4)) n h

star_digit : (d : ℕ) (rest : List ℕ) → 48 ≤ d → d ≤ 57 → answer_at (42 ∷ 32 ∷ d ∷ rest) ≡ untagged_at (d ∷ rest)
unfolding answer_at star_at
star_digit d rest l h =
    let a : eqb d 79 ≡ false = ne_eqb d 79 (λ e. absurd (omega arith)) in
    let b : eqb d 80 ≡ false = ne_eqb d 80 (λ e. absurd (omega arith)) in
    let c : eqb d 69 ≡ false = ne_eqb d 69 (λ e. absurd (omega arith)) in
    let f : eqb d 66 ≡ false = ne_eqb d 66 (λ e. absurd (omega arith)) in
    rw (a, b, c, f) refl

numbered-round_trip : (n : ℕ) (rest : List ℕ) → n < 2 ^ 64 → answer_at (42 ∷ 32 ∷ (decimal n ++ rest)) ≡ untagged_at (decimal n ++ rest)
unfolding Begins
numbered-round_trip n rest h =
    let b = decimal-begins n h in
    ap (λ (x : List ℕ). answer_at (42 ∷ 32 ∷ (x ++ rest))) b.2 ∙ star_digit b.0 (b.1 ++ rest) b.3 b.4 ∙ ap (λ (x : List ℕ). untagged_at (x ++ rest)) (sym b.2)

greeting-round_trip : (x : Login) (rest : List ℕ) → answer_at (greeting_text x ++ (13 ∷ 10 ∷ rest)) ≡ Some (answer.Greeting x, 13 ∷ 10 ∷ rest)
unfolding answer_at star_at
greeting-round_trip login.Required rest = refl
greeting-round_trip login.PreAuthenticated rest = refl

continuation-round_trip : (x : Continuation) (rest : List ℕ) → answer_at (continuation_text x ++ (13 ∷ 10 ∷ rest)) ≡ Some (answer.Continue x, 13 ∷ 10 ∷ rest)
unfolding answer_at star_at
continuation-round_trip continuation.Ready rest = refl
continuation-round_trip continuation.Idling rest = refl

enabled-round_trip : (x : EnabledExtensions) (rest : List ℕ) → answer_at (enabled_text x ++ (13 ∷ 10 ∷ rest)) ≡ Some (answer.Enabled x, 13 ∷ 10 ∷ rest)
unfolding answer_at star_at
enabled-round_trip enabled.Nothing rest = refl
enabled-round_trip enabled.Condstore rest = refl
enabled-round_trip enabled.Imap4Rev2 rest = refl
enabled-round_trip enabled.CondstoreImap4Rev2 rest = refl
enabled-round_trip enabled.Imap4Rev2Condstore rest = refl

bye-round_trip : (x : ByeReason) (rest : List ℕ) → answer_at (bye_text x ++ (13 ∷ 10 ∷ rest)) ≡ Some (answer.Bye x, 13 ∷ 10 ∷ rest)
unfolding answer_at star_at
bye-round_trip bye.LoggingOut rest = refl
bye-round_trip bye.LineTooLong rest = refl
bye-round_trip bye.LiteralTooLong rest = refl
bye-round_trip bye.NulInText rest = refl
bye-round_trip bye.NoMemory rest = refl
bye-round_trip bye.ReplicaChanged rest = refl
bye-round_trip bye.TooManySessions rest = refl

exists-round_trip : (n : ℕ) (rest : List ℕ) → IsSmall n → answer_at (42 ∷ 32 ∷ (decimal n ++ (codes " EXISTS" ++ rest))) ≡ Some (answer.Exists n, rest)
unfolding untagged_at
exists-round_trip n rest h =
    let widen : n < 2 ^ 64 = omega arith in
    let read : number_from 0 (decimal n ++ (codes " EXISTS" ++ rest)) ≡ (n, codes " EXISTS" ++ rest) = number-round_trip n (codes " EXISTS" ++ rest) widen in
    numbered-round_trip n (codes " EXISTS" ++ rest) widen
    ∙ ap (λ (x : ℕ × List ℕ). numbered_at x.0 x.1 (decimal n ++ (codes " EXISTS" ++ rest))) read
    ∙ ap (λ k. Some (answer.Exists k, rest)) (capped_at_32_bits-round_trip n h)

expunge-round_trip : (n : ℕ) (rest : List ℕ) → IsSmall n → answer_at (42 ∷ 32 ∷ (decimal n ++ (codes " EXPUNGE" ++ rest))) ≡ Some (answer.Expunge n, rest)
unfolding untagged_at
expunge-round_trip n rest h =
    let widen : n < 2 ^ 64 = omega arith in
    let read : number_from 0 (decimal n ++ (codes " EXPUNGE" ++ rest)) ≡ (n, codes " EXPUNGE" ++ rest) = number-round_trip n (codes " EXPUNGE" ++ rest) widen in
    numbered-round_trip n (codes " EXPUNGE" ++ rest) widen
    ∙ ap (λ (x : ℕ × List ℕ). numbered_at x.0 x.1 (decimal n ++ (codes " EXPUNGE" ++ rest))) read
    ∙ ap (λ k. Some (answer.Expunge k, rest)) (capped_at_32_bits-round_trip n h)

fetch-round_trip : (n : ℕ) (items : FetchItems) (rest : List ℕ) → IsSmall n → AreFetchItems items → answer_at (42 ∷ 32 ∷ (decimal n ++ (codes " FETCH (" ++ (spaced true (fetch_texts items) ++ (41 ∷ rest))))) ≡ Some (answer.Fetch n items, rest)
unfolding untagged_at fetch_at
fetch-round_trip n items rest h i =
    let widen : n < 2 ^ 64 = omega arith in
    let inner = spaced true (fetch_texts items) ++ (41 ∷ rest) in
    let read : number_from 0 (decimal n ++ (codes " FETCH (" ++ inner)) ≡ (n, codes " FETCH (" ++ inner) = number-round_trip n (codes " FETCH (" ++ inner) widen in
    numbered-round_trip n (codes " FETCH (" ++ inner) widen
    ∙ ap (λ (x : ℕ × List ℕ). numbered_at x.0 x.1 (decimal n ++ (codes " FETCH (" ++ inner))) read
    ∙ ap (λ o. o >>= λ items. value_with_rest (answer.Fetch (capped_at_32_bits n) items.0) (after (codes ")") items.1)) (fetch-items-round_trip items rest i)
    ∙ ap (λ k. Some (answer.Fetch k items, rest)) (capped_at_32_bits-round_trip n h)

untagged_ok-round_trip : (n : Notice) (rest : List ℕ) → IsNotice n → untagged_ok_at (notice_text n ++ (codes " ok" ++ rest)) ≡ Some (answer.UntaggedOk n, rest)
unfolding untagged_ok_at
untagged_ok-round_trip n rest h = ap (λ o. o >>= λ notice. value_with_rest (answer.UntaggedOk notice.0) (after (codes " ok") notice.1)) (notice-round_trip n (codes " ok" ++ rest) h)

ok_answer : (n : Notice) (rest : List ℕ) → answer_at (codes "* OK " ++ (notice_text n ++ rest)) ≡ untagged_ok_at (notice_text n ++ rest)
unfolding answer_at star_at untagged_at word_answer_at
ok_answer notice.Closed rest = refl
ok_answer (notice.UidValidity v) rest = refl
ok_answer (notice.UidNext v) rest = refl
ok_answer (notice.PermanentFlags flags) rest = refl
ok_answer (notice.HighestModSeq m) rest = refl
ok_answer (notice.CopyUid u s c) rest = refl

list-round_trip : (name : List ℕ) (st : MailboxState) (sub : Bool) (rest : List ℕ) → IsFolded name → list_at (attributes_text st sub ++ (codes " \"/\" " ++ (name_text name ++ (13 ∷ rest)))) ≡ Some (answer.List name st sub, 13 ∷ rest)
unfolding list_at
list-round_trip name state.Selectable false rest h = ap (λ o. o >>= λ name. Some (answer.List name.0 state.Selectable false, name.1)) (name-round_trip name (13 ∷ rest) h refl)
list-round_trip name state.Selectable true rest h = ap (λ o. o >>= λ name. Some (answer.List name.0 state.Selectable true, name.1)) (name-round_trip name (13 ∷ rest) h refl)
list-round_trip name state.NoSelect false rest h = ap (λ o. o >>= λ name. Some (answer.List name.0 state.NoSelect false, name.1)) (name-round_trip name (13 ∷ rest) h refl)
list-round_trip name state.NoSelect true rest h = ap (λ o. o >>= λ name. Some (answer.List name.0 state.NoSelect true, name.1)) (name-round_trip name (13 ∷ rest) h refl)
list-round_trip name state.NonExistent false rest h = ap (λ o. o >>= λ name. Some (answer.List name.0 state.NonExistent false, name.1)) (name-round_trip name (13 ∷ rest) h refl)
list-round_trip name state.NonExistent true rest h = ap (λ o. o >>= λ name. Some (answer.List name.0 state.NonExistent true, name.1)) (name-round_trip name (13 ∷ rest) h refl)

status-list-round_trip : (items : StatusItems) (rest : List ℕ) → AreStatusItems items → status_list_at (codes " (" ++ (spaced true (status_texts items) ++ (41 ∷ rest))) ≡ Some (items, rest)
unfolding status_list_at
status-list-round_trip items rest h = ap (λ (x : StatusItems × List ℕ). value_with_rest x.0 (after (codes ")") x.1)) (status-items-round_trip items rest h)

status-round_trip : (name : List ℕ) (items : StatusItems) (rest : List ℕ) → IsFolded name → AreStatusItems items → status_at (name_text name ++ (codes " (" ++ (spaced true (status_texts items) ++ (41 ∷ rest)))) ≡ Some (answer.Status name items, rest)
unfolding status_at
status-round_trip name items rest h i =
    let inner = spaced true (status_texts items) ++ (41 ∷ rest) in
    ap (λ o. o >>= λ name. (status_list_at name.1 >>= λ items. Some (answer.Status name.0 items.0, items.1))) (name-round_trip name (codes " (" ++ inner) h refl)
    ∙ ap (λ o. o >>= λ items. Some (answer.Status name items.0, items.1)) (status-list-round_trip items rest i)

search-by : (tag : List ℕ) (by_uid : Bool) (results : SearchResults) (rest : List ℕ) → AreResults results → read_or (after (codes "\") UID") (uid_label by_uid ++ (results_text results ++ (13 ∷ rest)))) (λ rest. search_from tag true rest) (after (codes "\")") (uid_label by_uid ++ (results_text results ++ (13 ∷ rest))) >>= λ rest. search_from tag false rest) ≡ Some (answer.Search tag by_uid results, 13 ∷ rest)
search-by tag true results rest h = ap (map_value (λ r. answer.Search tag true r)) (results-round_trip results rest h)
search-by tag false results rest h =
    ap (λ o. read_or o (λ rest. search_from tag true rest) (search_from tag false (results_text results ++ (13 ∷ rest)))) (not_by_uid results rest)
    ∙ ap (map_value (λ r. answer.Search tag false r)) (results-round_trip results rest h)

quote_ends : (by_uid : Bool) (more : List ℕ) → span (is_in Tag) (uid_label by_uid ++ more) ≡ ([], uid_label by_uid ++ more)
quote_ends true more = refl
quote_ends false more = refl

search-round_trip : (tag : List ℕ) (by_uid : Bool) (results : SearchResults) (rest : List ℕ) → IsTag tag → AreResults results → search_at (tag ++ (uid_label by_uid ++ (results_text results ++ (13 ∷ rest)))) ≡ Some (answer.Search tag by_uid results, 13 ∷ rest)
unfolding search_at
search-round_trip tag by_uid results rest h i =
    let more = uid_label by_uid ++ (results_text results ++ (13 ∷ rest)) in
    let parts = word_parts is_tag_octet tag h in
    let filled : eqb (length tag) 0 ≡ false = ap (λ (x : List ℕ). eqb (length x) 0) parts.2 ∙ ne_eqb (suc (length parts.1)) 0 (λ e. absurd (omega arith)) in
    ap (λ (x : List ℕ × List ℕ). cond (eqb (length x.0) 0) None (read_or (after (codes "\") UID") x.1) (λ rest. search_from x.0 true rest) (after (codes "\")") x.1 >>= λ rest. search_from x.0 false rest))) (span-round_trip Tag tag more parts.4 (quote_ends by_uid (results_text results ++ (13 ∷ rest))))
    ∙ ap (λ b. cond b None (read_or (after (codes "\") UID") more) (λ rest. search_from tag true rest) (after (codes "\")") more >>= λ rest. search_from tag false rest))) filled
    ∙ search-by tag by_uid results rest i

done_again : (tag more : List ℕ) → tagged_at tag (32 ∷ 79 ∷ 75 ∷ 32 ∷ more) ≡ completed_at tag more
unfolding tagged_at
done_again tag more = refl

-- an answer, up to the end of its line
answer-round_trip : (a : Answer) (rest : List ℕ) → IsPrintable a → answer_at (line_of_answer a ++ (13 ∷ 10 ∷ rest)) ≡ Some (a, 13 ∷ 10 ∷ rest)
unfolding line_of_answer answer_at star_at untagged_at word_answer_at fixed_at
answer-round_trip (answer.Greeting login) rest h = greeting-round_trip login rest
answer-round_trip (answer.Continue awaited) rest h = continuation-round_trip awaited rest
answer-round_trip answer.Capability rest h = refl
answer-round_trip (answer.Enabled extensions) rest h = enabled-round_trip extensions rest
answer-round_trip answer.Namespace rest h = refl
answer-round_trip (answer.Flags flags) rest h = ap (map_value (λ f. answer.Flags f)) (flags-round_trip flags (13 ∷ 10 ∷ rest) h)
answer-round_trip (answer.Exists count) rest h =
    ap (λ (x : List ℕ). answer_at (42 ∷ 32 ∷ x)) (append_assoc (decimal count) (codes " EXISTS") (13 ∷ 10 ∷ rest)) ∙ exists-round_trip count (13 ∷ 10 ∷ rest) h
answer-round_trip (answer.Expunge number) rest h =
    ap (λ (x : List ℕ). answer_at (42 ∷ 32 ∷ x)) (append_assoc (decimal number) (codes " EXPUNGE") (13 ∷ 10 ∷ rest)) ∙ expunge-round_trip number (13 ∷ 10 ∷ rest) h.1
answer-round_trip (answer.List name st sub) rest h =
    let whole : (attributes_text st sub ++ codes " \"/\" " ++ name_text name) ++ (13 ∷ 10 ∷ rest) ≡ attributes_text st sub ++ (codes " \"/\" " ++ (name_text name ++ (13 ∷ 10 ∷ rest))) =
    append_assoc (attributes_text st sub ++ codes " \"/\" ") (name_text name) (13 ∷ 10 ∷ rest) ∙ append_assoc (attributes_text st sub) (codes " \"/\" ") (name_text name ++ (13 ∷ 10 ∷ rest)) in
    ap list_at whole ∙ list-round_trip name st sub (10 ∷ rest) h
answer-round_trip (answer.UntaggedOk n) rest h =
    let whole : (notice_text n ++ codes " ok") ++ (13 ∷ 10 ∷ rest) ≡ notice_text n ++ (codes " ok" ++ (13 ∷ 10 ∷ rest)) = append_assoc (notice_text n) (codes " ok") (13 ∷ 10 ∷ rest) in
    ap (λ (x : List ℕ). answer_at (codes "* OK " ++ x)) whole ∙ ok_answer n (codes " ok" ++ (13 ∷ 10 ∷ rest)) ∙ untagged_ok-round_trip n (13 ∷ 10 ∷ rest) h
answer-round_trip (answer.Status name items) rest h =
    let texts = separated_by 32 (status_texts items) in
    let whole : (name_text name ++ codes " (" ++ texts ++ codes ")") ++ (13 ∷ 10 ∷ rest) ≡ name_text name ++ (codes " (" ++ (texts ++ (41 ∷ 13 ∷ 10 ∷ rest))) =
    append_assoc (name_text name ++ codes " (" ++ texts) (codes ")") (13 ∷ 10 ∷ rest) ∙ append_assoc (name_text name ++ codes " (") texts (41 ∷ 13 ∷ 10 ∷ rest) ∙ append_assoc (name_text name) (codes " (") (texts ++ (41 ∷ 13 ∷ 10 ∷ rest)) in
    ap status_at whole ∙ status-round_trip name items (13 ∷ 10 ∷ rest) h.0 h.1
answer-round_trip (answer.Search tag by_uid results) rest h =
    let whole : (tag ++ uid_label by_uid ++ results_text results) ++ (13 ∷ 10 ∷ rest) ≡ tag ++ (uid_label by_uid ++ (results_text results ++ (13 ∷ 10 ∷ rest))) =
    append_assoc (tag ++ uid_label by_uid) (results_text results) (13 ∷ 10 ∷ rest) ∙ append_assoc tag (uid_label by_uid) (results_text results ++ (13 ∷ 10 ∷ rest)) in
    ap search_at whole ∙ search-round_trip tag by_uid results (10 ∷ rest) h.0 h.1
answer-round_trip (answer.Fetch number items) rest h =
    let texts = separated_by 32 (fetch_texts items) in
    let whole : (decimal number ++ codes " FETCH (" ++ texts ++ codes ")") ++ (13 ∷ 10 ∷ rest) ≡ decimal number ++ (codes " FETCH (" ++ (texts ++ (41 ∷ 13 ∷ 10 ∷ rest))) =
    append_assoc (decimal number ++ codes " FETCH (" ++ texts) (codes ")") (13 ∷ 10 ∷ rest) ∙ append_assoc (decimal number ++ codes " FETCH (") texts (41 ∷ 13 ∷ 10 ∷ rest) ∙ append_assoc (decimal number) (codes " FETCH (") (texts ++ (41 ∷ 13 ∷ 10 ∷ rest)) in
    ap (λ (x : List ℕ). answer_at (42 ∷ 32 ∷ x)) whole ∙ fetch-round_trip number items (13 ∷ 10 ∷ rest) h.0.1 h.1
answer-round_trip (answer.Bye reason) rest h = bye-round_trip reason rest
answer-round_trip answer.NoTag rest h = refl
answer-round_trip answer.LiteralTooLong rest h = refl
answer-round_trip (answer.Completed tag c w) rest h =
    let more = code_prefix c ++ (command_text w ++ (codes " completed" ++ (13 ∷ 10 ∷ rest))) in
    let whole : (tag ++ codes " OK " ++ code_prefix c ++ command_text w ++ codes " completed") ++ (13 ∷ 10 ∷ rest) ≡ tag ++ (32 ∷ 79 ∷ 75 ∷ 32 ∷ more) =
    append_assoc (tag ++ codes " OK " ++ code_prefix c ++ command_text w) (codes " completed") (13 ∷ 10 ∷ rest)
    ∙ append_assoc (tag ++ codes " OK " ++ code_prefix c) (command_text w) (codes " completed" ++ (13 ∷ 10 ∷ rest))
    ∙ append_assoc (tag ++ codes " OK ") (code_prefix c) (command_text w ++ (codes " completed" ++ (13 ∷ 10 ∷ rest)))
    ∙ append_assoc tag (codes " OK ") more in
    ap answer_at whole ∙ tagged-round_trip tag (79 ∷ 75 ∷ 32 ∷ more) h.0 ∙ done_again tag more ∙ completed-round_trip tag c w (13 ∷ 10 ∷ rest) h.1
answer-round_trip (answer.Refused tag reason) rest h =
    let whole : (tag ++ codes " " ++ refusal_text reason) ++ (13 ∷ 10 ∷ rest) ≡ tag ++ (32 ∷ (refusal_text reason ++ (13 ∷ 10 ∷ rest))) =
    append_assoc (tag ++ codes " ") (refusal_text reason) (13 ∷ 10 ∷ rest) ∙ append_assoc tag (codes " ") (refusal_text reason ++ (13 ∷ 10 ∷ rest)) in
    ap answer_at whole ∙ tagged-round_trip tag (refusal_text reason ++ (13 ∷ 10 ∷ rest)) h ∙ refused-round_trip tag reason (13 ∷ 10 ∷ rest)

-- what is printed is read, whatever follows it
pub line-round_trip : (a : Answer) (rest : List ℕ) → IsPrintable a → line_at (text_of_answer a ++ rest) ≡ Some (a, rest)
unfolding line_at
line-round_trip a rest h =
    ap line_at (append_assoc (line_of_answer a) crlf rest)
    ∙ ap (λ o. o >>= λ parsed. value_with_rest parsed.0 (after crlf parsed.1)) (answer-round_trip a rest h)
