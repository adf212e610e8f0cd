use Rattle.std.proofs.Common.{◌≡◌, sym, subst, refl, arith, ℕ, ◌≤◌, ◌<◌, ◌⊎◌, inl, inr, Bool, true, false, ◌||◌, List, [], ◌∷◌, ◌++◌, length, map}
use Rattle.std.specs.Prelude.{is_some, min}
use Rattle.std.specs.List.{filter, sum_by}
use Rattle.std.proofs.lemmas.Bool.{cases_Bool, false≢true}
use Rattle.imap_answers.specs.declared.answer.Answer.{Answer}
use Rattle.imap_answers.specs.Printable.{AreStatusItems, Each, IsFolded, IsModSeq, IsNonzero, IsPrintable, IsSmall, IsWide, IfPresent, has_mailbox_item}
use Rattle.imap_answers.specs.declared.mailbox.StatusItems.{StatusItems}
use Rattle.imap_syntax.specs.declared.status.StatusItem.{StatusItem}
use Rattle.imap_syntax.specs.declared.status.StatusItem.TheVariants as item
use Rattle.imap_syntax.specs.declared.flags.SystemFlag.TheVariants as system
use Rattle.imap_query.specs.ListEntries.{AreListEntries}
use Rattle.imap_query.specs.Messages.{is_flagged}
use Rattle.imap_query.specs.ListNames.{ListsMatching, ListsNames, name_answer, subscribed_answer}
use Rattle.imap_query.specs.Patterns as patterns
use Rattle.imap_query.specs.Status.{is_asked, size_of, status_of, if_asked}
use Rattle.imap_query.specs.declared.list_entries.ListEntry.{ListEntry}
use Rattle.imap_query.specs.declared.mailbox_status.MailboxCounters.{MailboxCounters}
use Rattle.imap_query.specs.declared.list_answers.ListMode.{ListMode}
use Rattle.imap_types.specs.Names.{fold_inbox, is_inbox}
use Rattle.mailbox_rows.specs.ListedMessage.{ListedMessage}
use Rattle.merge_laws.specs.Orders.{IsIn}
use Rattle.imap_commands.specs.SimpleCommands.{IsListReport, capability_report, idle_report, logout_report, namespace_report, status_report}
use Rattle.imap_commands.specs.EnableCommand.{enable_report}
use Rattle.imap_commands.specs.Printing.{AreNonzeroCounters, AreShowable, IsPrintableReport}
use Rattle.imap_commands.specs.Report.{CommandReport, report_of_answers}
use Rattle.imap_commands.proofs.PrintSelectLemmas.{each_in, each_of, rows_small}

-- ---- reports of only answers

pub only_printable : (answers : List Answer) → Each IsPrintable answers → IsPrintableReport (report_of_answers answers)
only_printable answers h = record { own = h; code = tt }

-- ---- LIST

-- after `fold_inbox` a name has INBOX in capitals
pub folded_fold_inbox : (name : List ℕ) → IsFolded (fold_inbox name)
folded_fold_inbox name =
    elim (cases_Bool (is_inbox name)) [
      | inl t ↦ rw t refl
      | inr f ↦ rw (f, f) refl
    ]

is_in_from_patterns : {X : Type 0} (x : X) (xs : List X) → patterns.IsIn x xs → IsIn x xs
is_in_from_patterns x [] h = absurd h
is_in_from_patterns x (y ∷ ys) h = elim h [ inl e ↦ inl e | inr t ↦ inr (is_in_from_patterns x ys t) ]

patterns_from_is_in : {X : Type 0} (x : X) (xs : List X) → IsIn x xs → patterns.IsIn x xs
patterns_from_is_in x [] h = absurd h
patterns_from_is_in x (y ∷ ys) h = elim h [ inl e ↦ inl e | inr t ↦ inr (patterns_from_is_in x ys t) ]

each_mapped : {X Y : Type 0} (Q : X → Type 0) (P : Y → Type 0) (f : X → Y) (xs : List X) → ((x : X) → Q x → P (f x)) → Each Q xs → Each P (map f xs)
each_mapped Q P f [] g h = tt
each_mapped Q P f (x ∷ xs) g h = (g x h.0, each_mapped Q P f xs g h.1)

entry_folded : (pattern : List ℕ) (folders : List (List ℕ)) (entries : List ListEntry) → Each IsFolded folders → AreListEntries folders pattern entries → (entry : ListEntry) → IsIn entry entries → IsFolded entry.name
entry_folded pattern folders entries all h entry i =
    elim (((h.exactly entry).0 (patterns_from_is_in entry entries i)).1) [
      | inl m ↦ each_in IsFolded folders entry.name all (is_in_from_patterns entry.name folders m.1)
      | inr l ↦ subst IsFolded (sym l.2.4) (folded_fold_inbox l.2.0)
    ]

matched_printable : (only returned : Bool) (pattern : List ℕ) (folders subscriptions : List (List ℕ)) (answers : List Answer) → Each IsFolded folders → Each IsFolded subscriptions
    → ListsMatching only returned pattern folders subscriptions answers → Each IsPrintable answers
matched_printable true returned pattern folders subscriptions answers f s h =
    let names = h.0 in
    let folded : Each IsFolded names = each_of IsFolded names (λ name i. each_in IsFolded subscriptions name s (is_in_from_patterns name subscriptions ((h.1.exactly name).0 (patterns_from_is_in name names i)).1)) in
    subst (Each IsPrintable) (sym h.2) (each_mapped IsFolded IsPrintable (subscribed_answer folders) names (λ name k. k) folded)
matched_printable false returned pattern folders subscriptions answers f s h =
    let entries = h.0 in
    let folded : Each (λ (entry : ListEntry). IsFolded entry.name) entries = each_of (λ (entry : ListEntry). IsFolded entry.name) entries (entry_folded pattern folders entries f h.1) in
    subst (Each IsPrintable) (sym h.2) (each_mapped (λ (entry : ListEntry). IsFolded entry.name) IsPrintable (name_answer returned subscriptions) entries (λ entry k. k) folded)

names_printable : (mode : ListMode) (reference pattern : List ℕ) (folders subscriptions : List (List ℕ)) (answers : List Answer) → Each IsFolded folders → Each IsFolded subscriptions
    → ListsNames mode reference pattern folders subscriptions answers → Each IsPrintable answers
names_printable mode reference [] folders subscriptions answers f s h = subst (Each IsPrintable) (sym h) (refl, tt)
names_printable mode reference (octet ∷ pattern) folders subscriptions answers f s h =
    matched_printable mode.subscribed_only mode.return_subscribed (reference ++ octet ∷ pattern) folders subscriptions answers f s h

pub list_printable : (mode : ListMode) (reference pattern : List ℕ) (folders subscriptions : List (List ℕ)) (report : CommandReport) → Each IsFolded folders → Each IsFolded subscriptions
    → IsListReport mode reference pattern folders subscriptions report → IsPrintableReport report
list_printable mode reference pattern folders subscriptions report f s h =
    subst IsPrintableReport (sym h.only) (only_printable report.own (names_printable mode reference pattern folders subscriptions report.own f s h.names))

-- ---- STATUS

abbrev IsOneOf : Bool → Bool → Bool → Bool → Bool → Bool → Bool → Type 0
IsOneOf a b c d e f g = (a ≡ true) ⊎ ((b ≡ true) ⊎ ((c ≡ true) ⊎ ((d ≡ true) ⊎ ((e ≡ true) ⊎ ((f ≡ true) ⊎ (g ≡ true))))))

any_of : (a b c d e f g : Bool) → IsOneOf a b c d e f g → (a || b || c || d || e || f || g) ≡ true
any_of true b c d e f g h = refl
any_of false true c d e f g h = refl
any_of false false true d e f g h = refl
any_of false false false true e f g h = refl
any_of false false false false true f g h = refl
any_of false false false false false true g h = refl
any_of false false false false false false true h = refl
any_of false false false false false false false h =
    elim h [
      | inl x ↦ absurd (false≢true x)
      | inr s ↦ elim s [
        | inl x ↦ absurd (false≢true x)
        | inr t ↦ elim t [
          | inl x ↦ absurd (false≢true x)
          | inr u ↦ elim u [
            | inl x ↦ absurd (false≢true x)
            | inr v ↦ elim v [
              | inl x ↦ absurd (false≢true x)
              | inr w ↦ elim w [ inl x ↦ absurd (false≢true x) | inr x ↦ absurd (false≢true x) ]
            ]
          ]
        ]
      ]
    ]

has_some_status : (report : StatusItems)
    → IsOneOf (is_some report.messages) (is_some report.uidnext) (is_some report.uidvalidity) (is_some report.unseen) (is_some report.deleted) (is_some report.size) (is_some report.highest_modseq) → has_mailbox_item report ≡ true
has_some_status report h = any_of (is_some report.messages) (is_some report.uidnext) (is_some report.uidvalidity) (is_some report.unseen) (is_some report.deleted) (is_some report.size) (is_some report.highest_modseq) h

one_asked : (one : StatusItem) (items : List StatusItem) (counters : MailboxCounters) (rows : List ListedMessage) → has_mailbox_item (status_of (one ∷ items) counters rows) ≡ true
one_asked item.Messages items counters rows = has_some_status (status_of (item.Messages ∷ items) counters rows) (inl refl)
one_asked item.UidNext items counters rows = has_some_status (status_of (item.UidNext ∷ items) counters rows) (inr (inl refl))
one_asked item.UidValidity items counters rows = has_some_status (status_of (item.UidValidity ∷ items) counters rows) (inr (inr (inl refl)))
one_asked item.Unseen items counters rows = has_some_status (status_of (item.Unseen ∷ items) counters rows) (inr (inr (inr (inl refl))))
one_asked item.Deleted items counters rows = has_some_status (status_of (item.Deleted ∷ items) counters rows) (inr (inr (inr (inr (inl refl)))))
one_asked item.Size items counters rows = has_some_status (status_of (item.Size ∷ items) counters rows) (inr (inr (inr (inr (inr (inl refl))))))
one_asked item.HighestModSeq items counters rows = has_some_status (status_of (item.HighestModSeq ∷ items) counters rows) (inr (inr (inr (inr (inr (inr refl))))))

status_of_has_item : (items : List StatusItem) (counters : MailboxCounters) (rows : List ListedMessage) → 0 < length items → has_mailbox_item (status_of items counters rows) ≡ true
status_of_has_item [] counters rows l = absurd (omega (arith, l))
status_of_has_item (one ∷ items) counters rows l = one_asked one items counters rows

if_asked_holds : (P : ℕ → Type 0) (one : StatusItem) (items : List StatusItem) (number : ℕ) → P number → IfPresent P (if_asked one items number)
if_asked_holds P one items number h = elim (cases_Bool (is_asked one items)) [ inl t ↦ rw t h | inr f ↦ rw f tt ]

filter_fewer : {X : Type 0} (test : X → Bool) (xs : List X) → length (filter test xs) ≤ length xs
filter_fewer test [] = omega arith
filter_fewer test (x ∷ xs) =
    let more = filter_fewer test xs in
    elim (cases_Bool (test x)) [ inl t ↦ rw t (omega (arith, more)) | inr f ↦ rw f (omega (arith, more)) ]

pub status_printable : (name : List ℕ) (items : List StatusItem) (counters : MailboxCounters) (rows : List ListedMessage) → IsFolded name → 0 < length items → AreNonzeroCounters counters → AreShowable rows
    → IsPrintableReport (status_report name items counters rows)
status_printable name items counters rows f l m r =
    let n : length rows < 4294967296 = rows_small rows r in
    let unseen = filter_fewer (is_flagged system.Seen false) rows in
    let deleted = filter_fewer (is_flagged system.Deleted true) rows in
    let report : AreStatusItems (status_of items counters rows) = record {
      some = status_of_has_item items counters rows l;
      messages = if_asked_holds IsSmall item.Messages items (length rows) n;
      uidnext = if_asked_holds IsNonzero item.UidNext items counters.uidnext m.uidnext;
      uidvalidity = if_asked_holds IsNonzero item.UidValidity items counters.uidvalidity m.uidvalidity;
      unseen = if_asked_holds IsSmall item.Unseen items (length (filter (is_flagged system.Seen false) rows)) (omega (arith, n, unseen));
      deleted = if_asked_holds IsSmall item.Deleted items (length (filter (is_flagged system.Deleted true) rows)) (omega (arith, n, deleted));
      size = if_asked_holds IsWide item.Size items (min (sum_by size_of rows) 18446744073709551615) (omega arith);
      highest_modseq = if_asked_holds IsModSeq item.HighestModSeq items counters.highest_modseq m.highest;
    } in
    only_printable (_ ∷ []) ((f, report), tt)

-- ---- ENABLE, and the constant answers

pub enable_printable : (names : List (List ℕ)) → IsPrintableReport (enable_report names)
enable_printable names = record { own = (tt, tt); code = tt }

pub capability_printable : IsPrintableReport capability_report
capability_printable = record { own = (tt, tt); code = tt }

pub namespace_printable : IsPrintableReport namespace_report
namespace_printable = record { own = (tt, tt); code = tt }

pub logout_printable : IsPrintableReport logout_report
logout_printable = record { own = (tt, tt); code = tt }

pub idle_printable : IsPrintableReport idle_report
idle_printable = record { own = (tt, tt); code = tt }
