use Rattle.std.proofs.Common.{◌≡◌, ◌∙◌, sym, subst, refl, arith, ℕ, ◌+◌, ◌≤◌, ◌<◌, inl, inr, Bool, true, false, List, [], ◌∷◌, ◌++◌, length}
use Rattle.std.specs.List.{filter, list_all}
use Rattle.std.proofs.lemmas.Bool.{and_parts, cases_Bool}
use Rattle.std.proofs.lemmas.Slice.Eq.{bytes_eq-Decides}
use Rattle.imap_answers.specs.Printable.{AreFlags, Each, IsAtom, IsCode, IsFolded, IsPrintable, IsSmall, IfPresent}
use Rattle.imap_types.specs.declared.flags.Flags.{Flags}
use Rattle.imap_types.specs.Keywords.{is_lower_case, to_lower_case}
use Rattle.imap_query.specs.declared.mailbox_status.MailboxCounters.{MailboxCounters}
use Rattle.mailbox_rows.specs.ListedMessage.{ListedMessage}
use Rattle.mailbox_rows.specs.RowViews.{AreRisingRows}
use Rattle.merge_laws.specs.Orders.{IsIn}
use Rattle.imap_commands.specs.Printing.{AreNonzeroCounters, AreShowable, IsPrintableReport, IsShowable}
use Rattle.imap_commands.specs.SelectCommand.{AreListedKeywords, IsSelectReport, access_code, closed_answers, flags_in_use, mailbox_answers, permanent_flags}
use Rattle.imap_commands.specs.Report.{CommandReport}

-- ---- each item of a list

pub each_of : {X : Type 0} (P : X → Type 0) (xs : List X) → ((x : X) → IsIn x xs → P x) → Each P xs
each_of P [] h = tt
each_of P (x ∷ xs) h = (h x (inl refl), each_of P xs (λ y i. h y (inr i)))

pub each_in : {X : Type 0} (P : X → Type 0) (xs : List X) (x : X) → Each P xs → IsIn x xs → P x
each_in P [] x h i = absurd i
each_in P (y ∷ ys) x h i = elim i [ inl e ↦ subst P e h.0 | inr t ↦ each_in P ys x h.1 t ]

pub each_append : {X : Type 0} (P : X → Type 0) (xs ys : List X) → Each P xs → Each P ys → Each P (xs ++ ys)
each_append P [] ys h k = k
each_append P (x ∷ xs) ys h k = (h.0, each_append P xs ys h.1 k)

pub each_filtered : {X : Type 0} (P : X → Type 0) (test : X → Bool) (xs : List X) → Each P xs → Each P (filter test xs)
each_filtered P test [] h = tt
each_filtered P test (x ∷ xs) h =
    elim (cases_Bool (test x)) [
      | inl t ↦ rw t (h.0, each_filtered P test xs h.1)
      | inr f ↦ rw f (each_filtered P test xs h.1)
    ]

all_in : {X : Type 0} (test : X → Bool) (xs : List X) (x : X) → list_all test xs ≡ true → IsIn x xs → test x ≡ true
all_in test [] x h i = absurd i
all_in test (y ∷ ys) x h i =
    let both = and_parts (test y) (list_all test ys) h in
    elim i [ inl e ↦ subst (λ z. test z ≡ true) e both.0 | inr t ↦ all_in test ys x both.1 t ]

-- ---- the number of messages in a listing

pub row_count : (low : ℕ) (rows : List ListedMessage) → AreRisingRows low rows → Each IsShowable rows → low ≤ 4294967296 → low + length rows ≤ 4294967296
row_count low [] r h l = omega (arith, l)
row_count low (row ∷ rows) r h l =
    let u : row.uid < 4294967296 = h.0.uid.1 in
    let n = row_count (row.uid + 1) rows r.1 h.1 (omega (arith, u)) in
    let first : low ≤ row.uid = r.0 in
    omega (arith, n, first)

pub rows_small : (rows : List ListedMessage) → AreShowable rows → IsSmall (length rows)
rows_small rows h = let n = row_count 1 rows h.rising h.each (omega arith) in omega (arith, n)

-- ---- SELECT and EXAMINE

use_atoms : (rows : List ListedMessage) (keywords : List (List ℕ)) → AreListedKeywords rows keywords → Each IsShowable rows → Each IsAtom keywords
use_atoms rows keywords are h =
    each_of IsAtom keywords (λ word i.
    let b = (are.exactly word).0 i in
    let f = (each_in IsShowable rows b.0 h b.1).flags in
    let low : is_lower_case b.2.0 ≡ true = all_in is_lower_case b.0.flags.keywords b.2.0 f.0.0 b.2.1 in
    let same : to_lower_case b.2.0 ≡ b.2.0 = (bytes_eq-Decides (to_lower_case b.2.0) b.2.0).0 low in
    subst IsAtom (sym same ∙ b.2.2) (each_in IsAtom b.0.flags.keywords b.2.0 f.1 b.2.1))

use_flags : (rows : List ListedMessage) (keywords : List (List ℕ)) → AreListedKeywords rows keywords → Each IsShowable rows → AreFlags (flags_in_use keywords)
use_flags rows keywords are h = (are.set, use_atoms rows keywords are h)

permanent : (read_only : Bool) (flags : Flags) → AreFlags flags → IfPresent AreFlags (permanent_flags read_only flags)
permanent true flags h = tt
permanent false flags h = h

closed : (was_selected : Bool) → Each IsPrintable (closed_answers was_selected)
closed true = (tt, tt)
closed false = tt

access : (read_only : Bool) → IsCode (access_code read_only)
access true = tt
access false = tt

opened : (read_only : Bool) (name : List ℕ) (counters : MailboxCounters) (rows : List ListedMessage) (flags : Flags) → AreFlags flags → IsFolded name → AreNonzeroCounters counters → AreShowable rows
    → Each IsPrintable (mailbox_answers read_only name counters (length rows) flags)
opened read_only name counters rows flags a f m h = (a, (rows_small rows h, (f, (m.uidvalidity, (m.uidnext, (permanent read_only flags a, (m.highest, tt)))))))

pub select_printable : (was_selected read_only : Bool) (name : List ℕ) (counters : MailboxCounters) (rows : List ListedMessage) (report : CommandReport) → IsFolded name → AreNonzeroCounters counters → AreShowable rows
    → IsSelectReport was_selected read_only name counters rows report → IsPrintableReport report
select_printable was_selected read_only name counters rows report f m h s =
    let flags = use_flags rows s.keywords s.borne h.each in
    let all = mailbox_answers read_only name counters (length rows) (flags_in_use s.keywords) in
    subst IsPrintableReport (sym s.only) (record {
      own = each_append IsPrintable (closed_answers was_selected) all (closed was_selected) (opened read_only name counters rows (flags_in_use s.keywords) flags f m h);
      code = access read_only;
    })
