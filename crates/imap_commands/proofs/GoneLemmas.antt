-- If FETCH gives an answer for each number, no message is gone.
use Rattle.std.proofs.Common.{◌≡◌, inl, inr, ℕ, ◌+◌, ◌≤◌, Bool, true, false, ◌||◌, List, [], ◌∷◌, length, refl, ap, arith, Option, Some, None, length-append}
use Rattle.std.proofs.lemmas.Bool.{cases_Bool}
use Rattle.std.proofs.lemmas.Grind.{flat_map-append}
use Rattle.imap_syntax.specs.declared.fetch.FetchItem.{FetchItem}
use Rattle.imap_answers.specs.declared.answer.Answer.{Answer}
use Rattle.imap_query.specs.FetchCommand.{answer_of, fetch_answers, is_above_changed_since}
use Rattle.imap_query.specs.declared.fetch_command.FetchMode.{FetchMode}
use Rattle.imap_query.specs.declared.viewed_message.ViewedMessage.{ViewedMessage}
use Rattle.mailbox_rows.specs.ListedMessage.{ListedMessage}
use Rattle.mailbox_rows.specs.RowViews.{row_of}
use Rattle.session_view.specs.declared.view_entry.ViewEntry.{ViewEntry}
use Rattle.imap_commands.specs.FetchCommand.{viewed_message_at, viewed_messages_at}
use Rattle.imap_commands.specs.Report.{are_some_gone, entry_at, is_gone, message_at, row_for}

-- 1 for true, 0 for false.
abbrev one_if : Bool → ℕ
one_if true = 1
one_if false = 0

one_or : (a b : Bool) → one_if (a || b) ≤ one_if a + one_if b
one_or true b = omega arith
one_or false b = omega arith

-- A message has at most one answer, and none if it is gone.
one_answer : (items : List FetchItem) (mode : FetchMode) (shown : ViewedMessage) (old row : Option ListedMessage) → length (answer_of items mode shown old row) + one_if (is_gone old) ≤ 1
one_answer items mode shown None row = omega arith
one_answer items mode shown (Some old) None = omega arith
one_answer items mode shown (Some old) (Some row) =
    elim (cases_Bool (is_above_changed_since mode.changed_since old)) [
      | inl t ↦ rw t (omega arith)
      | inr f ↦ rw f (omega arith)
    ]

-- A number has at most one answer, and none if its message is gone.
numbered : (items : List FetchItem) (mode : FetchMode) (before after : List ListedMessage) (n : ℕ) (e : Option ViewEntry) → length (fetch_answers items mode before after (viewed_message_at n e)) + one_if (is_gone (row_for before e)) ≤ 1
numbered items mode before after n None = omega arith
numbered items mode before after n (Some e) =
    let shown : ViewedMessage = record { number = n; uid = e.uid } in
    let one = one_answer items mode shown (row_of e.uid before) (row_of e.uid after) in
    omega (arith, length-append (answer_of items mode shown (row_of e.uid before) (row_of e.uid after)) [], one)

-- If some messages are gone, there are fewer answers than numbers.
fewer : (items : List FetchItem) (mode : FetchMode) (before after : List ListedMessage) (view : List ViewEntry) (numbers : List ℕ) → length (fetch_answers items mode before after (viewed_messages_at view numbers)) + one_if (are_some_gone before view numbers) ≤ length numbers
fewer items mode before after view [] = omega arith
fewer items mode before after view (n ∷ numbers) =
    let answers : ViewedMessage → List Answer = λ shown. answer_of items mode shown (row_of shown.uid before) (row_of shown.uid after) in
    let first = viewed_message_at n (entry_at view n) in
    let parts_around = ap length (flat_map-append answers first (viewed_messages_at view numbers)) in
    let both = length-append (fetch_answers items mode before after first) (fetch_answers items mode before after (viewed_messages_at view numbers)) in
    let one = numbered items mode before after n (entry_at view n) in
    let rest = fewer items mode before after view numbers in
    let some = one_or (is_gone (message_at before view n)) (are_some_gone before view numbers) in
    omega (arith, parts_around, both, one, rest, some)

none_so : (b : Bool) (count all : ℕ) → count + one_if b ≤ all → count ≡ all → b ≡ false
none_so true count all h e = absurd (omega (arith, h, e))
none_so false count all h e = refl

-- If there are as many answers as numbers, no message is gone.
pub none_gone : (items : List FetchItem) (mode : FetchMode) (before after : List ListedMessage) (view : List ViewEntry) (numbers : List ℕ) → length (fetch_answers items mode before after (viewed_messages_at view numbers)) ≡ length numbers → are_some_gone before view numbers ≡ false
none_gone items mode before after view numbers e = none_so _ _ _ (fewer items mode before after view numbers) e
