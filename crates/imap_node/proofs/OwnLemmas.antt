-- A command's own answers, if they shift no numbers, change a view only by the flags that they
-- report.
use Rattle.std.specs.List.{list_any}
use Rattle.std.proofs.Common.{◌≡◌, Bool, true, false, ◌||◌, ℕ, List, [], ◌∷◌, ◌++◌, Option, None, Some, refl, sym, ap, ◌∙◌}
use Rattle.std.proofs.lemmas.Bool.{false≢true}
use Rattle.imap_answers.specs.declared.answer.Answer.{Answer}
use Rattle.imap_answers.specs.declared.answer.Answer.TheVariants.{Exists, Expunge, Fetch}
use Rattle.imap_types.specs.declared.flags.Flags.{Flags}
use Rattle.mailbox_rows.specs.ListedMessage.{ListedMessage}
use Rattle.session_view.specs.NoteChanges.{all_fetched_flags, flags_by, fetched_flags, is_shifting}
use Rattle.session_view.specs.Replay.{after_answer, after_answers, after_silent, with_fetched_flags, with_flags_at, view_after_reply}
use Rattle.session_view.specs.declared.view_entry.ViewEntry.{ViewEntry}
use Rattle.session_view.specs.declared.reply_replay.SilentFlags.{SilentFlags}

after_silent_append : (view : List ViewEntry) (xs ys : List SilentFlags) → after_silent view (xs ++ ys) ≡ after_silent (after_silent view xs) ys
after_silent_append view [] ys = refl
after_silent_append view (x ∷ xs) ys = after_silent_append (with_flags_at view x.number x.flags) xs ys

with_fetched_flags_silent : (view : List ViewEntry) (k : ℕ) (flags : Option Flags) → with_fetched_flags view k flags ≡ after_silent view (flags_by k flags)
with_fetched_flags_silent view k None = refl
with_fetched_flags_silent view k (Some flags) = refl

after_answer_silent : (rows : List ListedMessage) (view : List ViewEntry) (answer : Answer) → is_shifting answer ≡ false → after_answer rows view answer ≡ after_silent view (fetched_flags answer)
after_answer_silent rows view (Expunge n) h = absurd (false≢true (sym h))
after_answer_silent rows view (Exists n) h = absurd (false≢true (sym h))
after_answer_silent rows view (Fetch k items) h = with_fetched_flags_silent view k items.flags
after_answer_silent rows view _ h = refl

or_both_false : (a b : Bool) → (a || b) ≡ false → (a ≡ false) × (b ≡ false)
or_both_false true b h = absurd (false≢true (sym h))
or_both_false false b h = (refl, h)

after_answers_silent : (rows : List ListedMessage) (view : List ViewEntry) (own : List Answer) → list_any is_shifting own ≡ false → after_answers rows view own ≡ after_silent view (all_fetched_flags own)
after_answers_silent rows view [] h = refl
after_answers_silent rows view (answer ∷ own) h =
    let k = or_both_false (is_shifting answer) (list_any is_shifting own) h in
    ap (λ (es : List ViewEntry). after_answers rows es own) (after_answer_silent rows view answer k.0)
    ∙ after_answers_silent rows (after_silent view (fetched_flags answer)) own k.1
    ∙ sym (after_silent_append view (fetched_flags answer) (all_fetched_flags own))

pub view_after_reply_own : (rows : List ListedMessage) (view : List ViewEntry) (silent : List SilentFlags) (own : List Answer) → list_any is_shifting own ≡ false → view_after_reply rows view silent own ≡ after_silent view (silent ++ all_fetched_flags own)
view_after_reply_own rows view silent own h = after_answers_silent rows (after_silent view silent) own h ∙ sym (after_silent_append view silent (all_fetched_flags own))
