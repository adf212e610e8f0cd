-- The lines that answer most commands, and octets that begin with the old ones.
use Rattle.std.proofs.Common.{◌≡◌, ◌≤◌, ◌∙◌, ℕ, List, [], ◌++◌, None, refl, arith, ap, sym, append_assoc, append-nil, length, take}
use Rattle.std.proofs.lemmas.List.{length-take, take-append-le, take_all}
use Rattle.std.specs.Prelude.{codes, decimal}
use Rattle.imap_types.specs.Flags.{flag_texts}
use Rattle.imap_types.specs.declared.flags.Flags.{Flags}
use Rattle.imap_answers.specs.declared.answer.Answer.TheVariants.{Completed, Fetch}
use Rattle.imap_answers.specs.declared.fetch_items.FetchItems.{FetchItems}
use Rattle.imap_answers.specs.declared.fixed_words.CompletedWord.{CompletedWord}
use Rattle.imap_answers.specs.AnswerText.{line_of_answer, text_of_answer}
use Rattle.imap_answers.specs.Strings.{crlf, separated_by}
use Rattle.imap_answers.specs.Words.{command_text}
use Rattle.imap_print.specs.Appending.{IsPrefix}
use Rattle.imap_print.specs.Lines.{EndsFlags, done_line, flags_end, numbered_line, only_flags}

joined : (digits front label texts end line : List ℕ) → (((digits ++ front) ++ ((label ++ texts ++ end) ++ [])) ++ end) ++ line ≡ digits ++ (front ++ (label ++ (texts ++ (end ++ (end ++ line)))))
joined digits front label texts end line = simp (append_assoc, append-nil)

flags_line_is : (number : ℕ) (flags : Flags) → numbered_line number (flags_end flags) ≡ text_of_answer (Fetch number (only_flags flags))
unfolding line_of_answer
flags_line_is number flags = ap (λ text. codes "* " ++ text) (sym (joined (decimal number) (codes " FETCH (") (codes "FLAGS (") (separated_by 32 (flag_texts flags)) (codes ")") crlf))

pub line_is : (number : ℕ) (items : FetchItems) (end : List ℕ) → EndsFlags items end → numbered_line number end ≡ text_of_answer (Fetch number items)
line_is number items end parts = ap (numbered_line number) parts.2 ∙ flags_line_is number parts.0 ∙ ap (λ (i : FetchItems). text_of_answer (Fetch number i)) (sym parts.1)

done_joined : (tag ok word end line : List ℕ) → (tag ++ ok ++ [] ++ word ++ end) ++ line ≡ tag ++ ok ++ word ++ (end ++ line)
done_joined tag ok word end line = simp (append_assoc, append-nil)

pub done_line_is : (tag : List ℕ) (command : CompletedWord) → done_line tag (command_text command) ≡ text_of_answer (Completed tag None command)
unfolding line_of_answer
done_line_is tag command = sym (done_joined tag (codes " OK ") (command_text command) (codes " completed") crlf)

-- ---- octets that begin with the old ones

pub starts_same : (old new : List ℕ) → new ≡ old → IsPrefix old new
starts_same old new e = ap (take (length old)) e ∙ take_all (length old) old (omega arith)

pub starts_after : (old before text new : List ℕ) → IsPrefix old before → new ≡ before ++ text → IsPrefix old new
starts_after old before text new starts e =
    let short : length old ≤ length before = omega (arith, length-take (length old) before, ap length starts) in
    ap (take (length old)) e ∙ take-append-le (length old) before text short ∙ starts

pub starts_line : (old line new : List ℕ) → new ≡ old ++ line → IsPrefix old new
starts_line old line new e = starts_after old old line new (starts_same old old refl) e
