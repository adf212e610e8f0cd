use Rattle.std.proofs.Common.{◌≡◌, ◌++◌, List, ℕ, Some, length, drop, ap, sym, ◌∙◌}
use Rattle.std.proofs.Math.Seq.{drop-append_seam}
use Rattle.imap_answers.specs.AnswerText.{text_of_answer}
use Rattle.imap_print.specs.Reading.{after}
use Rattle.imap_print.proofs.RoundTrips.{after-round_trip, after-takes}
use Rattle.imap_print.proofs.ReadingLemmas.{none_some}
use Rattle.imap_print.proofs.answer_reader.printed_length.Goals as goal

pub returns-in-None-clause-only : goal.returns-in-None-clause-only
returns-in-None-clause-only c rest e =
    let text = text_of_answer c.args.answer.now in
    let out : c.deref.result.now ≡ text = c.deref.ensures.value ∙ c.in_ok-print.ensures.ok ∙ ap (λ (x : List ℕ). x ++ text) c.new-out.ensures.items in
    absurd (none_some rest (c.in-None.ensures ∙ (λ k. after (out k) (e k)) ∙ after-round_trip text rest))

pub returns-clause-printed : goal.returns-clause-printed
returns-clause-printed c =
    let text = text_of_answer c.args.answer.now in
    let out : c.deref.result.now ≡ text = c.deref.ensures.value ∙ c.in_ok-print.ensures.ok ∙ ap (λ (x : List ℕ). x ++ text) c.new-out.ensures.items in
    let size : c.len.result ≡ length text = c.len.ensures ∙ sym c.deref.ensures.len ∙ ap length out in
    let rest = c.in-Some.field-0.now in
    let prefix : after text c.args.text.now ≡ Some rest = ap (λ (x : List ℕ). after x c.args.text.now) (sym out) ∙ sym c.in-Some.ensures in
    let whole : c.args.text.now ≡ text ++ rest = after-takes text c.args.text.now rest prefix in
    let left : drop c.len.result c.args.text.now ≡ rest = (λ k. drop (size k) (whole k)) ∙ drop-append_seam text rest in
    (whole ∙ ap (λ (x : List ℕ). text ++ x) (sym left), size)
