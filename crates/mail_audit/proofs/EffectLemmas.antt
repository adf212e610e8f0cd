use Rattle.std.proofs.Common.{◌≡◌, inl, inr, ℕ, List, [], ◌∷◌, ◌++◌, refl, sym, ap, ◌∙◌, subst}
use Rattle.imap_syntax.specs.Commands.{IsSpelled}
use Rattle.imap_syntax.specs.declared.command.Tagged.{Tagged}
use Rattle.imap_answers.specs.declared.answer.Answer.{Answer}
use Rattle.imap_answers.specs.Printable.{IsPrintable}
use Rattle.imap_answers.specs.AnswerText.{text_of_answer}
use Rattle.mail_script.specs.declared.transcript.Speaker.{Speaker}
use Rattle.mail_script.specs.declared.transcript.Speaker.TheVariants.{Client, Server}
use Rattle.mail_audit.specs.declared.event.SlotEvent.{SlotEvent}
use Rattle.mail_audit.specs.declared.in_progress.RunningCommand.{RunningCommand}
use Rattle.mail_audit.specs.Explanations.{IsExplained}
use Rattle.mail_audit.specs.Transcripts.{AreEvents, IsAnswerEffect, IsFrameEffect, IsExplainedTranscript, IsSentEffect, SentOctets, event_by, event_of, running_after, running_by}
use Rattle.mail_audit.proofs.SlotStepLemmas.{explained_front}

module _ (one_command : (this that : Tagged) (frame : List ℕ) → IsSpelled this frame → IsSpelled that frame → this ≡ that) (one_answer : (one other : Answer) (rest more : List ℕ) → IsPrintable one → IsPrintable other → text_of_answer one ++ rest ≡ text_of_answer other ++ more → (one ≡ other) × (rest ≡ more)) where
  one_asked : (running : List RunningCommand) (frame : List ℕ) (a b : List RunningCommand) (e f : SlotEvent) → IsFrameEffect running frame a e → IsFrameEffect running frame b f → (a ≡ b) × (e ≡ f)
  one_asked running frame a b e f h k =
      elim h [
        | inl x ↦ elim k [
          | inl y ↦
              let t : x.0 ≡ y.0 = one_command x.0 y.0 frame x.1.1 y.1.1 in
              (x.2 ∙ ap (λ (t : Tagged). running ++ running_by t ∷ []) t ∙ sym y.2, x.3 ∙ ap (λ (t : Tagged). event_by t.command) t ∙ sym y.3)
          | inr y ↦ absurd (y.0 x.0 x.1)
        ]
        | inr x ↦ elim k [ inl y ↦ absurd (x.0 y.0 y.1) | inr y ↦ (x.1 ∙ sym y.1, x.2 ∙ sym y.2) ]
      ]

  one_answered : (running : List RunningCommand) (octets : List ℕ) (a b : List RunningCommand) (e f : SlotEvent) → IsAnswerEffect running octets a e → IsAnswerEffect running octets b f → (a ≡ b) × (e ≡ f)
  one_answered running octets a b e f x y =
      let t : x.0 ≡ y.0 = (one_answer x.0 y.0 [] [] x.1 y.1 (ap (λ (o : List ℕ). o ++ []) (sym x.2 ∙ y.2))).0 in
      (x.4 ∙ ap (running_after running) t ∙ sym y.4, x.5 ∙ ap event_of t ∙ sym y.5)

  pub one_effect : (running : List RunningCommand) (speaker : Speaker) (octets : List ℕ) (a b : List RunningCommand) (e f : SlotEvent) → IsSentEffect running speaker octets a e → IsSentEffect running speaker octets b f → (a ≡ b) × (e ≡ f)
  one_effect running Client octets a b e f h k = one_asked running octets a b e f h k
  one_effect running Server octets a b e f h k = one_answered running octets a b e f h k

  pub one_events : (running : List RunningCommand) (sent : List SentOctets) (these those : List SlotEvent) → AreEvents running sent these → AreEvents running sent those → these ≡ those
  one_events running [] these those h k = h ∙ sym k
  one_events running (s ∷ sent) these those h k =
      let o = one_effect running s.speaker s.octets h.0 k.0 h.1 k.1 h.3 k.3 in
      let r = one_events k.0 sent h.2 k.2 (subst (λ (a : List RunningCommand). AreEvents a sent h.2) o.0 h.5) k.5 in
      h.4 ∙ (λ i. o.1 i ∷ r i) ∙ sym k.4

-- the events of a prefix of the octets sent are a prefix of the events
events_front : (running : List RunningCommand) (front back : List SentOctets) (events : List SlotEvent) → AreEvents running (front ++ back) events → (first : List SlotEvent) × (rest : List SlotEvent) × AreEvents running front first × (events ≡ first ++ rest)
events_front running [] back events h = ([], events, refl, refl)
events_front running (s ∷ front) back events h =
    let r = events_front h.0 front back h.2 h.5 in
    (h.1 ∷ r.0, r.1, (h.0, h.1, r.0, h.3, refl, r.2), h.4 ∙ ap (λ (es : List SlotEvent). h.1 ∷ es) r.3)

pub transcript_front : (front back : List SentOctets) → IsExplainedTranscript (front ++ back) → IsExplainedTranscript front
transcript_front front back h =
    let r = events_front [] front back h.0 h.1 in
    (r.0, r.2, explained_front r.0 r.1 (subst IsExplained r.3 h.2))
