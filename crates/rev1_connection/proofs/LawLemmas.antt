use Rattle.std.proofs.Common.{◌≡◌, ◌⊎◌, inl, inr, ℕ, Bool, true, List, None, Result, subst}
use Rattle.std.specs.List.{flat_map}
use Rattle.imap_answers.specs.AnswerText.{text_of_answer}
use Rattle.imap_answers.specs.declared.answer.Answer.{Answer}
use Rattle.imap_answers.specs.declared.answer.Answer.TheVariants as answers
use Rattle.imap_answers.specs.declared.fixed_words.Refusal.TheVariants as refusals
use Rattle.imap_lex.specs.declared.item.Item.TheVariants.{Frame}
use Rattle.imap_syntax.specs.Commands.{IsSpelled}
use Rattle.imap_syntax.specs.declared.command.Tagged.{Tagged}
use Rattle.imap_node.specs.declared.reply.Reply.{Reply}
use Rattle.imap_node.specs.declared.reply.Reply.TheVariants as replies
use Rattle.imap_connection.specs.PortCalls.{PortCall}
use Rattle.imap_connection.specs.Replies.{answers_of}
use Rattle.imap_connection.specs.Requests.{texts}
use Rattle.imap_connection.specs.declared.fault.PortFault.{PortFault}
use Rattle.rev1_front.specs.ClientFrames.{IsCommandFrame}
use Rattle.rev1_front.specs.Showing.{AreShown}
use Rattle.rev1_front.specs.declared.form.Form.TheVariants.{Plain}
use Rattle.rev1_front.specs.declared.session.Mode.TheVariants.{Rev2}
use Rattle.rev1_front.specs.declared.taken.Taken.{Taken}
use Rattle.rev1_front.specs.declared.taken.Taken.TheVariants as taken
use Rattle.rev1_connection.specs.FrontRequests.{IsTakenRequest}
use Rattle.rev1_connection.specs.Handling.{HandlesItem, HandlesRequest, IsCarriedOut, awake}
use Rattle.rev1_connection.specs.ShownReplies.{IsReplyShown}
use Rattle.rev1_connection.specs.declared.manner.Manner.TheVariants as manners
use Rattle.rev1_connection.specs.declared.rename_port.RenameEnd.{RenameEnd}
use Rattle.rev1_connection.specs.declared.request.FrontRequest.{FrontRequest}
use Rattle.rev1_connection.specs.declared.request.FrontRequest.TheVariants as requests
use Rattle.rev1_connection.specs.declared.session.FrontSession.{FrontSession}

-- What the front says of frames and answers in the mode of IMAP4rev2.
abbrev TakesProfile : Type 0
TakesProfile = (frame : List ℕ) (tagged : Tagged) (it : Taken) → IsSpelled tagged frame → IsCommandFrame Rev2 None frame it
    → (it ≡ taken.Command tagged Plain) ⊎ ((tag : List ℕ) × (it ≡ taken.Answer (answers.Refused tag refusals.NoMemory)))

abbrev ShowsProfile : Type 0
ShowsProfile = (given : List Answer) (text : List ℕ) → AreShown Rev2 Plain given given text → text ≡ flat_map text_of_answer given

-- a reply is shown as it is
shown_plain : ShowsProfile → (tag : List ℕ) (reply : Reply) (text : List ℕ) → IsReplyShown true Rev2 (manners.Form Plain) tag reply text → text ≡ texts (answers_of tag reply)
shown_plain shows tag (replies.Done given silent issued) text h = shows given text h
shown_plain shows tag (replies.Refused why closed) text h = h

module _ {S : Type 0} (steps : S → PortCall → Result Reply PortFault → S → Type 0) (renames : S → List ℕ → List ℕ → Result RenameEnd PortFault → S → Type 0) where
  -- a frame that spells a command of the profile is carried out
  pub untouched : TakesProfile → ShowsProfile → (old new : S) (frame text : List ℕ) (tagged : Tagged) (after : FrontSession) (out : Bool) → IsSpelled tagged frame → HandlesItem steps renames old (awake Rev2) (Frame frame) true text new after out
      → IsCarriedOut steps old Rev2 tagged text new after out ⊎ ((tag : List ℕ) × (text ≡ text_of_answer (answers.Refused tag refusals.NoMemory)) × (new ≡ old))
  untouched takes shows old new frame text tagged after out s h =
      elim (takes frame tagged h.1.0 s h.1.1) [
        | inl e ↦ (
            let is : h.0 ≡ requests.Command tagged (manners.Form Plain) = subst (λ (it : Taken). IsTakenRequest frame it h.0) e h.1.2 in
            let k : HandlesRequest steps renames old Rev2 frame (requests.Command tagged (manners.Form Plain)) true text new after out = subst (λ (r : FrontRequest). HandlesRequest steps renames old Rev2 frame r true text new after out) is h.2 in
            inl (k.0, k.1, shown_plain shows tagged.tag k.0 text k.2, k.3, k.4)
            )
        | inr e ↦ (
            let is : h.0 ≡ requests.Immediate (taken.Answer (answers.Refused e.0 refusals.NoMemory)) = subst (λ (it : Taken). IsTakenRequest frame it h.0) e.1 h.1.2 in
            let k : HandlesRequest steps renames old Rev2 frame (requests.Immediate (taken.Answer (answers.Refused e.0 refusals.NoMemory))) true text new after out =
            subst (λ (r : FrontRequest). HandlesRequest steps renames old Rev2 frame r true text new after out) is h.2 in
            inr (e.0, k.0, k.1)
            )
      ]
