use Rattle.std.proofs.Common.{◌≡◌, ◌⊎◌, inl, inr, ℕ, Bool, true, false, List, [], ◌++◌, Option, Some, Result, Ok, refl, sym, ap, ◌∙◌, subst, append-nil}
use Rattle.std.specs.List.{flat_map}
use Rattle.imap_answers.specs.AnswerText.{text_of_answer}
use Rattle.imap_answers.specs.declared.answer.Answer.{Answer}
use Rattle.imap_answers.specs.declared.answer.Answer.TheVariants as answers
use Rattle.imap_answers.specs.declared.codes.Notice.TheVariants.{Closed}
use Rattle.imap_answers.specs.declared.fixed_words.Refusal.{Refusal}
use Rattle.imap_syntax.specs.declared.command.Tagged.{Tagged}
use Rattle.crdt_ops.specs.declared.op.Op.{Op}
use Rattle.session_view.specs.declared.reply_replay.SilentFlags.{SilentFlags}
use Rattle.imap_node.specs.declared.reply.Reply.{Reply}
use Rattle.imap_node.specs.declared.reply.Reply.TheVariants as replies
use Rattle.imap_connection.specs.PortCalls as asked
use Rattle.imap_connection.specs.PortCalls.{PortCall}
use Rattle.imap_connection.specs.Replies.{refused_answers}
use Rattle.imap_connection.specs.Requests.{texts}
use Rattle.imap_connection.specs.declared.end_reason.Ended.{Ended}
use Rattle.imap_connection.specs.declared.fault.PortFault.{PortFault}
use Rattle.rev1_front.specs.ClientFrames.{IsCommandFrame}
use Rattle.rev1_front.specs.SentDays.{sent_days}
use Rattle.rev1_front.specs.declared.form.Form.TheVariants as forms
use Rattle.rev1_front.specs.declared.session.Mode.{Mode}
use Rattle.rev1_front.specs.declared.taken.Taken.{Taken}
use Rattle.rev1_connection.specs.FrontRequests.{request_of}
use Rattle.rev1_connection.specs.Handling.{EndsBy, FailsCall, FailsCommand, FailsDays, FailsRename, FailsRequest, FailsSearch, FollowsRefusal, FollowsSearch, HandlesCall, HandlesRename, HandlesRequest, IsUnasked, StopsBy, awake, is_of_no_message, noop_of}
use Rattle.rev1_connection.specs.ShownReplies.{news_text}
use Rattle.rev1_connection.specs.TakingSteps.{Takes, closed_line}
use Rattle.rev1_connection.specs.declared.manner.Manner.TheVariants as manners
use Rattle.rev1_connection.specs.declared.rename_port.RenameEnd.{RenameEnd}
use Rattle.rev1_connection.specs.declared.rename_port.RenameEnd.TheVariants as ends
use Rattle.rev1_connection.specs.declared.reply_writer.UnshownReply.{UnshownReply}
use Rattle.rev1_connection.specs.declared.request.FrontRequest.{FrontRequest}
use Rattle.rev1_connection.specs.declared.request.FrontRequest.TheVariants as requests
use Rattle.rev1_connection.specs.declared.request.Renaming.{Renaming}
use Rattle.rev1_connection.specs.declared.session.FrontSession.{FrontSession}
use Rattle.rev1_connection.proofs.HandlingLemmas.{ends_map, takes_map}

-- the answers to a refused command
pub refused_text : (tag : List ℕ) (why : Refusal) (closed : Bool) → texts (refused_answers tag why closed) ≡ closed_line closed ++ text_of_answer (answers.Refused tag why)
refused_text tag why true = ap (λ t. text_of_answer (answers.UntaggedOk Closed) ++ t) (append-nil (text_of_answer (answers.Refused tag why)))
refused_text tag why false = append-nil (text_of_answer (answers.Refused tag why))

module _ {S : Type 0} (steps : S → PortCall → Result Reply PortFault → S → Type 0) (renames : S → List ℕ → List ℕ → Result RenameEnd PortFault → S → Type 0) where
  -- a request that doesn't ask for days
  pub request_handled : (old : S) (mode : Mode) (frame : List ℕ) (request : FrontRequest) → ((fetch : Tagged) → request ≡ requests.Days fetch → ⊥)
      → (whole : Bool) (text : List ℕ) (new : S) (session : FrontSession) (out : Bool) → HandlesCall steps renames old mode request whole text new session out → HandlesRequest steps renames old mode frame request whole text new session out
  request_handled old mode frame (requests.Immediate it) n whole text new session out h = h
  request_handled old mode frame (requests.Challenge tag) n whole text new session out h = h
  request_handled old mode frame (requests.Command tagged manner) n whole text new session out h = h
  request_handled old mode frame (requests.Line tag line) n whole text new session out h = h
  request_handled old mode frame (requests.Rename renaming) n whole text new session out h = h
  request_handled old mode frame (requests.Days fetch) n whole text new session out h = absurd (n fetch refl)

  pub request_failed : (old : S) (mode : Mode) (frame : List ℕ) (request : FrontRequest) → ((fetch : Tagged) → request ≡ requests.Days fetch → ⊥)
      → (ended : Ended) (text : List ℕ) (new : S) → FailsCall steps renames old request ended text new → FailsRequest steps renames old mode frame request ended text new
  request_failed old mode frame (requests.Immediate it) n ended text new h = h
  request_failed old mode frame (requests.Challenge tag) n ended text new h = h
  request_failed old mode frame (requests.Command tagged manner) n ended text new h = h
  request_failed old mode frame (requests.Line tag line) n ended text new h = h
  request_failed old mode frame (requests.Rename renaming) n ended text new h = h
  request_failed old mode frame (requests.Days fetch) n ended text new h = absurd (n fetch refl)

  -- memory ran out, or there is no reply, after a RENAME that ended so
  pub rename_stops : (old mid new : S) (mode : Mode) (renaming : Renaming) (end : RenameEnd) (ended : Ended) → renames old renaming.from renaming.to (Ok end) mid
      → IsUnasked mid ended [] new ⊎ ((end ≡ ends.Renamed) × FailsCommand steps mid (noop_of renaming.tag) ended [] new)
      → StopsBy (HandlesRename steps renames old mode renaming) (FailsRename steps renames old renaming) old ended [] new
  rename_stops old mid new mode renaming ends.NoSecondSession ended r (inl unasked) =
      inr (inr (inr (inl (awake mode, false, inl unasked.0, (ends.NoSecondSession, mid, r, (refl, unasked.2, refl, refl))))))
  rename_stops old mid new mode renaming (ends.Refused why) ended r (inl unasked) =
      inr (inr (inr (inl (awake mode, false, inl unasked.0, (ends.Refused why, mid, r, (refl, unasked.2, refl, refl))))))
  rename_stops old mid new mode renaming ends.Renamed ended r (inl unasked) = inr (inr (inr (inr (inr (mid, r, inl unasked)))))
  rename_stops old mid new mode renaming end ended r (inr failed) =
      inr (inr (inr (inr (inr (mid, subst (λ (e : RenameEnd). renames old renaming.from renaming.to (Ok e) mid) failed.0 r, inr failed.1)))))

  -- the search after its news
  pub search_ends : (old new : S) (mode : Mode) (frame : List ℕ) (given : List Answer) (it : Taken) (ended : Ended) (text : List ℕ) → IsCommandFrame mode (Some (sent_days given)) frame it
      → StopsBy (HandlesCall steps renames old mode (request_of it)) (FailsCall steps renames old (request_of it)) old ended text new
      → EndsBy (FollowsSearch steps renames old mode frame given) (FailsSearch steps renames old mode frame given) ended (flat_map news_text given ++ text) new
  search_ends old new mode frame given it ended text f (inl unasked) =
      inr (inr (inr (inl (unasked.0, unasked.2, (given, ([], sym (append-nil given)), ap (λ t. flat_map news_text given ++ t) unasked.1 ∙ append-nil (flat_map news_text given))))))
  search_ends old new mode frame given it ended text f (inr h) =
      ends_map (HandlesCall steps renames old mode (request_of it)) (FollowsSearch steps renames old mode frame given) (FailsCall steps renames old (request_of it)) (FailsSearch steps renames old mode frame given) ended text (flat_map news_text given ++ text) new
      (λ whole session out k. (it, text, f, k, refl))
      (λ k. inr (it, text, f, k, refl))
      h

  -- what follows the reply to the FETCH of a search by days
  pub days_followed : (old mid : S) (mode : Mode) (frame : List ℕ) (fetch : Tagged) (reply : Reply) (given : List Answer) (silent : List SilentFlags) (issued : List Op) (u : Option UnshownReply) (text longer : List ℕ) (new : S) (session : FrontSession)
      → steps old (asked.Command fetch) (Ok reply) mid → reply ≡ replies.Done given silent issued
      → Takes (FollowsSearch steps renames mid mode frame given) u text new session longer → Takes (HandlesRequest steps renames old mode frame (requests.Days fetch)) u text new session longer
  days_followed old mid mode frame fetch reply given silent issued u text longer new session s e t =
      let s' = subst (λ (r : Reply). steps old (asked.Command fetch) (Ok r) mid) e s in
      takes_map (FollowsSearch steps renames mid mode frame given) (HandlesRequest steps renames old mode frame (requests.Days fetch)) u text longer new session (λ whole more out k. (replies.Done given silent issued, mid, s', k)) t

  pub days_ended : (old mid : S) (mode : Mode) (frame : List ℕ) (fetch : Tagged) (reply : Reply) (given : List Answer) (silent : List SilentFlags) (issued : List Op) (ended : Ended) (text : List ℕ) (new : S)
      → steps old (asked.Command fetch) (Ok reply) mid → reply ≡ replies.Done given silent issued
      → EndsBy (FollowsSearch steps renames mid mode frame given) (FailsSearch steps renames mid mode frame given) ended text new
      → StopsBy (HandlesRequest steps renames old mode frame (requests.Days fetch)) (FailsDays steps renames old mode frame fetch) old ended text new
  days_ended old mid mode frame fetch reply given silent issued ended text new s e h =
      let s' = subst (λ (r : Reply). steps old (asked.Command fetch) (Ok r) mid) e s in
      inr (ends_map (FollowsSearch steps renames mid mode frame given) (HandlesRequest steps renames old mode frame (requests.Days fetch)) (FailsSearch steps renames mid mode frame given) (FailsDays steps renames old mode frame fetch) ended text text new
      (λ whole session out k. (replies.Done given silent issued, mid, s', k))
      (λ k. inr (replies.Done given silent issued, mid, s', refl, k))
      h)

  -- the same if there is no message
  pub none_followed : (old mid : S) (mode : Mode) (frame : List ℕ) (fetch : Tagged) (reply : Reply) (why : Refusal) (closed : Bool) (u : Option UnshownReply) (text longer : List ℕ) (new : S) (session : FrontSession)
      → steps old (asked.Command fetch) (Ok reply) mid → reply ≡ replies.Refused why closed → is_of_no_message why closed ≡ true
      → Takes (FollowsSearch steps renames mid mode frame []) u text new session longer → Takes (HandlesRequest steps renames old mode frame (requests.Days fetch)) u text new session longer
  none_followed old mid mode frame fetch reply why closed u text longer new session s e y t =
      let s' = subst (λ (r : Reply). steps old (asked.Command fetch) (Ok r) mid) e s in
      takes_map (FollowsSearch steps renames mid mode frame []) (HandlesRequest steps renames old mode frame (requests.Days fetch)) u text longer new session
      (λ whole more out k. (replies.Refused why closed, mid, s', subst (λ (b : Bool). FollowsRefusal steps renames b mid mode frame fetch.tag why closed whole more new session out) (sym y) k)) t

  pub none_ended : (old mid : S) (mode : Mode) (frame : List ℕ) (fetch : Tagged) (reply : Reply) (why : Refusal) (closed : Bool) (ended : Ended) (text : List ℕ) (new : S)
      → steps old (asked.Command fetch) (Ok reply) mid → reply ≡ replies.Refused why closed → is_of_no_message why closed ≡ true
      → EndsBy (FollowsSearch steps renames mid mode frame []) (FailsSearch steps renames mid mode frame []) ended text new
      → StopsBy (HandlesRequest steps renames old mode frame (requests.Days fetch)) (FailsDays steps renames old mode frame fetch) old ended text new
  none_ended old mid mode frame fetch reply why closed ended text new s e y h =
      let s' = subst (λ (r : Reply). steps old (asked.Command fetch) (Ok r) mid) e s in
      inr (ends_map (FollowsSearch steps renames mid mode frame []) (HandlesRequest steps renames old mode frame (requests.Days fetch)) (FailsSearch steps renames mid mode frame []) (FailsDays steps renames old mode frame fetch) ended text text new
      (λ whole session out k. (replies.Refused why closed, mid, s', subst (λ (b : Bool). FollowsRefusal steps renames b mid mode frame fetch.tag why closed whole text new session out) (sym y) k))
      (λ k. inr (replies.Refused why closed, mid, s', y, k))
      h)

  -- another refusal is the search's own
  pub refusal_followed : (old mid : S) (mode : Mode) (frame : List ℕ) (fetch : Tagged) (reply : Reply) (why : Refusal) (closed : Bool) (unshown : UnshownReply) (text longer : List ℕ) (session : FrontSession)
      → steps old (asked.Command fetch) (Ok reply) mid → reply ≡ replies.Refused why closed → is_of_no_message why closed ≡ false
      → unshown ≡ record { tag = fetch.tag; reply = replies.Refused why closed; mode = mode; manner = manners.Form forms.Plain; leaves = false } → session ≡ awake mode → longer ≡ text
      → Takes (HandlesRequest steps renames old mode frame (requests.Days fetch)) (Some unshown) text mid session longer
  refusal_followed old mid mode frame fetch reply why closed unshown text longer session s e n u a l =
      let s' = subst (λ (r : Reply). steps old (asked.Command fetch) (Ok r) mid) e s in
      subst (λ (it : UnshownReply). Takes (HandlesRequest steps renames old mode frame (requests.Days fetch)) (Some it) text mid session longer) (sym u)
      ([], l ∙ sym (append-nil text), λ whole given shown. (replies.Refused why closed, mid, s', subst (λ (b : Bool). FollowsRefusal steps renames b mid mode frame fetch.tag why closed whole given mid session false) (sym n) (shown, refl, a, refl)))
