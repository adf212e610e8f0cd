use Rattle.std.proofs.Common.{◌≡◌, inl, inr, ℕ, Bool, true, false, List, [], ◌∷◌, ◌++◌, take, drop, Option, Some, None, Result, Ok, Err, IsErr, IsOk, OnOk, refl, sym, ap, ◌∙◌, subst, append_assoc, append-nil}
use Rattle.std.specs.Prelude.{IfErr, is_ok}
use Rattle.std.proofs.lemmas.Bool.{false≢true}
use Rattle.std.proofs.lemmas.List.{take-append-drop}
use Rattle.imap_answers.specs.declared.answer.Answer.{Answer}
use Rattle.imap_lex.specs.Framing.{Cut, FaultsNow, IsPrefix, FrameProgress, cut_from, start, with_items}
use Rattle.imap_lex.specs.declared.fault.FrameFaultKind.{FrameFaultKind}
use Rattle.imap_lex.specs.declared.fault.FrameFaultKind.TheVariants.{LineTooLong, LiteralTooLong, NulByte, NoMemory as Memory, Failed}
use Rattle.imap_lex.specs.declared.item.Item.{Item}
use Rattle.imap_lex.specs.declared.limits.Limits.{Limits}
use Rattle.imap_lex.proofs.CutLemmas.{cut_of-append}
use Rattle.imap_syntax.specs.declared.idle.IdleLine.{IdleLine}
use Rattle.imap_node.specs.declared.reply.Reply.{Reply}
use Rattle.imap_syntax.specs.declared.command.Tagged.{Tagged}
use Rattle.imap_connection.specs.Conversation.{IsPrefixOf}
use Rattle.imap_connection.specs.RequestSteps.{IsRequest}
use Rattle.imap_connection.specs.Replies.{is_out_of_memory}
use Rattle.imap_connection.specs.declared.request.Request.{Request}
use Rattle.imap_connection.specs.declared.request.Request.TheVariants.{Immediate, Line}
use Rattle.imap_connection.proofs.TalkLemmas.{items_before_fault}
use Rattle.imap_connection.proofs.TurnLemmas.{prefix_append}
use Rattle.imap_connection.specs.PortCalls.{PortCall}
use Rattle.imap_connection.specs.Devices.{GivesOctets, IsOutput, TakesOctets, TakesAllOrPart}
use Rattle.imap_connection.specs.PortCalls as asked
use Rattle.imap_connection.specs.EndReasons.{IsLastOutput, end_reason_of, failed_writes}
use Rattle.imap_connection.specs.Requests.{AnswersItem, FailsRequest, HandlesRequest, StopsAt, call_of, texts}
use Rattle.imap_connection.specs.Conversations.{EndsAtItem, Converses, EndsOverOctets, HasAnswered, HasAnsweredSome, HasTaken, EndsOverCut, IsCut, IsWritten, EndsOverItems, LacksAnswers}
use Rattle.imap_connection.specs.declared.end_reason.Ended.{Ended}
use Rattle.imap_connection.specs.declared.end_reason.Ended.TheVariants.{Logout, PeerClosed, TooManySessions, Framing, NoMemory, ReadFailed, Torn, WriteFailed, ServerEnded}
use Rattle.imap_connection.specs.declared.fault.PortFault.{PortFault}
use Rattle.imap_connection.specs.declared.fault.PortFault.TheVariants as faults

-- ---- text that was taken or is buffered

pub took-append : (a b c : Option (List ℕ)) (x y : List ℕ) → TakesOctets a x b → TakesOctets b y c → TakesOctets a (x ++ y) c
took-append None b c x y h k = tt
took-append (Some old) b c x y h k =
    let k' : TakesOctets (Some (old ++ x)) y c = subst (λ (o : Option (List ℕ)). TakesOctets o y c) h k in
    k' ∙ ap Some (append_assoc old x y)

pub output_empty : (k : Option (List ℕ)) (held : List ℕ) → IsOutput k held [] k held
output_empty None held = tt
output_empty (Some old) held = ([], ap Some (sym (append-nil old)), append-nil held)

pub output_held : (k : Option (List ℕ)) (held output left : List ℕ) → left ≡ held ++ output → IsOutput k held output k left
output_held None held output left e = tt
output_held (Some old) held output left e = ([], ap Some (sym (append-nil old)), sym e)

pub output-append : (k l m : Option (List ℕ)) (held output mid more left : List ℕ) → IsOutput k held output l mid → IsOutput l mid more m left → IsOutput k held (output ++ more) m left
output-append None l m held output mid more left h g = tt
output-append (Some old) l m held output mid more left h g =
    let g' : IsOutput (Some (old ++ h.0)) mid more m left = subst (λ (o : Option (List ℕ)). IsOutput o mid more m left) h.1 g in (
      h.0 ++ g'.0,
      g'.1 ∙ ap Some (append_assoc old h.0 g'.0),
      sym (append_assoc held output more) ∙ ap (λ t. t ++ more) h.2 ∙ append_assoc h.0 mid more ∙ ap (λ t. h.0 ++ t) g'.2 ∙ sym (append_assoc h.0 g'.0 left),
    )

-- an initial part of the text was taken, and the rest is lost
pub output_part : (k l m : Option (List ℕ)) (held output mid more : List ℕ) → IsOutput k held output l mid → TakesAllOrPart false l (mid ++ more) m → TakesAllOrPart false k (held ++ (output ++ more)) m
output_part None l m held output mid more h g = ([], held ++ (output ++ more), refl, tt)
output_part (Some old) l m held output mid more h g =
    let t : TakesOctets (Some (old ++ h.0)) g.0 m = subst (λ (o : Option (List ℕ)). TakesOctets o g.0 m) h.1 g.3 in (
      h.0 ++ g.0,
      g.1,
      sym (append_assoc held output more) ∙ ap (λ t. t ++ more) h.2 ∙ append_assoc h.0 mid more ∙ ap (λ t. h.0 ++ t) g.2 ∙ sym (append_assoc h.0 g.0 g.1),
      t ∙ ap Some (append_assoc old h.0 g.0),
    )

-- no further text, and some was taken
pub output_then_written : (k l m : Option (List ℕ)) (held output mid left : List ℕ) → IsOutput k held output l mid → IsOutput l mid [] m left → IsOutput k held output m left
output_then_written k l m held output mid left h g = subst (λ (t : List ℕ). IsOutput k held t m left) (append-nil output) (output-append k l m held output mid [] left h g)

pub takes_part_of_output : (k l m : Option (List ℕ)) (held output mid : List ℕ) → IsOutput k held output l mid → TakesAllOrPart false l mid m → TakesAllOrPart false k (held ++ output) m
takes_part_of_output k l m held output mid h g =
    subst (λ (t : List ℕ). TakesAllOrPart false k (held ++ t) m) (append-nil output) (output_part k l m held output mid [] h (subst (λ (t : List ℕ). TakesAllOrPart false l t m) (sym (append-nil mid)) g))

-- all the text was taken
pub output_taken : (k l m : Option (List ℕ)) (held output mid more : List ℕ) → IsOutput k held output l mid → TakesOctets l (mid ++ more) m → TakesOctets k (held ++ (output ++ more)) m
output_taken None l m held output mid more h g = tt
output_taken (Some old) l m held output mid more h g =
    let t : TakesOctets (Some (old ++ h.0)) (mid ++ more) m = subst (λ (o : Option (List ℕ)). TakesOctets o (mid ++ more) m) h.1 g in
    let e : held ++ (output ++ more) ≡ h.0 ++ (mid ++ more) = sym (append_assoc held output more) ∙ ap (λ x. x ++ more) h.2 ∙ append_assoc h.0 mid more in
    t ∙ ap Some (append_assoc old h.0 (mid ++ more) ∙ ap (λ x. old ++ x) (sym e))

pub takes_part_append : (a b : Option (List ℕ)) (x y : List ℕ) → TakesAllOrPart false a x b → TakesAllOrPart false a (x ++ y) b
takes_part_append a b x y h = (h.0, h.1 ++ y, ap (λ t. t ++ y) h.2 ∙ append_assoc h.0 h.1 y, h.3)

pub not_failed : (ended : Ended) → failed_writes ended ≡ 0 → (ended ≡ WriteFailed) → ⊥
not_failed ended f e = let k : failed_writes WriteFailed ≡ 0 = subst (λ (x : Ended). failed_writes x ≡ 0) e f in cc

pub none_failed : (ended : Ended) → ((ended ≡ WriteFailed) → ⊥) → failed_writes ended ≡ 0
none_failed Logout n = refl
none_failed PeerClosed n = refl
none_failed TooManySessions n = refl
none_failed (Framing why) n = refl
none_failed ReadFailed n = refl
none_failed WriteFailed n = absurd (n refl)
none_failed NoMemory n = refl
none_failed Torn n = refl
none_failed ServerEnded n = refl

pub port_writes : (fault : PortFault) → failed_writes (end_reason_of fault) ≡ 0
port_writes faults.TooManySessions = refl
port_writes faults.NoMemory = refl
port_writes faults.NoRoom = refl
port_writes faults.Torn = refl
port_writes faults.PassedOver = refl
port_writes faults.ServerEnded = refl

-- the text that was buffered at first is a part of the whole
output_after_held : (k l : Option (List ℕ)) (held output left : List ℕ) → IsOutput k held output l left → IsOutput k [] (held ++ output) l left
output_after_held None l held output left h = tt
output_after_held (Some old) l held output left h = h

pub last_output_append : (ended : Ended) (k l : Option (List ℕ)) (held first output left : List ℕ) → held ≡ first → IsLastOutput ended k held output l left → IsLastOutput ended k [] (first ++ output) l left
last_output_append ended k l held first output left e h =
    let P : List ℕ → Type 0 = λ t. IsLastOutput ended k [] (t ++ output) l left in
    subst P e (elim h [ inl f ↦ inl f | inr s ↦ inr (s.0, output_after_held k l held output left s.1) ])

-- the text until the end, and the BYE
pub all_written : (ended result : Ended) (k l m : Option (List ℕ)) (output left bye : List ℕ) → IsLastOutput ended k [] output l left
    → (failed_writes ended ≡ 0 → IsWritten ended (left ++ bye) result l m) → ((ended ≡ WriteFailed) → (result ≡ WriteFailed) × (m ≡ l))
    → IsWritten ended (output ++ bye) result k m
all_written ended result k l m output left bye h w f =
    elim h [
      | inl lost ↦ (
          let r = f lost.0 in
          inr (r.0, subst (λ (o : Option (List ℕ)). TakesAllOrPart false k (output ++ bye) o) (sym r.1) (takes_part_append k l output bye lost.1))
          )
      | inr all ↦ elim (w (none_failed ended all.0)) [
        | inl done ↦ inl (done.0, output_taken k l m [] output left bye all.1 done.1)
        | inr lost ↦ inr (lost.0, output_part k l m [] output left bye all.1 lost.1)
      ]
    ]

-- the text before, and the text until the end
pub last_output_after : (ended : Ended) (k l m : Option (List ℕ)) (held output mid more left : List ℕ) → IsOutput k held output l mid → IsLastOutput ended l mid more m left → IsLastOutput ended k held (output ++ more) m left
last_output_after ended k l m held output mid more left h g =
    elim g [
      | inl f ↦ inl (f.0, output_part k l m held output mid more h f.1)
      | inr s ↦ inr (s.0, output-append k l m held output mid more left h s.1)
    ]

-- ---- the octets read

gave-append : (a b c : Option (List ℕ)) (x y : List ℕ) → GivesOctets a x b → GivesOctets b y c → GivesOctets a (x ++ y) c
gave-append None b c x y h k = tt
gave-append (Some old) b c x y h k =
    let k' : GivesOctets (Some h.0) y c = subst (λ (o : Option (List ℕ)). GivesOctets o y c) h.1 k in
    (k'.0, k'.1, h.2 ∙ (ap (λ t. x ++ t) k'.2 ∙ sym (append_assoc x y k'.0)))

pub gave-nil : (a : Option (List ℕ)) → GivesOctets a [] a
gave-nil None = tt
gave-nil (Some old) = (old, refl, refl)

-- ---- answered items

pub prefix_trans : (front items all : List Item) → IsPrefix front items → IsPrefix items all → IsPrefix front all
prefix_trans front items all f g = (f.0 ++ g.0, g.1 ∙ ap (λ t. t ++ g.0) f.1 ∙ append_assoc front f.0 g.0)

module _ {S : Type 0} (steps : S → PortCall → Result Reply PortFault → S → Type 0) where
  pub converses-append : (old : S) (idling : Option (List ℕ)) (items more : List Item) (output : List ℕ) (mid : S) (between : Option (List ℕ)) (rest : List ℕ) (new : S) (after : Option (List ℕ))
      → Converses steps old idling items output mid between → Converses steps mid between more rest new after → Converses steps old idling (items ++ more) (output ++ rest) new after
  converses-append old idling [] more output mid between rest new after c d =
      let P : S → Option (List ℕ) → List ℕ → Type 0 = λ s i t. Converses steps s i more (t ++ rest) new after in
      subst (λ (t : List ℕ). P old idling t) (sym c.0) (subst (λ (i : Option (List ℕ)). Converses steps old i more rest new after) c.2 (subst (λ (s : S). Converses steps s between more rest new after) c.1 d))
  converses-append old idling (item ∷ items) more output mid between rest new after c d = (
    c.0,
    c.1,
    c.2,
    c.3 ++ rest,
    c.4,
    ap (λ t. t ++ rest) c.5 ∙ append_assoc (texts c.0) c.3 rest,
    converses-append c.1 c.2 items more c.3 mid between rest new after c.6 d,
  )

  answered_append : (old : S) (idling : Option (List ℕ)) (items more : List Item) (output : List ℕ) (mid : S) (between : Option (List ℕ)) (rest : List ℕ) (new : S)
      → Converses steps old idling items output mid between → HasAnswered steps mid between more rest new → HasAnswered steps old idling (items ++ more) (output ++ rest) new
  answered_append old idling items more output mid between rest new c g =
      record { after = g.after; answered = converses-append old idling items more output mid between rest new g.after c g.answered }

  answered_some_append : (old : S) (idling : Option (List ℕ)) (items more : List Item) (output : List ℕ) (mid : S) (between : Option (List ℕ)) (rest : List ℕ) (new : S)
      → Converses steps old idling items output mid between → HasAnsweredSome steps mid between more rest new → HasAnsweredSome steps old idling (items ++ more) (output ++ rest) new
  answered_some_append old idling items more output mid between rest new c g =
      record {
        front = items ++ g.front;
        first = prefix_append items g.front more g.first;
        answered_front = answered_append old idling items g.front output mid between rest new c g.answered_front;
      }

  pub ends_at_item_append : (old : S) (idling : Option (List ℕ)) (items more : List Item) (ended : Ended) (output : List ℕ) (mid : S) (between : Option (List ℕ)) (rest : List ℕ) (new : S)
      → Converses steps old idling items output mid between → EndsAtItem steps mid between more ended rest new → EndsAtItem steps old idling (items ++ more) ended (output ++ rest) new
  ends_at_item_append old idling items more ended output mid between rest new c b =
      record {
        front = items ++ b.front;
        item = b.item;
        back = b.back;
        before = output ++ b.before;
        mid = b.mid;
        between = b.between;
        given = b.given;
        items_are = ap (λ t. items ++ t) b.items_are ∙ sym (append_assoc items b.front (b.item ∷ b.back));
        answered = converses-append old idling items b.front output mid between b.before b.mid b.between c b.answered;
        stops = b.stops;
        output_is = ap (λ t. output ++ t) b.output_is ∙ sym (append_assoc output b.before (texts b.given));
      }

  pub lacks_answers_append : (old : S) (idling : Option (List ℕ)) (items more : List Item) (output : List ℕ) (mid : S) (between : Option (List ℕ)) (rest : List ℕ) (new : S)
      → Converses steps old idling items output mid between → LacksAnswers steps mid between more rest new → LacksAnswers steps old idling (items ++ more) (output ++ rest) new
  lacks_answers_append old idling items more output mid between rest new c u =
      record {
        front = items ++ u.front;
        batch = u.batch;
        back = u.back;
        before = output ++ u.before;
        mid = u.mid;
        command = u.command;
        later = u.later;
        reply = u.reply;
        replies = u.replies;
        fault = u.fault;
        written = u.written;
        items_are = ap (λ t. items ++ t) u.items_are ∙ sym (append_assoc items u.front (u.batch ++ u.back));
        answered = converses-append old idling items u.front output mid between u.before u.mid None c u.answered;
        asked = u.asked;
        brief = u.brief;
        carried_out = u.carried_out;
        first_answers = u.first_answers;
        output_is = ap (λ t. output ++ t) u.output_is ∙ sym (append_assoc output u.before (texts u.written));
      }

  pub ends_over_items_append : (old : S) (idling : Option (List ℕ)) (items more : List Item) (ended : Ended) (output : List ℕ) (mid : S) (between : Option (List ℕ)) (rest : List ℕ) (new : S)
      → Converses steps old idling items output mid between → EndsOverItems steps mid between more ended rest new → EndsOverItems steps old idling (items ++ more) ended (output ++ rest) new
  ends_over_items_append old idling items more ended output mid between rest new c h =
      elim h [
        | inl f ↦ inl (f.0, answered_some_append old idling items more output mid between rest new c f.1)
        | inr other ↦ elim other [
          | inl b ↦ inr (inl (ends_at_item_append old idling items more ended output mid between rest new c b))
          | inr u ↦ inr (inr (u.0, lacks_answers_append old idling items more output mid between rest new c u.1))
        ]
      ]

  answered_some_first : (old : S) (idling : Option (List ℕ)) (items all : List Item) (output : List ℕ) (new : S) → IsPrefix items all → HasAnsweredSome steps old idling items output new → HasAnsweredSome steps old idling all output new
  answered_some_first old idling items all output new f g = record { front = g.front; first = prefix_trans g.front items all g.first f; answered_front = g.answered_front }

  breaks_first : (old : S) (idling : Option (List ℕ)) (items all : List Item) (ended : Ended) (output : List ℕ) (new : S) → IsPrefix items all → EndsAtItem steps old idling items ended output new → EndsAtItem steps old idling all ended output new
  breaks_first old idling items all ended output new f b =
      record {
        front = b.front;
        item = b.item;
        back = b.back ++ f.0;
        before = b.before;
        mid = b.mid;
        between = b.between;
        given = b.given;
        items_are = f.1 ∙ ap (λ t. t ++ f.0) b.items_are ∙ append_assoc b.front (b.item ∷ b.back) f.0;
        answered = b.answered;
        stops = b.stops;
        output_is = b.output_is;
      }

  lacks_answers_first : (old : S) (idling : Option (List ℕ)) (items all : List Item) (output : List ℕ) (new : S) → IsPrefix items all → LacksAnswers steps old idling items output new → LacksAnswers steps old idling all output new
  lacks_answers_first old idling items all output new f u =
      record {
        front = u.front;
        batch = u.batch;
        back = u.back ++ f.0;
        before = u.before;
        mid = u.mid;
        command = u.command;
        later = u.later;
        reply = u.reply;
        replies = u.replies;
        fault = u.fault;
        written = u.written;
        items_are = f.1 ∙ ap (λ t. t ++ f.0) u.items_are ∙ append_assoc u.front (u.batch ++ u.back) f.0 ∙ ap (λ t. u.front ++ t) (append_assoc u.batch u.back f.0);
        answered = u.answered;
        asked = u.asked;
        brief = u.brief;
        carried_out = u.carried_out;
        first_answers = u.first_answers;
        output_is = u.output_is;
      }

  -- items after the one at which the conversation ended don't matter
  pub leaves_first : (old : S) (idling : Option (List ℕ)) (items all : List Item) (ended : Ended) (output : List ℕ) (new : S) → IsPrefix items all → EndsOverItems steps old idling items ended output new → EndsOverItems steps old idling all ended output new
  leaves_first old idling items all ended output new f h =
      elim h [
        | inl w ↦ inl (w.0, answered_some_first old idling items all output new f w.1)
        | inr other ↦ elim other [
          | inl b ↦ inr (inl (breaks_first old idling items all ended output new f b))
          | inr u ↦ inr (inr (u.0, lacks_answers_first old idling items all output new f u.1))
        ]
      ]

  -- a write failed after some of the items
  pub fails_at : (old : S) (idling : Option (List ℕ)) (items : List Item) (i : ℕ) (output : List ℕ) (new : S) (between : Option (List ℕ)) (waiting : List Tagged)
      → HasTaken steps old idling (take i items) output new between waiting → EndsOverItems steps old idling items WriteFailed output new
  fails_at old idling items i output new between waiting g =
      let first : IsPrefix (take i items) items = (drop i items, sym (take-append-drop i items)) in
      let before : IsPrefix g.front (take i items) = (g.back, g.items_are) in
      inl (refl, record { front = g.front; first = prefix_trans g.front (take i items) items before first; answered_front = record { after = between; answered = g.answered } })

  -- ---- pieces

  is_cut_append : (why : FrameFaultKind) (old : S) (idling : Option (List ℕ)) (items : List Item) (cut : Cut) (output : List ℕ) (mid : S) (between : Option (List ℕ)) (rest : List ℕ) (new : S)
      → Converses steps old idling items output mid between → IsCut steps mid between cut why rest new → IsCut steps old idling (with_items items cut) why (output ++ rest) new
  is_cut_append Memory old idling items cut output mid between rest new c h = answered_some_append old idling items cut.0 output mid between rest new c h
  is_cut_append LineTooLong old idling items cut output mid between rest new c h = (h.0, answered_append old idling items cut.0 output mid between rest new c h.1)
  is_cut_append LiteralTooLong old idling items cut output mid between rest new c h = (h.0, answered_append old idling items cut.0 output mid between rest new c h.1)
  is_cut_append NulByte old idling items cut output mid between rest new c h = (h.0, answered_append old idling items cut.0 output mid between rest new c h.1)
  is_cut_append Failed old idling items cut output mid between rest new c h = absurd h

  ends_over_cut_append : (old : S) (idling : Option (List ℕ)) (items : List Item) (cut : Cut) (ended : Ended) (output : List ℕ) (mid : S) (between : Option (List ℕ)) (rest : List ℕ) (new : S)
      → Converses steps old idling items output mid between → EndsOverCut steps mid between cut ended rest new → EndsOverCut steps old idling (with_items items cut) ended (output ++ rest) new
  ends_over_cut_append old idling items cut ended output mid between rest new c h =
      elim h [
        | inl f ↦ inl (f.0, f.1, is_cut_append f.0 old idling items cut output mid between rest new c f.2)
        | inr l ↦ inr (ends_over_items_append old idling items cut.0 ended output mid between rest new c l)
      ]

  ok_or_err : (state : Result FrameProgress FrameFaultKind) → IsOk state → IsErr state → ⊥
  ok_or_err (Ok p) o e = false≢true e
  ok_or_err (Err why) o e = false≢true o

  answered_cut : (old : S) (idling : Option (List ℕ)) (items : List Item) (cut : Cut) (output : List ℕ) (new : S) (after : Option (List ℕ)) → cut.0 ≡ items → Converses steps old idling items output new after → HasAnswered steps old idling cut.0 output new
  answered_cut old idling items cut output new after e c = record { after = after; answered = subst (λ (xs : List Item). Converses steps old idling xs output new after) (sym e) c }

  -- all items of a piece were taken, and the framer failed
  cut_at_end : (why : FrameFaultKind) (old : S) (idling : Option (List ℕ)) (items : List Item) (state now : Result FrameProgress FrameFaultKind) (cut : Cut) (output : List ℕ) (new : S) (after : Option (List ℕ))
      → IsOk state → FaultsNow why items state now cut → Converses steps old idling items output new after → IsCut steps old idling cut why output new
  cut_at_end Memory old idling items state now cut output new after o f c = record { front = items; first = f.2; answered_front = record { after = after; answered = c } }
  cut_at_end LineTooLong old idling items state now cut output new after o f c = (ap (λ (k : Cut). k.1) f.2, answered_cut old idling items cut output new after (ap (λ (k : Cut). k.0) f.2) c)
  cut_at_end LiteralTooLong old idling items state now cut output new after o f c = (ap (λ (k : Cut). k.1) f.2, answered_cut old idling items cut output new after (ap (λ (k : Cut). k.0) f.2) c)
  cut_at_end NulByte old idling items state now cut output new after o f c = (ap (λ (k : Cut). k.1) f.2, answered_cut old idling items cut output new after (ap (λ (k : Cut). k.0) f.2) c)
  cut_at_end Failed old idling items state now cut output new after o f c = absurd (ok_or_err state o f.0)

  pub halts_cut : (why : FrameFaultKind) (old : S) (idling : Option (List ℕ)) (items : List Item) (state now : Result FrameProgress FrameFaultKind) (cut : Cut) (output : List ℕ) (new : S) (after : Option (List ℕ))
      → IsOk state → FaultsNow why items state now cut → Converses steps old idling items output new after → EndsOverCut steps old idling cut (Framing why) output new
  halts_cut why old idling items state now cut output new after o f c = inl (why, refl, cut_at_end why old idling items state now cut output new after o f c)

  -- the conversation ended at an item of a piece whose octets can't be cut any further
  pub halts_before : (why : FrameFaultKind) (old : S) (idling : Option (List ℕ)) (items : List Item) (state now : Result FrameProgress FrameFaultKind) (cut : Cut) (ended : Ended) (output : List ℕ) (new : S)
      → FaultsNow why items state now cut → EndsOverItems steps old idling items ended output new → EndsOverCut steps old idling cut ended output new
  halts_before why old idling items state now cut ended output new f l = inr (leaves_first old idling items cut.0 ended output new (items_before_fault why items state now cut f) l)

  -- ---- all octets read

  -- The octets read so far, and the state of the conversation over them.
  pub record Underway (limits : Limits) (old : S) (left : Option (List ℕ)) (taken : Option (List ℕ)) (held : List ℕ) (new : S) (idling : Option (List ℕ)) (rest : Option (List ℕ)) (now : Option (List ℕ)) (text : List ℕ) (state : Result FrameProgress FrameFaultKind) : Type 0 where
    pub octets : List ℕ
    pub output : List ℕ
    pub gave : GivesOctets left octets rest
    pub state_is : state ≡ (cut_from limits (Ok start) octets).1
    pub framer_ok : IsOk state
    pub answered : Converses steps old None (cut_from limits (Ok start) octets).0 output new idling
    pub output_is : IsOutput taken held output now text

  -- The contract of the loop when it ends.
  abbrev pub HasEnded : Limits → S → Option (List ℕ) → Option (List ℕ) → List ℕ → Ended → Bool → S → Option (List ℕ) → Option (List ℕ) → List ℕ → Type 0
  HasEnded limits old left taken held ended at_end new rest now text =
      (octets : List ℕ) × (output : List ℕ) × GivesOctets left octets rest × EndsOverOctets steps old (cut_from limits (Ok start) octets) ended at_end output new × IsLastOutput ended taken held output now text

  module _ {limits : Limits} {old : S} {left taken : Option (List ℕ)} {held : List ℕ} where
    pub underway_first : (idling : Option (List ℕ)) (state : Result FrameProgress FrameFaultKind) → state ≡ Ok start → idling ≡ None → Underway limits old left taken held old idling left taken held state
    underway_first idling state s i =
        record { octets = []; output = []; gave = gave-nil left; state_is = s; framer_ok = ap is_ok s; answered = (refl, refl, i); output_is = output_empty taken held }

    pub underway_wrote : (new : S) (idling rest now then : Option (List ℕ)) (text none : List ℕ) (state : Result FrameProgress FrameFaultKind)
        → Underway limits old left taken held new idling rest now text state → IsOutput now text [] then none → Underway limits old left taken held new idling rest then none state
    underway_wrote new idling rest now then text none state u s =
        record {
          octets = u.octets;
          output = u.output;
          gave = u.gave;
          state_is = u.state_is;
          framer_ok = u.framer_ok;
          answered = u.answered;
          output_is = subst (λ (t : List ℕ). IsOutput taken held t then none) (append-nil u.output) (output-append taken now then held u.output text [] none u.output_is s);
        }

    -- further octets, and the conversation continues
    pub underway_next : (mid new : S) (idling after rest further now then : Option (List ℕ)) (text more_text piece output : List ℕ) (state next : Result FrameProgress FrameFaultKind)
        → Underway limits old left taken held mid idling rest now text state → GivesOctets rest piece further
        → Converses steps mid idling (cut_from limits state piece).0 output new after → IsOutput now text output then more_text → (next ≡ (cut_from limits state piece).1) × IsOk next
        → Underway limits old left taken held new after further then more_text next
    underway_next mid new idling after rest further now then text more_text piece output state next u g c s n =
        let cut = cut_from limits (Ok start) u.octets in
        let whole = cut_of-append limits (Ok start) u.octets piece in
        let here : Converses steps mid idling (cut_from limits cut.1 piece).0 output new after = subst (λ (r : Result FrameProgress FrameFaultKind). Converses steps mid idling (cut_from limits r piece).0 output new after) u.state_is c in
        record {
          octets = u.octets ++ piece;
          output = u.output ++ output;
          gave = gave-append left rest further u.octets piece u.gave g;
          state_is = n.0 ∙ ap (λ (r : Result FrameProgress FrameFaultKind). (cut_from limits r piece).1) u.state_is ∙ sym (ap (λ (k : Cut). k.1) whole);
          framer_ok = n.1;
          answered =
              subst (λ (k : Cut). Converses steps old None k.0 (u.output ++ output) new after) (sym whole) (converses-append old None cut.0 (cut_from limits cut.1 piece).0 u.output mid idling output new after u.answered here);
          output_is = output-append taken now then held u.output text output more_text u.output_is s;
        }

    -- further octets, and the conversation ends
    pub underway_ends : (mid new : S) (idling rest further now then : Option (List ℕ)) (text more_text piece output : List ℕ) (state : Result FrameProgress FrameFaultKind) (ended : Ended) (at_end : Bool)
        → Underway limits old left taken held mid idling rest now text state → GivesOctets rest piece further
        → EndsOverCut steps mid idling (cut_from limits state piece) ended output new → IsLastOutput ended now text output then more_text
        → HasEnded limits old left taken held ended at_end new further then more_text
    underway_ends mid new idling rest further now then text more_text piece output state ended at_end u g h s =
        let cut = cut_from limits (Ok start) u.octets in
        let whole = cut_of-append limits (Ok start) u.octets piece in
        let here : EndsOverCut steps mid idling (cut_from limits cut.1 piece) ended output new = subst (λ (r : Result FrameProgress FrameFaultKind). EndsOverCut steps mid idling (cut_from limits r piece) ended output new) u.state_is h in
        let all : EndsOverCut steps old None (cut_from limits (Ok start) (u.octets ++ piece)) ended (u.output ++ output) new =
        subst (λ (k : Cut). EndsOverCut steps old None k ended (u.output ++ output) new) (sym whole) (ends_over_cut_append old None cut.0 (cut_from limits cut.1 piece) ended u.output mid idling output new u.answered here) in
        (u.octets ++ piece, u.output ++ output, gave-append left rest further u.octets piece u.gave g, inr (inr all), last_output_after ended taken now then held u.output text output more_text u.output_is s)

    answered_now : (new : S) (idling rest now : Option (List ℕ)) (text : List ℕ) (state : Result FrameProgress FrameFaultKind) → (u : Underway limits old left taken held new idling rest now text state)
        → HasAnswered steps old None (cut_from limits (Ok start) u.octets).0 u.output new
    answered_now new idling rest now text state u = record { after = idling; answered = u.answered }

    still_cut : (new : S) (idling rest now : Option (List ℕ)) (text : List ℕ) (state : Result FrameProgress FrameFaultKind) → (u : Underway limits old left taken held new idling rest now text state) → IsOk (cut_from limits (Ok start) u.octets).1
    still_cut new idling rest now text state u = subst (λ (r : Result FrameProgress FrameFaultKind). IsOk r) u.state_is u.framer_ok

    pub underway_closed : (new : S) (idling rest further now : Option (List ℕ)) (text piece : List ℕ) (state : Result FrameProgress FrameFaultKind) (at_end : Bool) → Underway limits old left taken held new idling rest now text state
        → piece ≡ [] → GivesOctets rest piece further → at_end ≡ true → HasEnded limits old left taken held PeerClosed at_end new further now text
    underway_closed new idling rest further now text piece state at_end u e g t =
        let gave : GivesOctets left u.octets further = subst (λ (os : List ℕ). GivesOctets left os further) (append-nil u.octets) (gave-append left rest further u.octets [] u.gave (subst (λ (os : List ℕ). GivesOctets rest os further) e g)) in
        (u.octets, u.output, gave, inl (refl, t, still_cut new idling rest now text state u, answered_now new idling rest now text state u), inr ((λ x. cc), u.output_is))

    pub underway_read_failed : (new : S) (idling rest further now : Option (List ℕ)) (text : List ℕ) (state : Result FrameProgress FrameFaultKind) (at_end : Bool) → Underway limits old left taken held new idling rest now text state
        → further ≡ rest → HasEnded limits old left taken held ReadFailed at_end new further now text
    underway_read_failed new idling rest further now text state at_end u e =
        (u.octets, u.output, subst (λ (r : Option (List ℕ)). GivesOctets left u.octets r) (sym e) u.gave, inr (inl (refl, still_cut new idling rest now text state u, answered_now new idling rest now text state u)), inr ((λ x. cc), u.output_is))

    pub underway_write_failed : (new : S) (idling rest now then : Option (List ℕ)) (text left_text : List ℕ) (state : Result FrameProgress FrameFaultKind) (at_end : Bool) → Underway limits old left taken held new idling rest now text state
        → TakesAllOrPart false now text then → HasEnded limits old left taken held WriteFailed at_end new rest then left_text
    underway_write_failed new idling rest now then text left_text state at_end u t =
        let items = (cut_from limits (Ok start) u.octets).0 in
        let lost : TakesAllOrPart false taken (held ++ (u.output ++ [])) then = output_part taken now then held u.output text [] u.output_is (subst (λ (x : List ℕ). TakesAllOrPart false now x then) (sym (append-nil text)) t) in (
          u.octets,
          u.output,
          u.gave,
          inr (inr (inr (inl (refl, record { front = items; first = ([], sym (append-nil items)); answered_front = answered_now new idling rest now text state u })))),
          inl (refl, subst (λ (x : List ℕ). TakesAllOrPart false taken (held ++ x) then) (append-nil u.output) lost),
        )

-- ---- one request

module _ {S : Type 0} (steps : S → PortCall → Result Reply PortFault → S → Type 0) (idling : Option (List ℕ)) (before after : List ℕ) where
  -- an item that is answered at once
  pub printed_ok : {T E : Type 0} (r : Result T E) (p : S) (answer : Answer) → OnOk r (after ≡ before ++ texts (answer ∷ []))
      → OnOk r ((given : List Answer) × HandlesRequest steps p idling (Immediate answer) given p idling false × (after ≡ before ++ texts given))
  printed_ok (Err e) p answer o = tt
  printed_ok (Ok x) p answer o = (answer ∷ [], (refl, refl, refl, refl), o)

  pub printed_err : {T : Type 0} (r : Result T Ended) (p : S) (answer : Answer) → IfErr r (λ ended. (ended ≡ NoMemory) × (after ≡ before))
      → IfErr r (λ ended. (given : List Answer) × FailsRequest steps p idling (Immediate answer) ended given p × (after ≡ before ++ texts given))
  printed_err (Ok x) p answer o = tt
  printed_err (Err e) p answer o = ([], inl (o.0, refl, refl), o.1 ∙ sym (append-nil before))

  -- the port gives no reply
  pub refused : (old new : S) (request : Request) (call : PortCall) (fault : PortFault) (ended : Ended) → call_of request ≡ Some call → steps old call (Err fault) new → ended ≡ end_reason_of fault → after ≡ before
      → (given : List Answer) × FailsRequest steps old idling request ended given new × (after ≡ before ++ texts given)
  refused old new request call fault ended c s e t = ([], inr (inr (inr (inr (call, fault, c, s, e, refl)))), t ∙ sym (append-nil before))

  -- memory ran out during the answers
  pub broken : (old new : S) (request : Request) (all : List Answer) (idling_after : Option (List ℕ)) (out : Bool) → HandlesRequest steps old idling request all new idling_after out
      → ((front : List Answer) × (after ≡ before ++ texts front) × IsPrefixOf front all)
      → (given : List Answer) × FailsRequest steps old idling request NoMemory given new × (after ≡ before ++ texts given)
  broken old new request all idling_after out h f = (f.0, inr (inr (inl (refl, (all, idling_after, out, h, f.2)))), f.1)

  -- a line is refused because memory ran out
  pub line_refused : (old new : S) (tag : List ℕ) (line : IdleLine) (reply : Reply) → steps old (asked.Line line) (Ok reply) new → is_out_of_memory reply ≡ true → after ≡ before
      → (given : List Answer) × FailsRequest steps old idling (Line tag line) NoMemory given new × (after ≡ before ++ texts given)
  line_refused old new tag line reply s m t = ([], inr (inr (inr (inl (line, reply, refl, s, m, refl, refl)))), t ∙ sym (append-nil before))

  -- the item of a request
  pub item_ok : {T E : Type 0} (r : Result T E) (old new : S) (idling_after : Option (List ℕ)) (item : Item) (request : Request) → IsRequest idling item request
      → OnOk r ((given : List Answer) × HandlesRequest steps old idling request given new idling_after false × (after ≡ before ++ texts given))
      → OnOk r ((given : List Answer) × AnswersItem steps old idling item given new idling_after false × (after ≡ before ++ texts given))
  item_ok (Err e) old new idling_after item request i o = tt
  item_ok (Ok x) old new idling_after item request i o = (o.0, (request, i, o.1), o.2)

  pub item_err : {T : Type 0} (r : Result T Ended) (old new : S) (item : Item) (request : Request) → IsRequest idling item request
      → IfErr r (λ ended. (given : List Answer) × FailsRequest steps old idling request ended given new × (after ≡ before ++ texts given))
      → IfErr r (λ ended. (given : List Answer) × StopsAt steps old idling item ended given new × (after ≡ before ++ texts given))
  item_err (Ok x) old new item request i o = tt
  item_err (Err e) old new item request i o = (o.0, elim o.1 [ inl n ↦ inl n | inr s ↦ inr (request, i, s) ], o.2)

-- ---- results

module _ {S : Type 0} (steps : S → PortCall → Result Reply PortFault → S → Type 0) (old new : S) (idling : Option (List ℕ)) (k l : Option (List ℕ)) (held left : List ℕ) where
  -- from the items to the octets that give them
  pub halts_whole : {T : Type 0} (r : Result T Ended) (items slice : List Item) (cut : Cut) → cut.0 ≡ items → slice ≡ items
      → IfErr r (λ ended. (output : List ℕ) × EndsOverItems steps old idling slice ended output new × IsLastOutput ended k held output l left)
      → IfErr r (λ ended. (output : List ℕ) × EndsOverCut steps old idling cut ended output new × IsLastOutput ended k held output l left)
  halts_whole (Ok x) items slice cut e d o = tt
  halts_whole (Err ended) items slice cut e d o = (o.0, inr (subst (λ (xs : List Item). EndsOverItems steps old idling xs ended o.0 new) (d ∙ sym e) o.1), o.2)
