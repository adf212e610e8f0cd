use Rattle.std.proofs.Common.{◌≡◌, inl, inr, ℕ, List, [], ◌∷◌, ◌++◌, ap, sym, ◌∙◌, subst, append_assoc, Option, None, Some, option_to_list, Result, Ok, Err, IsOk, IsErr}
use Rattle.imap_answers.specs.declared.answer.Answer.{Answer}
use Rattle.imap_lex.specs.Frames.{FailsAt}
use Rattle.imap_lex.specs.Framing.{Cut, FrameProgress, cut_from, start}
use Rattle.imap_lex.specs.declared.fault.FrameFaultKind.{FrameFaultKind}
use Rattle.imap_lex.specs.declared.fault.FrameFaultKind.TheVariants.{LineTooLong, LiteralTooLong, NulByte, NoMemory, Failed}
use Rattle.imap_lex.specs.declared.item.Item.{Item}
use Rattle.imap_lex.specs.declared.limits.Limits.{Limits}
use Rattle.imap_lex.proofs.FrameLemmas.{cut_of_fault}
use Rattle.imap_node.specs.Nodes.{IsActive, NodeState, with_session_closed}
use Rattle.imap_connection.specs.Conversation.{BreaksOff, Converses, IsPrefixOf, TimedItem, turns_of_answers, turns_of}
use Rattle.imap_connection.specs.Streams.{ConversesBetweenOthers, Piece, TalksBetweenOthers, AreTalks, PieceAt, cut_by, cut_of_pieces, items_of, octets_of_pieces, octets_in, items_at_each, items_without_moments}
use Rattle.imap_connection.specs.Talks.{EndsTalk, TimedCut, bye_of, bye_turns}
use Rattle.imap_connection.specs.declared.turn.TalkFaultKind.{TalkFaultKind}
use Rattle.imap_connection.specs.declared.turn.TalkFaultKind.TheVariants as kinds
use Rattle.imap_connection.specs.declared.turn.Turn.{Turn}
use Rattle.imap_connection.proofs.BetweenOthersLemmas.{state_to_end, talks_between_others, last_talk_between_others, piece_at_node}
use Rattle.imap_connection.proofs.PlaceLemmas.{closed_stops}
use Rattle.imap_connection.proofs.StreamLemmas.{converses_append, items_append, state_append, talks_joined, untimed_whole}
use Rattle.imap_connection.proofs.TurnLemmas.{prefix_append}

-- a conversation that continues, and after it one that is broken off
breaks_off_append : (why : TalkFaultKind) (old mid new : NodeState) (session : ℕ) (items more : List TimedItem) (turns rest : List Turn) → IsActive mid session → Converses old session items turns mid → BreaksOff why mid session more rest new
    → BreaksOff why old session (items ++ more) (turns ++ rest) new
breaks_off_append why old mid new session [] more turns rest active c d =
    subst (λ (ts : List Turn). BreaksOff why old session more (ts ++ rest) new) (sym c.0) (subst (λ (n : NodeState). BreaksOff why n session more rest new) c.1 d)
breaks_off_append why old mid new session (item ∷ items) more turns rest active c d =
    elim c.3 [
      | inl on ↦ inr (c.0, c.1, c.2, on.0, (on.1.0 ++ rest, ap (λ ts. ts ++ rest) on.1.1 ∙ append_assoc (turns_of item.item c.0) on.1.0 rest, breaks_off_append why c.1 mid new session items more on.1.0 rest active on.1.2 d))
      | inr out ↦ absurd (closed_stops c.1 session (subst (λ (n : NodeState). IsActive n session) out.2 active))
    ]

-- if the session continues, the framer has not failed
talks_ok : (old new : NodeState) (session : ℕ) (limits : Limits) (state end : Result FrameProgress FrameFaultKind) (pieces : List Piece) (turns : List Turn) → AreTalks old session limits state pieces turns new end → IsOk state → IsOk end
talks_ok old new session limits state end [] turns t ok = subst (λ (s : Result FrameProgress FrameFaultKind). IsOk s) (sym t.2) ok
talks_ok old new session limits state end (piece ∷ pieces) turns t ok = talks_ok t.1 new session limits t.2 end pieces t.5.0 t.5.2 (t.3.1 t.4).1

no_both : (state : Result FrameProgress FrameFaultKind) → IsOk state → IsErr state → ⊥
no_both (Ok p) ok err = cc
no_both (Err why) ok err = cc

-- if the framer had failed before the last piece, it had failed before all pieces, and there are no
-- turns
failed_at_first : (old mid new : NodeState) (session : ℕ) (limits : Limits) (state between : Result FrameProgress FrameFaultKind) (pieces : List Piece) (turns more : List Turn)
    → AreTalks old session limits state pieces turns mid between → IsErr between → more ≡ [] → new ≡ with_session_closed mid session
    → IsErr state × (turns ++ more ≡ []) × (new ≡ with_session_closed old session)
failed_at_first old mid new session limits state between [] turns more t err none out =
    (subst (λ (s : Result FrameProgress FrameFaultKind). IsErr s) t.2 err, ap (λ ts. ts ++ more) t.0 ∙ none, out ∙ ap (λ n. with_session_closed n session) t.1)
failed_at_first old mid new session limits state between (piece ∷ pieces) turns more t err none out =
    absurd (no_both between (talks_ok t.1 mid session limits t.2 between pieces t.5.0 t.5.2 (t.3.1 t.4).1) err)

-- A conversation's end that a BYE names.
module _ (why : FrameFaultKind) (old : NodeState) (session : ℕ) (cut : TimedCut) (turns : List Turn) (new : NodeState) where
  abbrev pub EndsAtNamedFault : Type 0
  EndsAtNamedFault =
      (cut.1 ≡ Err why) × (mid : NodeState) × (before : List Turn) × Converses old session cut.0 before mid × IsActive mid session
      × (turns ≡ before ++ bye_turns why) × (new ≡ with_session_closed mid session)

-- a fault that a BYE names ends the conversation
named_fault : (why : FrameFaultKind) (bye : Answer) (old : NodeState) (session : ℕ) (state : Result FrameProgress FrameFaultKind) (cut : TimedCut) (turns : List Turn) (new : NodeState)
    → bye_of why ≡ Some bye → EndsTalk (kinds.Framing why) old session state cut turns new → EndsAtNamedFault why old session cut turns new
named_fault LineTooLong bye old session state cut turns new b e = e
named_fault LiteralTooLong bye old session state cut turns new b e = e
named_fault NulByte bye old session state cut turns new b e = e
named_fault NoMemory bye old session state cut turns new b e = let k : ◌≡◌ {A = Option Answer} None (Some bye) = b in cc
named_fault Failed bye old session state cut turns new b e = let k : ◌≡◌ {A = Option Answer} None (Some bye) = b in cc

-- the turns before the BYE, after those of the earlier pieces
turns_append : (turns more before : List Turn) (why : FrameFaultKind) → more ≡ before ++ bye_turns why → turns ++ more ≡ (turns ++ before) ++ bye_turns why
turns_append turns more before why e = ap (λ ts. turns ++ ts) e ∙ sym (append_assoc turns before (bye_turns why))

module _ (old mid new : NodeState) (session : ℕ) (limits : Limits) (state between : Result FrameProgress FrameFaultKind) (pieces : List Piece) (piece : Piece) (turns more : List Turn) (active : IsActive mid session) where
  abbrev whole : TimedCut
  whole = cut_of_pieces limits state (pieces ++ piece ∷ [])

  -- a fault that a BYE names
  named_fault_after : (why : FrameFaultKind) → AreTalks old session limits state pieces turns mid between → EndsAtNamedFault why mid session (cut_by limits between piece) more new → EndsAtNamedFault why old session whole (turns ++ more) new
  named_fault_after why t e =
      let before = talks_joined old mid session limits state between pieces turns t in (
        state_append limits piece state between pieces before.1 ∙ e.0,
        e.1,
        turns ++ e.2,
        subst (λ (items : List TimedItem). Converses old session items (turns ++ e.2) e.1) (sym (items_append limits piece state between pieces before.1))
            (converses_append old mid e.1 session (items_of limits state pieces) (cut_by limits between piece).0 turns e.2 active before.0 e.3),
        e.4,
        turns_append turns more e.2 why e.5,
        e.6,
      )

  -- an initial part of the last piece's items, after those of the earlier pieces
  cut_prefix : (items : List TimedItem) → between ≡ (cut_from limits state (octets_in pieces)).1 → IsPrefixOf items (cut_by limits between piece).0 → IsPrefixOf (items_of limits state pieces ++ items) whole.0
  cut_prefix items e p =
      subst (λ (all : List TimedItem). IsPrefixOf (items_of limits state pieces ++ items) all) (sym (items_append limits piece state between pieces e)) (prefix_append _ items _ p)

  -- a conversation that is broken off
  ends_broken : (why : TalkFaultKind) → AreTalks old session limits state pieces turns mid between
      → ((items : List TimedItem) × IsPrefixOf items (cut_by limits between piece).0 × BreaksOff why mid session items more new)
      → (items : List TimedItem) × IsPrefixOf items whole.0 × BreaksOff why old session items (turns ++ more) new
  ends_broken why t e =
      let before = talks_joined old mid session limits state between pieces turns t in
      (items_of limits state pieces ++ e.0, cut_prefix e.0 before.1 e.1, breaks_off_append why old mid new session (items_of limits state pieces) e.0 turns more active before.0 e.2)

  -- the whole conversation ends as its last piece does
  pub ends_append : (why : TalkFaultKind) → AreTalks old session limits state pieces turns mid between → EndsTalk why mid session between (cut_by limits between piece) more new
      → EndsTalk why old session state (cut_of_pieces limits state (pieces ++ piece ∷ [])) (turns ++ more) new
  ends_append kinds.NoMemory t e = ends_broken kinds.NoMemory t e
  ends_append kinds.LineRefused t e = ends_broken kinds.LineRefused t e
  ends_append (kinds.Framing NoMemory) t e =
      let before = talks_joined old mid session limits state between pieces turns t in (
        items_of limits state pieces ++ e.0,
        e.1,
        cut_prefix e.0 before.1 e.2,
        converses_append old mid e.1 session (items_of limits state pieces) e.0 turns more active before.0 e.3,
        e.4,
        e.5,
      )
  ends_append (kinds.Framing Failed) t e = failed_at_first old mid new session limits state between pieces turns more t e.0 e.1 e.2
  ends_append (kinds.Framing LineTooLong) t e = named_fault_after LineTooLong t e
  ends_append (kinds.Framing LiteralTooLong) t e = named_fault_after LiteralTooLong t e
  ends_append (kinds.Framing NulByte) t e = named_fault_after NulByte t e

-- a fault that a BYE names, with deliveries between the pieces
pub ends_between_others : (old mid new : NodeState) (session : ℕ) (limits : Limits) (state between : Result FrameProgress FrameFaultKind) (pieces_at : List PieceAt) (piece : Piece) (turns more : List Turn) (why : FrameFaultKind) (bye : Answer)
    → bye_of why ≡ Some bye → TalksBetweenOthers old session limits state pieces_at turns mid between → EndsTalk (kinds.Framing why) mid session between (cut_by limits between piece) more new
    → ((cut_from limits state (octets_of_pieces (pieces_at ++ piece_at_node mid piece ∷ []))).1 ≡ Err why)
    × ((before : List Turn) × (last : NodeState) × ConversesBetweenOthers old session (items_at_each limits state (pieces_at ++ piece_at_node mid piece ∷ [])) before last × IsActive last session
    × (turns ++ more ≡ before ++ turns_of_answers (bye ∷ [])) × (new ≡ with_session_closed last session))
ends_between_others old mid new session limits state between pieces_at piece turns more why bye b t f =
    let e = named_fault why bye mid session between (cut_by limits between piece) more new b f in
    let before = talks_between_others old mid session limits state between pieces_at turns t in (
      state_to_end limits state between mid pieces_at piece before.1 ∙ e.0,
      (
        turns ++ e.2,
        e.1,
        last_talk_between_others old mid e.1 session limits state between pieces_at piece turns e.2 t e.3,
        e.4,
        turns_append turns more e.2 why e.5 ∙ ap (λ named_fault. (turns ++ e.2) ++ turns_of_answers (option_to_list named_fault)) b,
        e.6,
      ),
    )

-- a stream that fails at an octet
pub frames_end : (old mid new : NodeState) (session : ℕ) (limits : Limits) (between : Result FrameProgress FrameFaultKind) (pieces : List Piece) (piece : Piece) (turns more : List Turn) (items : List Item) (why : FrameFaultKind) (bye : Answer)
    → bye_of why ≡ Some bye → IsActive mid session → AreTalks old session limits (Ok start) pieces turns mid between → FailsAt limits (octets_in (pieces ++ piece ∷ [])) items why
    → EndsTalk (kinds.Framing why) mid session between (cut_by limits between piece) more new
    → (before : List Turn) × (last : NodeState) × Converses old session (items_of limits (Ok start) (pieces ++ piece ∷ [])) before last × (items_without_moments (items_of limits (Ok start) (pieces ++ piece ∷ [])) ≡ items)
    × IsActive last session × (turns ++ more ≡ before ++ turns_of_answers (bye ∷ [])) × (new ≡ with_session_closed last session)
frames_end old mid new session limits between pieces piece turns more items why bye b active t f e =
    let given = cut_of_fault limits (octets_in (pieces ++ piece ∷ [])) items why f in
    let w = named_fault_after old mid new session limits (Ok start) between pieces piece turns more active why t (named_fault why bye mid session between (cut_by limits between piece) more new b e) in (
      w.2,
      w.1,
      w.3,
      untimed_whole limits (Ok start) (pieces ++ piece ∷ []) ∙ ap (λ (c : Cut). c.0) given,
      w.4,
      w.5 ∙ ap (λ named_fault. w.2 ++ turns_of_answers (option_to_list named_fault)) b,
      w.6,
    )
