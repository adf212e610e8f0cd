use Rattle.std.proofs.Common.{◌≡◌, inl, inr, ℕ, zero, List, [], ◌∷◌, ◌++◌, ap, refl, sym, ◌∙◌, subst, append_assoc, append-nil, Result}
use Rattle.std.proofs.lemmas.List.Concat.{flat_map-append}
use Rattle.imap_lex.specs.Framing.{FrameProgress, cut_from}
use Rattle.imap_lex.specs.declared.fault.FrameFaultKind.{FrameFaultKind}
use Rattle.imap_lex.specs.declared.item.Item.{Item}
use Rattle.imap_lex.specs.declared.limits.Limits.{Limits}
use Rattle.imap_node.specs.Nodes.{NodeState}
use Rattle.imap_connection.specs.Conversation.{Converses, TimedItem, items_at}
use Rattle.imap_connection.specs.Streams.{ConversesBetweenOthers, SomeOtherSteps, Piece, TalksBetweenOthers, PieceAt, cut_by, items_in, octets_of_pieces, items_at_each, items_without_moments}
use Rattle.imap_connection.specs.declared.turn.Turn.{Turn}
use Rattle.imap_connection.proofs.PlaceLemmas.{active_or_not}
use Rattle.imap_connection.proofs.StreamLemmas.{items_joined, state_joined}

-- no steps of others in between
quiet : (session : ℕ) (node : NodeState) → SomeOtherSteps session node node
quiet session node = (zero, refl)

-- a piece, with the node at which it arrives
abbrev pub piece_at_node : NodeState → Piece → PieceAt
piece_at_node node piece = record { node = node; piece = piece }

-- the items of a single piece
converses_single : (old mid new : NodeState) (session : ℕ) (items : List TimedItem) (turns : List Turn) → SomeOtherSteps session old mid → Converses mid session items turns new
    → ConversesBetweenOthers old session (record { node = mid; items = items } ∷ []) turns new
converses_single old mid new session items turns w c = (
  turns,
  new,
  w,
  c,
  elim (active_or_not new session) [
    | inl active ↦ inl (active, ([], sym (append-nil turns), (refl, quiet session new)))
    | inr over ↦ inr (over, refl, refl)
  ],
)

-- piece by piece, the turns are the conversation over what each piece completes
pub talks_between_others : (old new : NodeState) (session : ℕ) (limits : Limits) (state end : Result FrameProgress FrameFaultKind) (pieces_at : List PieceAt) (turns : List Turn) → TalksBetweenOthers old session limits state pieces_at turns new end
    → ConversesBetweenOthers old session (items_at_each limits state pieces_at) turns new × (end ≡ (cut_from limits state (octets_of_pieces pieces_at)).1)
talks_between_others old new session limits state end [] turns t = ((t.0, t.1), t.2)
talks_between_others old new session limits state end (piece_at ∷ pieces_at) turns t =
    let here : t.2 ≡ (cut_from limits state piece_at.piece.octets).1 = (t.4.1 t.5).0 in
    let later = talks_between_others t.1 new session limits t.2 end pieces_at t.6.0 t.6.2 in (
      (
        t.0,
        t.1,
        t.3,
        t.4.0,
        inl (t.5, (t.6.0, t.6.1, subst (λ (s : Result FrameProgress FrameFaultKind). ConversesBetweenOthers t.1 session (items_at_each limits s pieces_at) t.6.0 new) here later.0)),
      ),
      later.1 ∙ ap (λ s. (cut_from limits s (octets_of_pieces pieces_at)).1) here ∙ sym (state_joined limits state piece_at.piece.octets (octets_of_pieces pieces_at)),
    )

-- with a last piece, which may end the session, after the others
pub last_talk_between_others : (old mid new : NodeState) (session : ℕ) (limits : Limits) (state between : Result FrameProgress FrameFaultKind) (pieces_at : List PieceAt) (piece : Piece) (turns more : List Turn)
    → TalksBetweenOthers old session limits state pieces_at turns mid between → Converses mid session (cut_by limits between piece).0 more new
    → ConversesBetweenOthers old session (items_at_each limits state (pieces_at ++ piece_at_node mid piece ∷ [])) (turns ++ more) new
last_talk_between_others old mid new session limits state between [] piece turns more t c =
    subst (λ (ts : List Turn). ConversesBetweenOthers old session (items_at_each limits state (piece_at_node mid piece ∷ [])) ts new) (sym (ap (λ ts. ts ++ more) t.0))
    (converses_single old mid new session (cut_by limits state piece).0 more t.1 (subst (λ (s : Result FrameProgress FrameFaultKind). Converses mid session (cut_by limits s piece).0 more new) t.2 c))
last_talk_between_others old mid new session limits state between (piece_at ∷ pieces_at) piece turns more t c =
    let here : t.2 ≡ (cut_from limits state piece_at.piece.octets).1 = (t.4.1 t.5).0 in
    let later = last_talk_between_others t.1 mid new session limits t.2 between pieces_at piece t.6.0 more t.6.2 c in (
      t.0,
      t.1,
      t.3,
      t.4.0,
      inl (
        t.5,
        (
          t.6.0 ++ more,
          ap (λ ts. ts ++ more) t.6.1 ∙ append_assoc t.0 t.6.0 more,
          subst (λ (s : Result FrameProgress FrameFaultKind). ConversesBetweenOthers t.1 session (items_at_each limits s (pieces_at ++ piece_at_node mid piece ∷ [])) (t.6.0 ++ more) new) here later,
        ),
      ),
    )

-- timed items, without their moments
untimed_all : (moment : ℕ) (items : List Item) → items_without_moments (items_at moment items) ≡ items
untimed_all moment [] = refl
untimed_all moment (item ∷ items) = ap (λ is. item ∷ is) (untimed_all moment items)

-- the items that the pieces complete are those of all their octets
pub stretches_whole : (limits : Limits) (state : Result FrameProgress FrameFaultKind) (pieces_at : List PieceAt) → items_in (items_at_each limits state pieces_at) ≡ (cut_from limits state (octets_of_pieces pieces_at)).0
stretches_whole limits state [] = refl
stretches_whole limits state (piece_at ∷ pieces_at) =
    let cut = cut_from limits state piece_at.piece.octets in
    ap (λ items. items ++ items_in (items_at_each limits cut.1 pieces_at)) (untimed_all piece_at.piece.moment cut.0)
    ∙ ap (λ items. cut.0 ++ items) (stretches_whole limits cut.1 pieces_at) ∙ sym (items_joined limits state piece_at.piece.octets (octets_of_pieces pieces_at))

-- the framing state after all octets is the state after the last piece
pub state_to_end : (limits : Limits) (state between : Result FrameProgress FrameFaultKind) (node : NodeState) (pieces_at : List PieceAt) (piece : Piece) → between ≡ (cut_from limits state (octets_of_pieces pieces_at)).1
    → (cut_from limits state (octets_of_pieces (pieces_at ++ piece_at_node node piece ∷ []))).1 ≡ (cut_from limits between piece.octets).1
state_to_end limits state between node pieces_at piece e =
    let all : octets_of_pieces (pieces_at ++ piece_at_node node piece ∷ []) ≡ octets_of_pieces pieces_at ++ piece.octets =
    flat_map-append (λ (piece_at : PieceAt). piece_at.piece.octets) pieces_at (piece_at_node node piece ∷ []) ∙ ap (λ os. octets_of_pieces pieces_at ++ os) (append-nil piece.octets) in
    ap (λ os. (cut_from limits state os).1) all ∙ state_joined limits state (octets_of_pieces pieces_at) piece.octets ∙ ap (λ s. (cut_from limits s piece.octets).1) (sym e)
