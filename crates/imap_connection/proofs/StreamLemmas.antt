use Rattle.std.proofs.Common.{◌≡◌, inl, inr, ℕ, List, [], ◌∷◌, ◌++◌, ap, refl, sym, ◌∙◌, subst, append_assoc, append-nil, Result}
use Rattle.std.proofs.lemmas.List.Concat.{flat_map-append}
use Rattle.imap_lex.specs.Framing.{Cut, FrameProgress, cut_from}
use Rattle.imap_lex.specs.declared.fault.FrameFaultKind.{FrameFaultKind}
use Rattle.imap_lex.specs.declared.item.Item.{Item}
use Rattle.imap_lex.specs.declared.limits.Limits.{Limits}
use Rattle.imap_lex.proofs.CutLemmas.{cut_of-append}
use Rattle.imap_node.specs.Nodes.{IsActive, NodeState}
use Rattle.imap_connection.specs.Conversation.{Converses, TimedItem, items_at, turns_of}
use Rattle.imap_connection.specs.Streams.{Piece, AreTalks, cut_by, items_of, octets_in, items_without_moments}
use Rattle.imap_connection.specs.Talks.{TakesPiece}
use Rattle.imap_connection.specs.declared.turn.Turn.{Turn}
use Rattle.imap_connection.proofs.PlaceLemmas.{closed_stops}

-- a conversation that continues, and the conversation after it
pub converses_append : (old mid new : NodeState) (session : ℕ) (items more : List TimedItem) (turns rest : List Turn) → IsActive mid session → Converses old session items turns mid → Converses mid session more rest new → Converses old session (items ++ more) (turns ++ rest) new
converses_append old mid new session [] more turns rest active c d =
    subst (λ (ts : List Turn). Converses old session more (ts ++ rest) new) (sym c.0) (subst (λ (n : NodeState). Converses n session more rest new) c.1 d)
converses_append old mid new session (item ∷ items) more turns rest active c d = (
  c.0,
  c.1,
  c.2,
  elim c.3 [
    | inl on ↦ inl (on.0, (on.1.0 ++ rest, ap (λ ts. ts ++ rest) on.1.1 ∙ append_assoc (turns_of item.item c.0) on.1.0 rest, converses_append c.1 mid new session items more on.1.0 rest active on.1.2 d))
    | inr out ↦ absurd (closed_stops c.1 session (subst (λ (n : NodeState). IsActive n session) out.2 active))
  ],
)

-- ---- octets in pieces

-- the items of a piece and of the octets after it are those of both together
pub items_joined : (limits : Limits) (state : Result FrameProgress FrameFaultKind) (xs ys : List ℕ) → (cut_from limits state (xs ++ ys)).0 ≡ (cut_from limits state xs).0 ++ (cut_from limits (cut_from limits state xs).1 ys).0
items_joined limits state xs ys = ap (λ (c : Cut). c.0) (cut_of-append limits state xs ys)

pub state_joined : (limits : Limits) (state : Result FrameProgress FrameFaultKind) (xs ys : List ℕ) → (cut_from limits state (xs ++ ys)).1 ≡ (cut_from limits (cut_from limits state xs).1 ys).1
state_joined limits state xs ys = ap (λ (c : Cut). c.1) (cut_of-append limits state xs ys)

-- timed items, without their moments
pub untimed_at : (moment : ℕ) (items : List Item) (more : List TimedItem) → items_without_moments (items_at moment items ++ more) ≡ items ++ items_without_moments more
untimed_at moment [] more = refl
untimed_at moment (item ∷ items) more = ap (λ is. item ∷ is) (untimed_at moment items more)

-- the items of the pieces are those of all octets
pub untimed_whole : (limits : Limits) (state : Result FrameProgress FrameFaultKind) (pieces : List Piece) → items_without_moments (items_of limits state pieces) ≡ (cut_from limits state (octets_in pieces)).0
untimed_whole limits state [] = refl
untimed_whole limits state (piece ∷ pieces) =
    let cut = cut_from limits state piece.octets in
    untimed_at piece.moment cut.0 (items_of limits cut.1 pieces) ∙ ap (λ items. cut.0 ++ items) (untimed_whole limits cut.1 pieces)
    ∙ sym (items_joined limits state piece.octets (octets_in pieces))

-- the octets with one further piece
pub octets_append : (pieces : List Piece) (piece : Piece) → octets_in (pieces ++ piece ∷ []) ≡ octets_in pieces ++ piece.octets
octets_append pieces piece =
    flat_map-append (λ (p : Piece). p.octets) pieces (piece ∷ []) ∙ ap (λ os. octets_in pieces ++ os) (append-nil piece.octets)

module _ (limits : Limits) (piece : Piece) where
  -- the items that one further piece completes, after those of the earlier pieces
  pub items_append : (state between : Result FrameProgress FrameFaultKind) (pieces : List Piece) → between ≡ (cut_from limits state (octets_in pieces)).1
      → items_of limits state (pieces ++ piece ∷ []) ≡ items_of limits state pieces ++ (cut_by limits between piece).0
  items_append state between [] e = append-nil _ ∙ ap (λ s. (cut_by limits s piece).0) (sym e)
  items_append state between (p ∷ pieces) e =
      let cut = cut_by limits state p in
      ap (λ items. cut.0 ++ items) (items_append cut.1 between pieces (e ∙ state_joined limits state p.octets (octets_in pieces)))
      ∙ sym (append_assoc cut.0 (items_of limits cut.1 pieces) (cut_by limits between piece).0)

  pub state_append : (state between : Result FrameProgress FrameFaultKind) (pieces : List Piece) → between ≡ (cut_from limits state (octets_in pieces)).1
      → (cut_from limits state (octets_in (pieces ++ piece ∷ []))).1 ≡ (cut_by limits between piece).1
  state_append state between pieces e =
      ap (λ os. (cut_from limits state os).1) (octets_append pieces piece) ∙ state_joined limits state (octets_in pieces) piece.octets
      ∙ ap (λ s. (cut_from limits s piece.octets).1) (sym e)

-- piece by piece, the turns are the conversation over the items of the whole
pub talks_joined : (old new : NodeState) (session : ℕ) (limits : Limits) (state end : Result FrameProgress FrameFaultKind) (pieces : List Piece) (turns : List Turn) → AreTalks old session limits state pieces turns new end
    → Converses old session (items_of limits state pieces) turns new × (end ≡ (cut_from limits state (octets_in pieces)).1)
talks_joined old new session limits state end [] turns t = ((t.0, t.1), t.2)
talks_joined old new session limits state end (piece ∷ pieces) turns t =
    let first = t.0 in
    let mid = t.1 in
    let between = t.2 in
    let first_talk = t.3 in
    let active = t.4 in
    let rest = t.5.0 in
    let here : between ≡ (cut_from limits state piece.octets).1 = (first_talk.1 active).0 in
    let later = talks_joined mid new session limits between end pieces rest t.5.2 in
    let later' : Converses mid session (items_of limits (cut_from limits state piece.octets).1 pieces) rest new =
    subst (λ (s : Result FrameProgress FrameFaultKind). Converses mid session (items_of limits s pieces) rest new) here later.0 in (
      subst (λ (ts : List Turn). Converses old session (items_of limits state (piece ∷ pieces)) ts new) (sym t.5.1)
          (converses_append old mid new session (cut_by limits state piece).0 (items_of limits (cut_from limits state piece.octets).1 pieces) first rest active first_talk.0 later'),
      later.1 ∙ ap (λ s. (cut_from limits s (octets_in pieces)).1) here ∙ sym (state_joined limits state piece.octets (octets_in pieces)),
    )

-- with a last piece, which may end the session, after the others
pub last_talk_joined : (old mid new : NodeState) (session : ℕ) (limits : Limits) (state between end : Result FrameProgress FrameFaultKind) (pieces : List Piece) (piece : Piece) (turns more : List Turn)
    → IsActive mid session → AreTalks old session limits state pieces turns mid between → TakesPiece mid session (cut_by limits between piece) more new end
    → Converses old session (items_of limits state (pieces ++ piece ∷ [])) (turns ++ more) new
last_talk_joined old mid new session limits state between end pieces piece turns more active t l =
    let before = talks_joined old mid session limits state between pieces turns t in
    subst (λ (items : List TimedItem). Converses old session items (turns ++ more) new) (sym (items_append limits piece state between pieces before.1))
    (converses_append old mid new session (items_of limits state pieces) (cut_by limits between piece).0 turns more active before.0 l.0)
