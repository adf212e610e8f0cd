use Rattle.std.proofs.Common.{◌≡◌, inl, inr, ℕ, List, [], ◌∷◌, ◌++◌, ap, refl, sym, ◌∙◌, subst, append-nil, Result}
use Rattle.std.proofs.lemmas.List.{map-append}
use Rattle.imap_lex.specs.Framing.{Cut, FaultsNow, IsPrefix, FrameProgress}
use Rattle.imap_lex.specs.declared.fault.FrameFaultKind.{FrameFaultKind}
use Rattle.imap_lex.specs.declared.fault.FrameFaultKind.TheVariants.{LineTooLong, LiteralTooLong, NulByte, NoMemory, Failed}
use Rattle.imap_lex.specs.declared.item.Item.{Item}
use Rattle.imap_node.specs.Nodes.{IsActive, NodeState, with_session_closed}
use Rattle.imap_connection.specs.Conversation.{BreaksOff, Converses, IsPrefixOf, TimedItem, item_at, items_at}
use Rattle.imap_connection.specs.Talks.{EndsTalk, EndsWithBye, TimedCut, cut_at, bye_turns}
use Rattle.imap_connection.specs.declared.turn.TalkFaultKind.{TalkFaultKind}
use Rattle.imap_connection.specs.declared.turn.TalkFaultKind.TheVariants as kinds
use Rattle.imap_connection.specs.declared.turn.Turn.{Turn}
use Rattle.imap_connection.proofs.PlaceLemmas.{closed_stops}

-- an initial part of items stays one if all items get the same moment
pub timed_prefix : (moment : ℕ) (items all : List Item) → IsPrefix items all → IsPrefixOf (items_at moment items) (items_at moment all)
timed_prefix moment items all p = (items_at moment p.0, ap (items_at moment) p.1 ∙ map-append (item_at moment) items p.0)

-- the items that the framer gave before a fault are an initial part of those that the octets give
pub items_before_fault : (why : FrameFaultKind) (items : List Item) (old new : Result FrameProgress FrameFaultKind) (cut : Cut) → FaultsNow why items old new cut → IsPrefix items cut.0
items_before_fault LineTooLong items old new cut f = ([], ap (λ (c : Cut). c.0) f.2 ∙ sym (append-nil items))
items_before_fault LiteralTooLong items old new cut f = ([], ap (λ (c : Cut). c.0) f.2 ∙ sym (append-nil items))
items_before_fault NulByte items old new cut f = ([], ap (λ (c : Cut). c.0) f.2 ∙ sym (append-nil items))
items_before_fault NoMemory items old new cut f = f.2
items_before_fault Failed items old new cut f = (cut.0, ap (λ front. front ++ cut.0) (sym f.1))

-- items after a LOGOUT change nothing
pub stopped_early : (old : NodeState) (session : ℕ) (items more : List TimedItem) (turns : List Turn) (new : NodeState) → IsActive old session → (IsActive new session → ⊥) → Converses old session items turns new → Converses old session (items ++ more) turns new
stopped_early old session [] more turns new active stopped c = absurd (stopped (subst (λ (n : NodeState). IsActive n session) (sym c.1) active))
stopped_early old session (item ∷ items) more turns new active stopped c = (
  c.0,
  c.1,
  c.2,
  elim c.3 [
    | inl on ↦ inl (on.0, (on.1.0, on.1.1, stopped_early c.1 session items more on.1.0 new on.0 stopped on.1.2))
    | inr out ↦ inr out
  ],
)

-- a conversation that continued so far is broken off after its items
pub broken_at_end : (old : NodeState) (session : ℕ) (items : List TimedItem) (turns : List Turn) (mid : NodeState) → IsActive mid session → Converses old session items turns mid → BreaksOff kinds.NoMemory old session items turns (with_session_closed mid session)
broken_at_end old session [] turns mid active c = (refl, c.0, ap (λ n. with_session_closed n session) c.1)
broken_at_end old session (item ∷ items) turns mid active c =
    elim c.3 [
      | inl on ↦ inr (c.0, c.1, c.2, on.0, (on.1.0, on.1.1, broken_at_end c.1 session items on.1.0 mid active on.1.2))
      | inr out ↦ absurd (closed_stops c.1 session (subst (λ (n : NodeState). IsActive n session) out.2 active))
    ]

module _ (old mid : NodeState) (session moment : ℕ) (items : List Item) (state new : Result FrameProgress FrameFaultKind) (cut : Cut) (active : IsActive mid session) where
  abbrev HasTurns : List Turn → Type 0
  HasTurns before = Converses old session (items_at moment items) before mid

  -- the conversation over all items that were cut
  over_cut : (before : List Turn) → cut.0 ≡ items → HasTurns before → Converses old session (items_at moment cut.0) before mid
  over_cut before e c = subst (λ (xs : List Item). Converses old session (items_at moment xs) before mid) (sym e) c

  ends_at : (why : FrameFaultKind) (before turns : List Turn) → FaultsNow why items state new cut → HasTurns before → turns ≡ before ++ bye_turns why → EndsTalk (kinds.Framing why) old session state (cut_at moment cut) turns (with_session_closed mid session)
  ends_at LineTooLong before turns f c e = (ap (λ (c : Cut). c.1) f.2, mid, before, over_cut before (ap (λ (c : Cut). c.0) f.2) c, active, e, refl)
  ends_at LiteralTooLong before turns f c e = (ap (λ (c : Cut). c.1) f.2, mid, before, over_cut before (ap (λ (c : Cut). c.0) f.2) c, active, e, refl)
  ends_at NulByte before turns f c e = (ap (λ (c : Cut). c.1) f.2, mid, before, over_cut before (ap (λ (c : Cut). c.0) f.2) c, active, e, refl)
  ends_at NoMemory before turns f c e =
      (items_at moment items, mid, timed_prefix moment items cut.0 f.2, subst (λ (ts : List Turn). Converses old session (items_at moment items) ts mid) (sym (e ∙ append-nil before)) c, active, refl)
  ends_at Failed before turns f c e =
      let d : Converses old session [] before mid = subst (λ (xs : List Item). Converses old session (items_at moment xs) before mid) f.1 c in
      (f.0, e ∙ append-nil before ∙ d.0, ap (λ n. with_session_closed n session) d.1)

  pub ends_talk : (kind : TalkFaultKind) (why : FrameFaultKind) (before turns : List Turn) → FaultsNow why items state new cut → HasTurns before → EndsWithBye why kind before turns
      → EndsTalk kind old session state (cut_at moment cut) turns (with_session_closed mid session)
  ends_talk (kinds.Framing fault) why before turns f c g =
      subst (λ (w : FrameFaultKind). EndsTalk (kinds.Framing w) old session state (cut_at moment cut) turns (with_session_closed mid session)) (sym g.0) (ends_at why before turns f c g.1)
  ends_talk kinds.NoMemory why before turns f c g = (
    items_at moment items,
    timed_prefix moment items cut.0 (items_before_fault why items state new cut f),
    subst (λ (ts : List Turn). BreaksOff kinds.NoMemory old session (items_at moment items) ts (with_session_closed mid session)) (sym g) (broken_at_end old session (items_at moment items) before mid active c),
  )
  ends_talk kinds.LineRefused why before turns f c g = absurd g

-- no fault of the framer breaks a conversation off
pub no_framing : (fault : FrameFaultKind) (old : NodeState) (session : ℕ) (items : List TimedItem) (turns : List Turn) (new : NodeState) → BreaksOff (kinds.Framing fault) old session items turns new → ⊥
no_framing fault old session [] turns new b = let e : kinds.Framing fault ≡ kinds.NoMemory = b.0 in cc
no_framing fault old session (timed ∷ items) turns new b =
    elim b [
      | inl stop ↦ stop.1
      | inr on ↦ no_framing fault on.1 session items on.4.0 new on.4.2
    ]

-- a conversation that is broken off meets the definition of an end
pub ends_broken_off : (kind : TalkFaultKind) (old : NodeState) (session : ℕ) (state : Result FrameProgress FrameFaultKind) (cut : TimedCut) (items : List TimedItem) (turns : List Turn) (new : NodeState)
    → IsPrefixOf items cut.0 → BreaksOff kind old session items turns new → EndsTalk kind old session state cut turns new
ends_broken_off kinds.NoMemory old session state cut items turns new p b = (items, p, b)
ends_broken_off kinds.LineRefused old session state cut items turns new p b = (items, p, b)
ends_broken_off (kinds.Framing fault) old session state cut items turns new p b = absurd (no_framing fault old session items turns new b)
