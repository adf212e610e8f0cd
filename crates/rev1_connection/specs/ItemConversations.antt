-- Conversations over items and over the octets that spell them, by what is done with one item.

use Rattle.std.specs.Prelude.{◌≡◌, ◌⊎◌, ℕ, Bool, true, List, [], ◌∷◌, ◌++◌, Err, IsOk}
use Rattle.imap_lex.specs.Framing.{Cut, IsPrefix}
use Rattle.imap_lex.specs.declared.fault.FrameFaultKind.{FrameFaultKind}
use Rattle.imap_lex.specs.declared.fault.FrameFaultKind.TheVariants.{LineTooLong, LiteralTooLong}
use Rattle.imap_lex.specs.declared.fault.FrameFaultKind.TheVariants.{NulByte}
use Rattle.imap_lex.specs.declared.fault.FrameFaultKind.TheVariants.{NoMemory as NoRoomForItem}
use Rattle.imap_lex.specs.declared.fault.FrameFaultKind.TheVariants.{Failed}
use Rattle.imap_lex.specs.declared.item.Item.{Item}
use Rattle.imap_connection.specs.declared.end_reason.Ended.{Ended}
use Rattle.imap_connection.specs.declared.end_reason.Ended.TheVariants.{PeerClosed}
use Rattle.imap_connection.specs.declared.end_reason.Ended.TheVariants.{Framing}
use Rattle.imap_connection.specs.declared.end_reason.Ended.TheVariants.{ReadFailed}
use Rattle.imap_connection.specs.declared.end_reason.Ended.TheVariants.{WriteFailed}

-- `answers` relates the port and the session before an item, what is shown, and the port and the
-- session after it; `stops` says how a conversation ends at an item, after which text.
module _ {S A : Type 0} (answers : S → A → Item → List ℕ → S → A → Type 0)
    (stops : S → A → Item → Ended → List ℕ → S → Type 0) where
  -- Items are answered, one after another, and none ends the conversation; `output` is all that is
  -- shown.
  abbrev pub Converses : S → A → List Item → List ℕ → S → A → Type 0
  Converses old session [] output new after = (output ≡ []) × (new ≡ old) × (after ≡ session)
  Converses old session (item ∷ items) output new after =
      (given : List ℕ) × (mid : S) × (between : A) × (rest : List ℕ)
      × answers old session item given mid between
      × (output ≡ given ++ rest)
      × Converses mid between items rest new after

  -- The conversation over these items ends at one of them, after those before it.
  pub record EndsAtItem (old : S) (session : A) (items : List Item) (ended : Ended)
      (output : List ℕ) (new : S) : Type 0 where
    pub front : List Item
    pub item : Item
    pub back : List Item
    pub before : List ℕ
    pub mid : S
    pub between : A
    pub given : List ℕ
    pub items_are : items ≡ front ++ item ∷ back
    pub answered : Converses old session front before mid between
    pub stopped : stops mid between item ended given new
    pub output_is : output ≡ before ++ given

  -- Items were answered, and the conversation continued.
  pub record HasAnswered (old : S) (session : A) (items : List Item) (output : List ℕ) (new : S)
      : Type 0 where
    pub after : A
    pub answered : Converses old session items output new after

  -- Some of the first of these items were answered, and the conversation continued.
  pub record HasAnsweredSome (old : S) (session : A) (items : List Item) (output : List ℕ)
      (new : S) : Type 0 where
    pub front : List Item
    pub first : IsPrefix front items
    pub answered_front : HasAnswered old session front output new

  -- The octets can't be cut any further, for this reason: the items before the fault were answered;
  -- or memory ran out, and some of the first items were answered.
  abbrev pub IsCut : S → A → Cut → FrameFaultKind → List ℕ → S → Type 0
  IsCut old session cut NoRoomForItem output new = HasAnsweredSome old session cut.0 output new
  IsCut old session cut Failed output new = ⊥
  IsCut old session cut LineTooLong output new =
      (cut.1 ≡ Err LineTooLong) × HasAnswered old session cut.0 output new
  IsCut old session cut LiteralTooLong output new =
      (cut.1 ≡ Err LiteralTooLong) × HasAnswered old session cut.0 output new
  IsCut old session cut NulByte output new =
      (cut.1 ≡ Err NulByte) × HasAnswered old session cut.0 output new

  -- The conversation over the items that octets give ends: the octets can't be cut any further; or
  -- it ends at an item.
  abbrev pub EndsOverCut : S → A → Cut → Ended → List ℕ → S → Type 0
  EndsOverCut old session cut ended output new =
      ((why : FrameFaultKind) × (ended ≡ Framing why) × IsCut old session cut why output new)
      ⊎ EndsAtItem old session cut.0 ended output new

  -- The conversation over the items that all octets give ends: the source reported its end, or a
  -- read failed, or a write failed, after all items; or the octets end it.
  abbrev pub EndsOverOctets : S → A → Cut → Ended → Bool → List ℕ → S → Type 0
  EndsOverOctets old session cut ended at_end output new =
      ((ended ≡ PeerClosed) × (at_end ≡ true) × IsOk cut.1
      × HasAnswered old session cut.0 output new)
      ⊎ (((ended ≡ ReadFailed) × IsOk cut.1 × HasAnswered old session cut.0 output new)
      ⊎ (((ended ≡ WriteFailed) × IsOk cut.1 × HasAnswered old session cut.0 output new)
      ⊎ EndsOverCut old session cut ended output new))
