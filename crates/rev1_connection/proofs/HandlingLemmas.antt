use Rattle.std.proofs.Common.{◌≡◌, ◌⊎◌, inl, inr, ℕ, Bool, true, false, List, [], ◌++◌, Option, Some, None, Result, Ok, Err, OnOk, refl, sym, ap, ◌∙◌, subst, append_assoc, append-nil}
use Rattle.std.specs.Prelude.{IfErr, IfOk}
use Rattle.imap_connection.proofs.ConversationsLemmas.{output-append, output_held, last_output_after}
use Rattle.imap_connection.specs.Devices.{IsOutput}
use Rattle.imap_connection.specs.EndReasons.{IsLastOutput}
use Rattle.imap_connection.specs.declared.end_reason.Ended.{Ended}
use Rattle.imap_connection.specs.declared.end_reason.Ended.TheVariants.{NoMemory}
use Rattle.rev1_connection.specs.Handling.{EndsBy, IsUnasked, StopsBy}
use Rattle.rev1_connection.specs.TakingSteps.{EndsAtReply, Gives, IsShownOf, Takes}
use Rattle.rev1_connection.specs.declared.reply_writer.UnshownReply.{UnshownReply}
use Rattle.rev1_connection.specs.declared.session.FrontSession.{FrontSession}

-- ---- results

pub ok_map : {A E : Type 0} {P Q : A → Type 0} (r : Result A E) → IfOk r P → ((value : A) → P value → Q value) → IfOk r Q
ok_map (Ok value) h f = f value h
ok_map (Err fault) h f = tt

pub err_map : {A E : Type 0} {P Q : E → Type 0} (r : Result A E) → IfErr r P → ((fault : E) → P fault → Q fault) → IfErr r Q
err_map (Ok value) h f = tt
err_map (Err fault) h f = f fault h

pub on_map : {T E P Q : Type 0} (r : Result T E) → OnOk r P → (P → Q) → OnOk r Q
on_map (Ok x) h f = f h
on_map (Err e) h f = tt

-- a statement that is true is true at a value
pub on_each : {T E P : Type 0} (r : Result T E) → P → OnOk r P
on_each (Ok x) p = p
on_each (Err e) p = tt

-- a line is added, and the session becomes another
pub challenged : {S T E : Type 0} (r : Result T E) (line : List ℕ) (after session : FrontSession) (port : S) → OnOk r (after ≡ session) → OnOk r ((line ≡ line) × (port ≡ port) × (after ≡ session) × (◌≡◌ {A = Bool} false false))
challenged (Ok x) line after session port h = (refl, refl, h, refl)
challenged (Err e) line after session port h = tt

-- ---- from one handling to another

module _ {S : Type 0} (first other : Bool → List ℕ → S → FrontSession → Bool → Type 0) where
  -- what is handled otherwise, after this text
  pub takes_after : (u : Option UnshownReply) (news text mid longer : List ℕ) (new : S) (session : FrontSession) → mid ≡ text ++ news
      → ((whole : Bool) (given : List ℕ) (out : Bool) → first whole given new session out → other whole (news ++ given) new session out)
      → Takes first u mid new session longer → Takes other u text new session longer
  takes_after None news text mid longer new session e f t =
      (news ++ t.0, f true t.0 false t.1, t.2 ∙ ap (λ x. x ++ t.0) e ∙ append_assoc text news t.0)
  takes_after (Some u) news text mid longer new session e f t = (
    news ++ t.0,
    t.1 ∙ ap (λ x. x ++ t.0) e ∙ append_assoc text news t.0,
    λ whole given s. subst (λ (x : List ℕ). other whole x new session u.leaves) (sym (append_assoc news t.0 given)) (f whole (t.0 ++ given) u.leaves (t.2 whole given s)),
  )

  pub takes_map : (u : Option UnshownReply) (text longer : List ℕ) (new : S) (session : FrontSession)
      → ((whole : Bool) (given : List ℕ) (out : Bool) → first whole given new session out → other whole given new session out)
      → Takes first u text new session longer → Takes other u text new session longer
  takes_map None text longer new session f t = (t.0, f true t.0 false t.1, t.2)
  takes_map (Some u) text longer new session f t = (t.0, t.1, λ whole given s. f whole (t.0 ++ given) u.leaves (t.2 whole given s))

  module _ (fails others : Ended → List ℕ → S → Type 0) where
    pub ends_map : (ended : Ended) (text longer : List ℕ) (new : S)
        → ((whole : Bool) (session : FrontSession) (out : Bool) → first whole text new session out → other whole longer new session out)
        → (fails ended text new → others ended longer new) → EndsBy first fails ended text new → EndsBy other others ended longer new
    ends_map ended text longer new f g h =
        elim h [
          | inl logout ↦ inl (logout.0, logout.1, f true logout.0 true logout.2)
          | inr more ↦ elim more [
            | inl lost ↦ inr (inl (lost.0, lost.1, lost.2, f true lost.0 lost.1 lost.3))
            | inr rest ↦ elim rest [
              | inl broken ↦ inr (inr (inl (broken.0, broken.1, broken.2, f false broken.0 broken.1 broken.3)))
              | inr failed ↦ inr (inr (inr (g failed)))
            ]
          ]
        ]

    pub stops_map : (old : S) (ended : Ended) (text : List ℕ) (new : S)
        → ((whole : Bool) (session : FrontSession) (out : Bool) → first whole text new session out → other whole text new session out)
        → (fails ended text new → others ended text new) → StopsBy first fails old ended text new → StopsBy other others old ended text new
    stops_map old ended text new f g h = elim h [ inl unasked ↦ inl unasked | inr ends ↦ inr (ends_map ended text text new f g ends) ]

-- ---- results of the steps

module _ {S : Type 0} (handles : Bool → List ℕ → S → FrontSession → Bool → Type 0) where
  -- a line is added
  pub line_ok : (r : Result (Option UnshownReply) Ended) (line before after : List ℕ) (new : S) (session : FrontSession)
      → OnOk r (handles true line new session false) → OnOk r (after ≡ before ++ line) → IfOk r (λ u. u ≡ None) → IfOk r (λ u. Takes handles u before new session after)
  line_ok (Ok u) line before after new session h e n = subst (λ (x : Option UnshownReply). Takes handles x before new session after) (sym n) (line, h, e)
  line_ok (Err ended) line before after new session h e n = tt

  -- a reply is given
  pub gives_takes : (r : Result (Option UnshownReply) Ended) (text : List ℕ) (new : S) (session : FrontSession)
      → IfOk r (Gives handles new session) → IfOk r (λ u. Takes handles u text new session text)
  gives_takes (Ok (Some u)) text new session g = ([], sym (append-nil text), g)
  gives_takes (Ok None) text new session g = absurd g
  gives_takes (Err ended) text new session g = tt

  module _ (fails : Ended → List ℕ → S → Type 0) where
    -- memory ran out for a line
    pub line_err : (r : Result (Option UnshownReply) Ended) (old : S) (before after : List ℕ)
        → IfErr r (λ ended. (ended ≡ NoMemory) × (after ≡ before)) → IfErr r (λ ended. (given : List ℕ) × StopsBy handles fails old ended given old × (after ≡ before ++ given))
    line_err (Ok u) old before after o = tt
    line_err (Err ended) old before after o = ([], inl (o.0, refl, refl), o.1 ∙ sym (append-nil before))

    -- there is no reply
    pub gives_err : (r : Result (Option UnshownReply) Ended) (old : S) (text : List ℕ) (new : S)
        → IfErr r (λ ended. IsUnasked old ended [] new ⊎ fails ended [] new) → IfErr r (λ ended. (given : List ℕ) × StopsBy handles fails old ended given new × (text ≡ text ++ given))
    gives_err (Ok u) old text new o = tt
    gives_err (Err ended) old text new o = ([], elim o [ inl unasked ↦ inl unasked | inr failed ↦ inr (inr (inr (inr failed))) ], sym (append-nil text))

    pub fails_err : (r : Result (Option UnshownReply) Ended) (old : S) (text : List ℕ) (new : S)
        → IfErr r (λ ended. fails ended [] new) → IfErr r (λ ended. (given : List ℕ) × StopsBy handles fails old ended given new × (text ≡ text ++ given))
    fails_err (Ok u) old text new o = tt
    fails_err (Err ended) old text new o = ([], inr (inr (inr (inr o))), sym (append-nil text))

-- ---- the reply is shown

module _ {S : Type 0} (handles : Bool → List ℕ → S → FrontSession → Bool → Type 0) where
  pub shown_whole : (k l : Option (List ℕ)) (held text left : List ℕ) (u : UnshownReply) (given : List ℕ) (new : S) (session : FrontSession) → Takes handles (Some u) held new session text → IsShownOf true u given → u.leaves ≡ false → IsOutput k text given l left
      → (all : List ℕ) × handles true all new session false × IsOutput k held all l left
  shown_whole k l held text left u given new session t s o w = (
    t.0 ++ given,
    subst (λ (out : Bool). handles true (t.0 ++ given) new session out) o (t.2 true given s),
    output-append k k l held t.0 text given left (output_held k held t.0 text t.1) w,
  )

  pub shown_already : (k : Option (List ℕ)) (held text : List ℕ) (new : S) (session : FrontSession) → Takes handles None held new session text → (all : List ℕ) × handles true all new session false × IsOutput k held all k text
  shown_already k held text new session t = (t.0, t.1, output_held k held t.0 text t.2)

  pub shown_end : (fails : Ended → List ℕ → S → Type 0) (k l : Option (List ℕ)) (held text left : List ℕ) (old : S) (u : UnshownReply) (ended : Ended) (given : List ℕ) (new : S) (session : FrontSession)
      → Takes handles (Some u) held new session text → EndsAtReply ended u given → IsLastOutput ended k text given l left
      → (all : List ℕ) × StopsBy handles fails old ended all new × IsLastOutput ended k held all l left
  shown_end fails k l held text left old u ended given new session t e w = (
    t.0 ++ given,
    inr (elim e [
      | inl logout ↦ inl (session, logout.0, subst (λ (out : Bool). handles true (t.0 ++ given) new session out) logout.1 (t.2 true given logout.2))
      | inr broken ↦ inr (inr (inl (session, u.leaves, broken.0, t.2 false given broken.1)))
    ]),
    last_output_after ended k k l held t.0 text given left (output_held k held t.0 text t.1) w,
  )
