-- The forms that a frame is none of, or one of.
use Rattle.std.proofs.Common.{◌≡◌, ◌↔◌, ◌⊎◌, inl, inr, ℕ, Bool, true, false, List, [], ◌∷◌, ◌++◌, codes, Option, Some, None, Result, Ok, Err, refl, sym, ap, ◌∙◌, subst}
use Rattle.std.specs.Prelude.{IfOk, MatchOption}
use Rattle.imap_types.specs.Keywords.{to_lower_case}
use Rattle.imap_syntax.specs.Commands.{IsSpelled}
use Rattle.imap_syntax.specs.Faults.{HasTag, NamesCommand, begins_with_class}
use Rattle.imap_syntax.specs.Languages.{◌⌢◌, sp, word}
use Rattle.imap_syntax.specs.Strings.{is_in, run}
use Rattle.imap_syntax.specs.declared.arguments.ListNames.{ListNames}
use Rattle.imap_syntax.specs.declared.command.Command.{Command}
use Rattle.imap_syntax.specs.declared.command.Command.TheVariants as commands
use Rattle.imap_syntax.specs.declared.command.Tagged.{Tagged}
use Rattle.imap_syntax.specs.declared.octet_class.OctetClass.TheVariants.{Tag, Atom}
use Rattle.imap_answers.specs.declared.answer.Answer.{Answer}
use Rattle.imap_grammar.specs.CommandReading.{tag_at}
use Rattle.imap_grammar.specs.Reading.{named, span}
use Rattle.imap_grammar.specs.declared.fault.ParseFault.{ParseFault}
use Rattle.imap_grammar.specs.declared.fault.ParseFault.TheVariants as faults
use Rattle.imap_grammar.proofs.FrameLaws.{one_reading}
use Rattle.imap_grammar.proofs.ReaderLaws.{some_is}
use Rattle.imap_grammar.proofs.Spans.{span_complete, span_parts, span_stops}
use Rattle.imap_grammar.proofs.WordLaws.{word_atoms}
use Rattle.rev1_front.specs.ClientFrames.{AsksDays, IsCarried, IsCheck, IsCommandFrame, IsFault, IsFaultAnswer, IsFaultOf, IsFetchOfTexts, IsForm, IsFrontForm, IsJoined, IsKeySearch, IsLsub, IsMeant, IsOfFront, IsReason, IsRename, IsSearch, IsSearchRead, IsStatus, IsUidSearch, IsWorded, LsubOfPattern, RenameOf, refusal_of_fault, search_word}
use Rattle.rev1_front.specs.FrameForms.{front_word_text, front_words, reworded}
use Rattle.rev1_front.specs.StatusForms.{HasRecent}
use Rattle.rev1_front.specs.declared.form.Form.{Form}
use Rattle.rev1_front.specs.declared.form.Form.TheVariants as forms
use Rattle.rev1_front.specs.declared.frame_parts.FrontWord.{FrontWord}
use Rattle.rev1_front.specs.declared.search_days.SentDay.{SentDay}
use Rattle.rev1_front.specs.declared.session.Mode.{Mode}
use Rattle.rev1_front.specs.declared.status_frame.OtherItems.{OtherItems}
use Rattle.rev1_front.specs.declared.taken.Taken.{Taken}
use Rattle.rev1_front.specs.declared.taken.Taken.TheVariants as taken
use Rattle.rev1_front.proofs.AuthenticateLemmas.{spaced_front, spaced_same}
use Rattle.rev1_front.proofs.FrameLemmas.{front_word_read, names_spelled, not_spelled, one_rest, one_tag, one_word, reworded_tag, worded_from, worded_span, worded_tag}
use Rattle.rev1_front.proofs.ResultLemmas.{if_ok}
use Rattle.rev1_front.proofs.StatusLemmas.{one_recent}

-- a tagged command from its parts
tagged_is : (tagged : Tagged) (tag : List ℕ) (command : Command) → tagged.tag ≡ tag → tagged.command ≡ command → tagged ≡ record { tag = tag; command = command }
tagged_is tagged tag command t c = λ i. record { tag = t i; command = c i }

-- STATUS
pub status_none : (mode : Mode) (tag rest inner : List ℕ) (only : Bool) → HasRecent rest inner only → ((other : Tagged) → IsSpelled other (reworded tag (codes "STATUS") inner) → ⊥) → (other : Taken) → IsStatus mode tag rest other → ⊥
status_none mode tag rest inner only r none other h =
    none h.2 (subst (λ (x : List ℕ). IsSpelled h.2 (reworded tag (codes "STATUS") x)) (one_recent rest h.0 inner h.1 only h.3 r).0 h.4)

module _ (mode : Mode) (tag rest : List ℕ) (tagged : Tagged) (is : run Tag tag tag) where
  -- LSUB
  module _ (s : IsSpelled tagged (reworded tag (codes "LIST") rest)) where
    pub lsub_none : ((asked : ListNames) → tagged.command ≡ commands.ListNames asked → asked.subscribed_only ≡ false → asked.return_subscribed ≡ false → ⊥) → (other : Taken) → IsLsub mode tag rest other → ⊥
    lsub_none none other h =
        none h.0 (ap (λ (t : Tagged). t.command) (one_reading tagged (record { tag = tag; command = commands.ListNames h.0 }) (reworded tag (codes "LIST") rest) s h.2)) h.3 h.4

    pub lsub_some : (asked : ListNames) (joined : Option (List ℕ)) (it : Taken) → tagged.command ≡ commands.ListNames asked → asked.subscribed_only ≡ false → asked.return_subscribed ≡ false
        → IsJoined mode asked joined → LsubOfPattern tagged.tag joined it → IsLsub mode tag rest it
    lsub_some asked joined it e a b m l =
        let t : tagged.tag ≡ tag = reworded_tag tag (codes "LIST") rest tagged is s in (
          asked,
          joined,
          subst (λ (u : Tagged). IsSpelled u (reworded tag (codes "LIST") rest)) (tagged_is tagged tag (commands.ListNames asked) t e) s,
          a,
          b,
          m,
          subst (λ (u : List ℕ). LsubOfPattern u joined it) t l,
        )

  -- RENAME
  module _ (s : IsSpelled tagged (reworded tag (codes "LOGIN") rest)) where
    pub rename_none : ((old new : List ℕ) → tagged.command ≡ commands.Login old new → ⊥) → (other : Taken) → IsRename mode tag rest other → ⊥
    rename_none none other h =
        none h.0 h.1 (ap (λ (t : Tagged). t.command) (one_reading tagged (record { tag = tag; command = commands.Login h.0 h.1 }) (reworded tag (codes "LOGIN") rest) s h.4))

    pub rename_some : (old new : List ℕ) (from to : Option (List ℕ)) (it : Taken) → tagged.command ≡ commands.Login old new → IsMeant mode old from → IsMeant mode new to → RenameOf tagged.tag from to it → IsRename mode tag rest it
    rename_some old new from to it e m n r =
        let t : tagged.tag ≡ tag = reworded_tag tag (codes "LOGIN") rest tagged is s in (
          old,
          new,
          from,
          to,
          subst (λ (u : Tagged). IsSpelled u (reworded tag (codes "LOGIN") rest)) (tagged_is tagged tag (commands.Login old new) t e) s,
          m,
          n,
          subst (λ (u : List ℕ). RenameOf u from to it) t r,
        )

-- a frame with a word of the front
pub front_none : (mode : Mode) (days : Option (List SentDay)) (frame tag rest : List ℕ) (w : FrontWord) → IsWorded w frame tag rest → ((other : Taken) → IsOfFront mode days frame w tag rest other → ⊥)
    → (other : Taken) → IsFrontForm mode days frame other → ⊥
front_none mode days frame tag rest w h none other f =
    let ew : f.0 ≡ w = one_word frame f.0 w f.1 f.2 tag rest f.3 h in
    let et : f.1 ≡ tag = one_tag frame f.0 w f.1 f.2 tag rest f.3 h in
    let er : f.2 ≡ rest = one_rest frame f.0 w f.1 f.2 tag rest f.3 h in
    none other (subst (λ (r : List ℕ). IsOfFront mode days frame w tag r other) er
    (subst (λ (t : List ℕ). IsOfFront mode days frame w t f.2 other) et
    (subst (λ (v : FrontWord). IsOfFront mode days frame v f.1 f.2 other) ew f.4)))

pub no_front : (mode : Mode) (days : Option (List SentDay)) (frame : List ℕ) → ((w : FrontWord) (tag rest : List ℕ) → IsWorded w frame tag rest → ⊥) → (other : Taken) → IsFrontForm mode days frame other → ⊥
no_front mode days frame none other f = none f.0 f.1 f.2 f.3

-- STATUS with other items
pub status_some : (mode : Mode) (tag rest inner : List ℕ) (only : Bool) (it : Taken) → HasRecent rest inner only
    → (tagged : Tagged) × IsSpelled tagged (reworded tag (codes "STATUS") inner) × IsCarried mode tagged (forms.Status only) it → IsStatus mode tag rest it
status_some mode tag rest inner only it r h = (inner, only, h.0, r, h.1, h.2)

pub status_by : {E : Type 0} (mode : Mode) (tag rest inner : List ℕ) (only : Bool) (r : Result (Option Taken) E) → HasRecent rest inner only
    → IfOk r (λ it. MatchOption it ((other : Tagged) → IsSpelled other (reworded tag (codes "STATUS") inner) → ⊥) (λ taken. (tagged : Tagged) × IsSpelled tagged (reworded tag (codes "STATUS") inner) × IsCarried mode tagged (forms.Status only) taken))
    → IfOk r (λ it. MatchOption it ((other : Taken) → IsStatus mode tag rest other → ⊥) (λ taken. IsStatus mode tag rest taken))
status_by mode tag rest inner only (Err e) r h = h
status_by mode tag rest inner only (Ok None) r h = status_none mode tag rest inner only r h
status_by mode tag rest inner only (Ok (Some it)) r h = status_some mode tag rest inner only it r h

-- LSUB
pub lsub_by : {E : Type 0} (mode : Mode) (tag rest : List ℕ) (tagged : Tagged) (r : Result (Option Taken) E) → run Tag tag tag → IsSpelled tagged (reworded tag (codes "LIST") rest)
    → IfOk r (λ it. MatchOption it ((asked : ListNames) → tagged.command ≡ commands.ListNames asked → asked.subscribed_only ≡ false → asked.return_subscribed ≡ false → ⊥)
    (λ taken. (asked : ListNames) × (joined : Option (List ℕ)) × (tagged.command ≡ commands.ListNames asked) × (asked.subscribed_only ≡ false) × (asked.return_subscribed ≡ false) × IsJoined mode asked joined × LsubOfPattern tagged.tag joined taken))
    → IfOk r (λ it. MatchOption it ((other : Taken) → IsLsub mode tag rest other → ⊥) (λ taken. IsLsub mode tag rest taken))
lsub_by mode tag rest tagged (Err e) is s h = h
lsub_by mode tag rest tagged (Ok None) is s h = lsub_none mode tag rest tagged is s h
lsub_by mode tag rest tagged (Ok (Some it)) is s h = lsub_some mode tag rest tagged is s h.0 h.1 it h.2 h.3 h.4 h.5 h.6

-- RENAME
pub rename_by : {E : Type 0} (mode : Mode) (tag rest : List ℕ) (tagged : Tagged) (r : Result (Option Taken) E) → run Tag tag tag → IsSpelled tagged (reworded tag (codes "LOGIN") rest)
    → IfOk r (λ it. MatchOption it ((old new : List ℕ) → tagged.command ≡ commands.Login old new → ⊥)
    (λ taken. (old new : List ℕ) × (from to : Option (List ℕ)) × (tagged.command ≡ commands.Login old new) × IsMeant mode old from × IsMeant mode new to × RenameOf tagged.tag from to taken))
    → IfOk r (λ it. MatchOption it ((other : Taken) → IsRename mode tag rest other → ⊥) (λ taken. IsRename mode tag rest taken))
rename_by mode tag rest tagged (Err e) is s h = h
rename_by mode tag rest tagged (Ok None) is s h = rename_none mode tag rest tagged is s h
rename_by mode tag rest tagged (Ok (Some it)) is s h = rename_some mode tag rest tagged is s h.0 h.1 h.2 h.3 it h.4 h.5 h.6 h.7

-- a frame with a word of the front, by its form
pub front_by : {E : Type 0} (mode : Mode) (days : Option (List SentDay)) (frame tag rest : List ℕ) (w : FrontWord) (r : Result (Option Taken) E) → IsWorded w frame tag rest
    → IfOk r (λ it. MatchOption it ((other : Taken) → IsOfFront mode days frame w tag rest other → ⊥) (λ taken. IsOfFront mode days frame w tag rest taken))
    → IfOk r (λ it. MatchOption it ((other : Taken) → IsFrontForm mode days frame other → ⊥) (λ front. IsFrontForm mode days frame front))
front_by mode days frame tag rest w (Err e) i h = h
front_by mode days frame tag rest w (Ok None) i h = front_none mode days frame tag rest w i h
front_by mode days frame tag rest w (Ok (Some it)) i h = (w, tag, rest, i, h)

-- UID SEARCH
pub uid_none : (mode : Mode) (days : Option (List SentDay)) (frame tag rest : List ℕ) → ((front back : List ℕ) → (sp ⌢ word (codes "SEARCH")) front → rest ≡ front ++ back → begins_with_class Atom back ≡ false → ⊥)
    → (other : Taken) → IsUidSearch mode days frame tag rest other → ⊥
uid_none mode days frame tag rest none other h = none h.0 h.1 h.2 h.3 h.4

pub uid_back : (mode : Mode) (days : Option (List SentDay)) (frame tag rest front back : List ℕ) → (sp ⌢ word (codes "SEARCH")) front → rest ≡ front ++ back → (it : Taken) → IsUidSearch mode days frame tag rest it → IsSearch mode days frame true tag back it
uid_back mode days frame tag rest front back s e it h =
    subst (λ (r : List ℕ). IsSearch mode days frame true tag r it) (spaced_same (codes "SEARCH") rest front back h.0 h.1 s e h.2 h.3) h.5

pub uid_by : {E : Type 0} (mode : Mode) (days : Option (List SentDay)) (frame tag rest front back : List ℕ) (r : Result (Option Taken) E) → (sp ⌢ word (codes "SEARCH")) front → rest ≡ front ++ back → begins_with_class Atom back ≡ false
    → IfOk r (λ it. MatchOption it ((other : Taken) → IsSearch mode days frame true tag back other → ⊥) (λ taken. IsSearch mode days frame true tag back taken))
    → IfOk r (λ it. MatchOption it ((other : Taken) → IsUidSearch mode days frame tag rest other → ⊥) (λ taken. IsUidSearch mode days frame tag rest taken))
uid_by mode days frame tag rest front back (Err e) s k n h = h
uid_by mode days frame tag rest front back (Ok None) s k n h = λ other u. h other (uid_back mode days frame tag rest front back s k other u)
uid_by mode days frame tag rest front back (Ok (Some it)) s k n h = (front, back, s, k, n, h)

-- the word SEARCH, up to its end
pub search_found : (octets : List ℕ) (cut : List ℕ × List ℕ) → cut ≡ span (is_in Atom) octets → word (codes "SEARCH") cut.0 → (front : List ℕ) × word (codes "SEARCH") front × (octets ≡ front ++ cut.1) × (begins_with_class Atom cut.1 ≡ false)
search_found octets cut e h =
    (cut.0, h, span_parts (is_in Atom) octets ∙ ap (λ (y : List ℕ × List ℕ). y.0 ++ y.1) (sym e), ap (λ (y : List ℕ × List ℕ). begins_with_class Atom y.1) e ∙ span_stops Atom octets)

pub search_missing : (octets : List ℕ) (cut : List ℕ × List ℕ) → cut ≡ span (is_in Atom) octets → (word (codes "SEARCH") cut.0 → ⊥) → (front back : List ℕ) → word (codes "SEARCH") front → octets ≡ front ++ back → begins_with_class Atom back ≡ false → ⊥
search_missing octets cut e none front back h k n =
    let atoms = word_atoms (codes "SEARCH") front refl h in
    let same : cut ≡ (front, back) = e ∙ ap (span (is_in Atom)) k ∙ span_complete Atom front back atoms n in
    none (ap (λ (y : List ℕ × List ℕ). to_lower_case y.0) same ∙ h)

-- a frame that is no command
pub refused_frame : (mode : Mode) (days : Option (List SentDay)) (frame : List ℕ) (why : ParseFault) (answer : Answer) → IsFaultOf frame why → ((why ≡ faults.NoMemory → ⊥) → (other : Taken) → IsFrontForm mode days frame other → ⊥)
    → IsFaultAnswer frame why answer → IsFault mode days frame (taken.Answer answer)
refused_frame mode days frame why answer f none h = elim h [
  | inl n ↦ inl (n.0, ap taken.Answer n.1)
  | inr r ↦ inr (r.0, r.1, refusal_of_fault why, r.2, reason why f none (r.0, r.1, r.2), ap taken.Answer r.3)
]
  where
    reason : (why : ParseFault) → IsFaultOf frame why → ((why ≡ faults.NoMemory → ⊥) → (other : Taken) → IsFrontForm mode days frame other → ⊥) → HasTag frame → IsReason mode days frame (refusal_of_fault why)
    reason faults.NoTag f none has = absurd (f has)
    reason faults.UnknownCommand f none has = ((λ tagged s. f.1 (names_spelled frame tagged s), none (λ k. cc)), f.1)
    reason faults.BadSyntax f none has = ((f.1, none (λ k. cc)), f.0)
    reason faults.NotInProfile f none has = ((f.1, none (λ k. cc)), f.0)
    reason faults.NoMemory f none has = f

-- frames that spell nothing
pub check_none : (tag rest : List ℕ) → ((other : Tagged) → IsSpelled other (reworded tag (codes "NOOP") rest) → ⊥) → (other : Taken) → IsCheck tag rest other → ⊥
check_none tag rest none other h = none h.0 h.1

pub lsub_unread : (mode : Mode) (tag rest : List ℕ) → ((other : Tagged) → IsSpelled other (reworded tag (codes "LIST") rest) → ⊥) → (other : Taken) → IsLsub mode tag rest other → ⊥
lsub_unread mode tag rest none other h = none (record { tag = tag; command = commands.ListNames h.0 }) h.2

pub rename_unread : (mode : Mode) (tag rest : List ℕ) → ((other : Tagged) → IsSpelled other (reworded tag (codes "LOGIN") rest) → ⊥) → (other : Taken) → IsRename mode tag rest other → ⊥
rename_unread mode tag rest none other h = none (record { tag = tag; command = commands.Login h.0 h.1 }) h.4

-- SEARCH after a space
pub after_space_by : {X : Type 0} (now : X → List ℕ) (rest inner : List ℕ) → rest ≡ 32 ∷ inner → (r : Option X)
    → MatchOption r ((front back : List ℕ) → word (codes "SEARCH") front → inner ≡ front ++ back → begins_with_class Atom back ≡ false → ⊥)
    (λ x. (front : List ℕ) × word (codes "SEARCH") front × (inner ≡ front ++ now x) × (begins_with_class Atom (now x) ≡ false))
    → MatchOption r ((front back : List ℕ) → (sp ⌢ word (codes "SEARCH")) front → rest ≡ front ++ back → begins_with_class Atom back ≡ false → ⊥)
    (λ x. (front : List ℕ) × (sp ⌢ word (codes "SEARCH")) front × (rest ≡ front ++ now x) × (begins_with_class Atom (now x) ≡ false))
after_space_by now rest inner e None f = λ front back h k n. f h.1 back h.3 (tail_is inner (h.1 ++ back) (sym e ∙ spaced_front (codes "SEARCH") rest front back h k)) n
  where
    tail_is : (xs ys : List ℕ) → 32 ∷ xs ≡ 32 ∷ ys → xs ≡ ys
    tail_is xs ys p = cc
after_space_by now rest inner e (Some x) f = (32 ∷ f.0, (32 ∷ [], f.0, refl, f.1, refl), e ∙ ap (λ xs. 32 ∷ xs) f.2, f.3)

-- a frame that is no command, by its answer
pub fault_by : {E : Type 0} (r : Result Taken E) (mode : Mode) (days : Option (List SentDay)) (frame : List ℕ) (why : ParseFault) → IsFaultOf frame why → ((why ≡ faults.NoMemory → ⊥) → (other : Taken) → IsFrontForm mode days frame other → ⊥)
    → IfOk r (λ it. (answer : Answer) × IsFaultAnswer frame why answer × (it ≡ taken.Answer answer)) → IfOk r (λ it. IsCommandFrame mode days frame it)
fault_by r mode days frame why f none h = if_ok r _ _ (λ it k. inr (inr (subst (λ (t : Taken). IsFault mode days frame t) (sym k.2) (refused_frame mode days frame why k.0 f none k.1)))) h

-- a frame that spells a command
pub tagged_by : {E : Type 0} (r : Result Taken E) (mode : Mode) (days : Option (List SentDay)) (frame : List ℕ) (tagged : Tagged) (form : Form) → IsSpelled tagged frame → IsForm mode frame tagged.command form
    → IfOk r (λ it. IsCarried mode tagged form it) → IfOk r (λ it. IsCommandFrame mode days frame it)
tagged_by r mode days frame tagged form s f h = if_ok r _ _ (λ it k. inl (tagged, form, s, f, k)) h

-- the parts of a frame, by what was read
pub no_worded : (frame : List ℕ) → None ≡ tag_at frame → (w : FrontWord) (tag rest : List ℕ) → IsWorded w frame tag rest → ⊥
no_worded frame e w tag rest h =
    let k : ◌≡◌ {A = Option (List ℕ × List ℕ)} (Some (tag, h.0 ++ rest)) None = sym (worded_tag frame w tag rest h) ∙ sym e in
    cc

module _ (frame : List ℕ) (tag cut : List ℕ × List ℕ) (e : Some tag ≡ tag_at frame) (c : cut ≡ span (is_in Atom) tag.1) where
  pub unnamed : None ≡ named front_word_text front_words cut.0 → (w : FrontWord) (t rest : List ℕ) → IsWorded w frame t rest → ⊥
  unnamed n w t rest h =
      let same : tag ≡ (t, h.0 ++ rest) = some_is tag (t, h.0 ++ rest) (e ∙ worded_tag frame w t rest h) in
      let read : named front_word_text front_words cut.0 ≡ Some w =
      ap (λ (y : List ℕ × List ℕ). named front_word_text front_words y.0) (c ∙ ap (λ (y : List ℕ × List ℕ). span (is_in Atom) y.1) same ∙ worded_span frame w t rest h) ∙ front_word_read h.0 w h.4 in
      let k : ◌≡◌ {A = Option FrontWord} None (Some w) = n ∙ read in
      cc

  pub worded_by : (w : FrontWord) → Some w ≡ named front_word_text front_words cut.0 → IsWorded w frame tag.0 cut.1
  worded_by w n =
      subst (λ (y : List ℕ × List ℕ). IsWorded w frame tag.0 y.1) (sym c)
      (worded_from frame tag w (sym e) (ap (λ (y : List ℕ × List ℕ). named front_word_text front_words y.0) (sym c) ∙ sym n))

-- what was read, or that nothing was
module _ (frame : List ℕ) (r : Option Tagged) (h : MatchOption r ((other : Tagged) → IsSpelled other frame → ⊥) (λ tagged. IsSpelled tagged frame)) where
  pub spelled_some : (tagged : Tagged) → r ≡ Some tagged → IsSpelled tagged frame
  spelled_some tagged is = subst (λ (o : Option Tagged). MatchOption o ((other : Tagged) → IsSpelled other frame → ⊥) (λ x. IsSpelled x frame)) is h

  pub spelled_none : r ≡ None → (other : Tagged) → IsSpelled other frame → ⊥
  spelled_none is = subst (λ (o : Option Tagged). MatchOption o ((other : Tagged) → IsSpelled other frame → ⊥) (λ x. IsSpelled x frame)) is h

module _ (mode : Mode) (days : Option (List SentDay)) (frame : List ℕ) (r : Option Taken) (h : MatchOption r ((other : Taken) → IsFrontForm mode days frame other → ⊥) (λ it. IsFrontForm mode days frame it)) where
  pub front_form_some : (it : Taken) → r ≡ Some it → IsFrontForm mode days frame it
  front_form_some it is = subst (λ (o : Option Taken). MatchOption o ((other : Taken) → IsFrontForm mode days frame other → ⊥) (λ x. IsFrontForm mode days frame x)) is h

  pub front_form_none : r ≡ None → (other : Taken) → IsFrontForm mode days frame other → ⊥
  front_form_none is = subst (λ (o : Option Taken). MatchOption o ((other : Taken) → IsFrontForm mode days frame other → ⊥) (λ x. IsFrontForm mode days frame x)) is h

module _ (rest : List ℕ) (r : Option OtherItems) (h : MatchOption r ((inner : List ℕ) (only : Bool) → HasRecent rest inner only → ⊥) (λ o. HasRecent rest o.rest.items o.only_recent)) where
  pub recent_some : (others : OtherItems) → r ≡ Some others → HasRecent rest others.rest.items others.only_recent
  recent_some others is = subst (λ (o : Option OtherItems). MatchOption o ((inner : List ℕ) (only : Bool) → HasRecent rest inner only → ⊥) (λ x. HasRecent rest x.rest.items x.only_recent)) is h

  pub recent_none : r ≡ None → (inner : List ℕ) (only : Bool) → HasRecent rest inner only → ⊥
  recent_none is = subst (λ (o : Option OtherItems). MatchOption o ((inner : List ℕ) (only : Bool) → HasRecent rest inner only → ⊥) (λ x. HasRecent rest x.rest.items x.only_recent)) is h

-- a command that is read of octets, or none
module _ (frame given : List ℕ) (e : frame ≡ given) where
  pub spelled_along : (tagged : Tagged) → IsSpelled tagged frame → IsSpelled tagged given
  spelled_along tagged s = subst (λ (x : List ℕ). IsSpelled tagged x) e s

  pub none_by : {E : Type 0} (r : Result (Option Tagged) E) (p : Result Tagged ParseFault) (why : ParseFault)
      → ((tagged : Tagged) → IsSpelled tagged frame → (p ≡ Ok tagged) ⊎ (p ≡ Err faults.NoMemory))
      → (p ≡ Err faults.NoTag) ↔ (HasTag frame → ⊥)
      → (p ≡ Err faults.UnknownCommand) ↔ (HasTag frame × (NamesCommand frame → ⊥))
      → p ≡ Err why → IfOk r (λ it. (it ≡ None) × (why ≡ faults.NoMemory → ⊥))
      → IfOk r (λ it. MatchOption it ((other : Tagged) → IsSpelled other given → ⊥) (λ tagged. IsSpelled tagged given))
  none_by r p why only none unknown is h =
      if_ok r _ _ (λ it k. subst (λ (o : Option Tagged). MatchOption o ((other : Tagged) → IsSpelled other given → ⊥) (λ tagged. IsSpelled tagged given)) (sym k.0)
      (λ other s. not_spelled frame p only none unknown why is k.1 other (subst (λ (x : List ℕ). IsSpelled other x) (sym e) s))) h

-- nothing is read of the same octets
pub none_along : (frame given : List ℕ) → frame ≡ given → ((other : Tagged) → IsSpelled other frame → ⊥) → (other : Tagged) → IsSpelled other given → ⊥
none_along frame given e none other s = none other (subst (λ (x : List ℕ). IsSpelled other x) (sym e) s)

-- days that are asked for
pub asks_none : (by_uid : Bool) (tag rest : List ℕ) → ((other : Tagged) → IsSpelled other (reworded tag (search_word by_uid) rest) → ⊥) → (other : Taken) → AsksDays by_uid tag rest other → ⊥
asks_none by_uid tag rest none other a = none a.0 a.2

pub asks_by : {E : Type 0} (r : Result (Option Taken) E) (by_uid : Bool) (tag rest : List ℕ) (tagged : Tagged) → IsSpelled tagged (reworded tag (search_word by_uid) rest)
    → IfOk r (λ it. MatchOption it ((fetch : Tagged) → IsFetchOfTexts tag fetch → ⊥) (λ t. (fetch : Tagged) × IsFetchOfTexts tag fetch × (t ≡ taken.AsksDays fetch)))
    → IfOk r (λ it. MatchOption it ((other : Taken) → AsksDays by_uid tag rest other → ⊥) (λ taken. AsksDays by_uid tag rest taken))
asks_by (Err e) by_uid tag rest tagged s h = h
asks_by (Ok None) by_uid tag rest tagged s h = λ other a. h a.1 a.3
asks_by (Ok (Some it)) by_uid tag rest tagged s h = (tagged, h.0, s, h.1, h.2)

pub keys_none : (mode : Mode) (frame : List ℕ) (by_uid : Bool) (tag rest : List ℕ) → ((other : Tagged) → IsSpelled other (reworded tag (search_word by_uid) rest) → ⊥) → (other : Taken) → IsKeySearch mode frame by_uid tag rest other → ⊥
keys_none mode frame by_uid tag rest none other k = none k.0 k.2

-- a search, by the arguments that were read
module _ {E : Type 0} (r : Result (Option Taken) E) (mode : Mode) (frame : List ℕ) (by_uid : Bool) (tag items : List ℕ) (given : Option (List ℕ × Bool)) where
  pub dated_by : (days : List SentDay) (asks : Bool) → Some (items, asks) ≡ given
      → IfOk r (λ it. MatchOption it ((other : Taken) → IsKeySearch mode frame by_uid tag items other → ⊥) (λ taken. IsKeySearch mode frame by_uid tag items taken))
      → IfOk r (λ it. MatchOption it ((other : Taken) → IsSearchRead mode (Some days) frame by_uid tag given other → ⊥) (λ taken. IsSearchRead mode (Some days) frame by_uid tag given taken))
  dated_by days asks e h =
      subst (λ (g : Option (List ℕ × Bool)). IfOk r (λ it. MatchOption it ((other : Taken) → IsSearchRead mode (Some days) frame by_uid tag g other → ⊥) (λ taken. IsSearchRead mode (Some days) frame by_uid tag g taken))) e h

  pub undated_by : Some (items, false) ≡ given
      → IfOk r (λ it. MatchOption it ((other : Taken) → IsKeySearch mode frame by_uid tag items other → ⊥) (λ taken. IsKeySearch mode frame by_uid tag items taken))
      → IfOk r (λ it. MatchOption it ((other : Taken) → IsSearchRead mode None frame by_uid tag given other → ⊥) (λ taken. IsSearchRead mode None frame by_uid tag given taken))
  undated_by e h =
      subst (λ (g : Option (List ℕ × Bool)). IfOk r (λ it. MatchOption it ((other : Taken) → IsSearchRead mode None frame by_uid tag g other → ⊥) (λ taken. IsSearchRead mode None frame by_uid tag g taken))) e h

  pub days_by : Some (items, true) ≡ given
      → IfOk r (λ it. MatchOption it ((other : Taken) → AsksDays by_uid tag items other → ⊥) (λ taken. AsksDays by_uid tag items taken))
      → IfOk r (λ it. MatchOption it ((other : Taken) → IsSearchRead mode None frame by_uid tag given other → ⊥) (λ taken. IsSearchRead mode None frame by_uid tag given taken))
  days_by e h =
      subst (λ (g : Option (List ℕ × Bool)). IfOk r (λ it. MatchOption it ((other : Taken) → IsSearchRead mode None frame by_uid tag g other → ⊥) (λ taken. IsSearchRead mode None frame by_uid tag g taken))) e h

pub search_along : {E : Type 0} (r : Result (Option Taken) E) (mode : Mode) (d e : Option (List SentDay)) (frame : List ℕ) (by_uid : Bool) (tag rest : List ℕ) → d ≡ e
    → IfOk r (λ it. MatchOption it ((other : Taken) → IsSearch mode d frame by_uid tag rest other → ⊥) (λ taken. IsSearch mode d frame by_uid tag rest taken))
    → IfOk r (λ it. MatchOption it ((other : Taken) → IsSearch mode e frame by_uid tag rest other → ⊥) (λ taken. IsSearch mode e frame by_uid tag rest taken))
search_along r mode d e frame by_uid tag rest same h =
    subst (λ (o : Option (List SentDay)). IfOk r (λ it. MatchOption it ((other : Taken) → IsSearch mode o frame by_uid tag rest other → ⊥) (λ taken. IsSearch mode o frame by_uid tag rest taken))) same h

-- a form of the front, by its word
pub worded_along : {E : Type 0} (r : Result (Option Taken) E) (mode : Mode) (days : Option (List SentDay)) (frame tag rest : List ℕ) (v w : FrontWord) → v ≡ w
    → IfOk r (λ it. MatchOption it ((other : Taken) → IsOfFront mode days frame v tag rest other → ⊥) (λ taken. IsOfFront mode days frame v tag rest taken))
    → IfOk r (λ it. MatchOption it ((other : Taken) → IsOfFront mode days frame w tag rest other → ⊥) (λ taken. IsOfFront mode days frame w tag rest taken))
worded_along r mode days frame tag rest v w same h =
    subst (λ (x : FrontWord). IfOk r (λ it. MatchOption it ((other : Taken) → IsOfFront mode days frame x tag rest other → ⊥) (λ taken. IsOfFront mode days frame x tag rest taken))) same h
