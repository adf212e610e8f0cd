-- A frame with a search of IMAP4rev1 is taken as that search.
use Rattle.std.proofs.Common.{◌≡◌, ◌⊎◌, inl, inr, ℕ, Bool, true, false, List, [], ◌∷◌, ◌++◌, codes, Option, Some, refl, sym, ap, ◌∙◌, subst, append_assoc}
use Rattle.imap_syntax.specs.Commands.{IsSpelled}
use Rattle.imap_syntax.specs.Faults.{IsTagged, begins_with_class}
use Rattle.imap_syntax.specs.Keys.{charset, return_options, search_keys}
use Rattle.imap_syntax.specs.Languages.{◌⌢◌, sp}
use Rattle.imap_syntax.specs.Strings.{run}
use Rattle.imap_syntax.specs.declared.command.Command.TheVariants as commands
use Rattle.imap_syntax.specs.declared.command.Tagged.{Tagged}
use Rattle.imap_syntax.specs.declared.octet_class.OctetClass.TheVariants.{Atom, Tag}
use Rattle.imap_syntax.specs.declared.search.SearchOption.{SearchOption}
use Rattle.imap_syntax.specs.declared.search.SearchStep.{SearchStep}
use Rattle.imap_answers.specs.declared.answer.Answer.TheVariants as answers
use Rattle.imap_answers.specs.declared.fixed_words.Refusal.{Refusal}
use Rattle.imap_answers.specs.declared.fixed_words.Refusal.TheVariants as refusals
use Rattle.imap_grammar.proofs.FrameLaws.{one_reading}
use Rattle.imap_grammar.proofs.WordLaws.{word_atoms}
use Rattle.rev1_front.specs.ClientFrames.{IsCommandFrame, IsForm, IsFrontForm, IsKeySearch, IsOfFront, IsReason, IsSearchRead, IsWorded, search_word}
use Rattle.rev1_front.specs.FrameForms.{reworded}
use Rattle.rev1_front.specs.Rev1Keys.{HaveUids, IsSearchFrame, rev1_arguments, search_command, search_letters}
use Rattle.rev1_front.specs.SearchReading.{search_read}
use Rattle.rev1_front.specs.declared.form.Form.{Form}
use Rattle.rev1_front.specs.declared.form.Form.TheVariants as forms
use Rattle.rev1_front.specs.declared.frame_parts.FrontWord.{FrontWord}
use Rattle.rev1_front.specs.declared.frame_parts.FrontWord.TheVariants as words
use Rattle.rev1_front.specs.declared.search_days.SentDay.{SentDay}
use Rattle.rev1_front.specs.declared.session.Mode.{Mode}
use Rattle.rev1_front.specs.declared.session.Mode.TheVariants as modes
use Rattle.rev1_front.specs.declared.taken.Taken.{Taken}
use Rattle.rev1_front.specs.declared.taken.Taken.TheVariants as taken
use Rattle.rev1_front.proofs.ClientLemmas.{uid_back}
use Rattle.rev1_front.proofs.FrameLemmas.{one_rest, one_tag, one_word}
use Rattle.rev1_front.proofs.SearchArgLemmas.{search_taken}

-- the command of the profile is spelled so
pub search_spelled : (by_uid : Bool) (tag inner : List ℕ) (options : List SearchOption) (steps : List SearchStep) → run Tag tag tag → (sp ⌢ return_options options ⌢ charset ⌢ search_keys steps) inner
    → IsSpelled (search_command tag by_uid options steps) (reworded tag (search_word by_uid) (inner ++ codes "\r\n"))
search_spelled false tag inner options steps t s =
    (tag, 32 ∷ (codes "SEARCH" ++ (inner ++ codes "\r\n")), t, (32 ∷ [], codes "SEARCH" ++ (inner ++ codes "\r\n"), refl, (codes "SEARCH" ++ inner, codes "\r\n", (codes "SEARCH", inner, refl, ([], inner, refl, s, refl), refl), refl, refl), refl), refl)
search_spelled true tag inner options steps t s =
    (tag, 32 ∷ (codes "UID SEARCH" ++ (inner ++ codes "\r\n")), t, (32 ∷ [], codes "UID SEARCH" ++ (inner ++ codes "\r\n"), refl, (codes "UID SEARCH" ++ inner, codes "\r\n", (codes "UID", codes " SEARCH" ++ inner, refl, (codes " SEARCH", inner, (codes " ", codes "SEARCH", refl, refl, refl), s, refl), refl), refl, refl), refl), refl)

-- arguments begin with a space
pub args_space : (days : List SentDay) (options : List SearchOption) (steps : List SearchStep) (args more : List ℕ) → rev1_arguments days options steps args → begins_with_class Atom (args ++ more) ≡ false
args_space days options steps args more h = ap (λ xs. begins_with_class Atom (xs ++ more)) (h.4 ∙ ap (λ xs. xs ++ h.1) h.2)

module _ (mode : Mode) (days : List SentDay) (by_uid : Bool) (tag frame : List ℕ) (options : List SearchOption) (steps : List SearchStep) where
  abbrev pub IsTakenSearch : Taken → Type 0
  IsTakenSearch it = (form : Form) × IsForm mode frame (commands.Search (record { by_uid = by_uid; options = options; steps = steps })) form × (it ≡ taken.Command (search_command tag by_uid options steps) form)

  -- what is read is that search
  pub key_search : (inner : List ℕ) (it : Taken) → IsSpelled (search_command tag by_uid options steps) (reworded tag (search_word by_uid) inner) → IsKeySearch mode frame by_uid tag inner it → IsTakenSearch it
  key_search inner it s k =
      let same : k.0 ≡ search_command tag by_uid options steps = one_reading k.0 (search_command tag by_uid options steps) (reworded tag (search_word by_uid) inner) k.2 s in
      (k.1, subst (λ (t : Tagged). IsForm mode frame t.command k.1) same k.3, k.4 ∙ ap (λ (t : Tagged). taken.Command t k.1) same)

  -- a frame with it isn't refused
  pub some_search : (inner : List ℕ) → IsSpelled (search_command tag by_uid options steps) (reworded tag (search_word by_uid) inner) → ((it : Taken) → IsKeySearch mode frame by_uid tag inner it → ⊥) → ⊥
  some_search inner s none = by_mode mode s none
    where
      by_mode : (m : Mode) → IsSpelled (search_command tag by_uid options steps) (reworded tag (search_word by_uid) inner) → ((it : Taken) → IsKeySearch m frame by_uid tag inner it → ⊥) → ⊥
      by_mode modes.Rev2 s none = none (taken.Command (search_command tag by_uid options steps) forms.Plain) (search_command tag by_uid options steps, forms.Plain, s, refl, refl)
      by_mode modes.Rev1 s none =
          none (taken.Command (search_command tag by_uid options steps) forms.Search)
          (search_command tag by_uid options steps, forms.Search, s, (λ a. none (taken.Command (search_command tag by_uid options steps) forms.Plain) (search_command tag by_uid options steps, forms.Plain, s, a, refl)), refl)

-- a frame of the front has one form
pub front_is : (mode : Mode) (days : Option (List SentDay)) (frame tag rest : List ℕ) (w : FrontWord) → IsWorded w frame tag rest → (it : Taken) → IsFrontForm mode days frame it → IsOfFront mode days frame w tag rest it
front_is mode days frame tag rest w h it f =
    let ew : f.0 ≡ w = one_word frame f.0 w f.1 f.2 tag rest f.3 h in
    let et : f.1 ≡ tag = one_tag frame f.0 w f.1 f.2 tag rest f.3 h in
    let er : f.2 ≡ rest = one_rest frame f.0 w f.1 f.2 tag rest f.3 h in
    subst (λ (r : List ℕ). IsOfFront mode days frame w tag r it) er
    (subst (λ (t : List ℕ). IsOfFront mode days frame w t f.2 it) et
    (subst (λ (v : FrontWord). IsOfFront mode days frame v f.1 f.2 it) ew f.4))

module _ (mode : Mode) (days : List SentDay) (tag frame args inner : List ℕ) (asks : Bool) (read : search_read days (args ++ codes "\r\n") ≡ Some (inner ++ codes "\r\n", asks)) (ends : begins_with_class Atom (args ++ codes "\r\n") ≡ false) where
  keys_from : (by_uid : Bool) (it : Taken) → IsSearchRead mode (Some days) frame by_uid tag (search_read days (args ++ codes "\r\n")) it → IsKeySearch mode frame by_uid tag (inner ++ codes "\r\n") it
  keys_from by_uid it s = subst (λ r. IsSearchRead mode (Some days) frame by_uid tag r it) read s

  keys_to : (by_uid : Bool) (it : Taken) → IsKeySearch mode frame by_uid tag (inner ++ codes "\r\n") it → IsSearchRead mode (Some days) frame by_uid tag (search_read days (args ++ codes "\r\n")) it
  keys_to by_uid it k = subst (λ r. IsSearchRead mode (Some days) frame by_uid tag r it) (sym read) k

  -- the word of the frame, and what follows it
  pub search_worded : (letters : List ℕ) → search_letters false letters → IsTagged frame tag (letters ++ (args ++ codes "\r\n")) → IsWorded words.Search frame tag (args ++ codes "\r\n")
  search_worded letters l t = (letters, t, word_atoms (codes "SEARCH") letters refl l, ends, l)

  pub uid_worded : (letters : List ℕ) (l : search_letters true letters) → IsTagged frame tag (letters ++ (args ++ codes "\r\n")) → IsWorded words.Uid frame tag (l.1 ++ (args ++ codes "\r\n"))
  uid_worded letters l t =
      let s = l.3 in
      let e : frame ≡ tag ++ 32 ∷ (l.0 ++ (l.1 ++ (args ++ codes "\r\n"))) = t.1 ∙ ap (λ xs. tag ++ 32 ∷ xs) (ap (λ xs. xs ++ (args ++ codes "\r\n")) l.4 ∙ append_assoc l.0 l.1 (args ++ codes "\r\n")) in
      let n : begins_with_class Atom (l.1 ++ (args ++ codes "\r\n")) ≡ false = ap (λ xs. begins_with_class Atom (xs ++ (args ++ codes "\r\n"))) (s.4 ∙ ap (λ xs. xs ++ s.1) s.2) in
      (l.0, (t.0, e), word_atoms (codes "UID") l.0 refl l.2, n, l.2)

  front_keys : (by_uid : Bool) (letters : List ℕ) → search_letters by_uid letters → IsTagged frame tag (letters ++ (args ++ codes "\r\n")) → (it : Taken) → IsFrontForm mode (Some days) frame it → IsKeySearch mode frame by_uid tag (inner ++ codes "\r\n") it
  front_keys false letters l t it f = keys_from false it (front_is mode (Some days) frame tag (args ++ codes "\r\n") words.Search (search_worded letters l t) it f)
  front_keys true letters l t it f =
      keys_from true it (uid_back mode (Some days) frame tag (l.1 ++ (args ++ codes "\r\n")) l.1 (args ++ codes "\r\n") l.3 refl it
      (front_is mode (Some days) frame tag (l.1 ++ (args ++ codes "\r\n")) words.Uid (uid_worded letters l t) it f))

  keys_front : (by_uid : Bool) (letters : List ℕ) → search_letters by_uid letters → IsTagged frame tag (letters ++ (args ++ codes "\r\n")) → (it : Taken) → IsKeySearch mode frame by_uid tag (inner ++ codes "\r\n") it → IsFrontForm mode (Some days) frame it
  keys_front false letters l t it k = (words.Search, tag, args ++ codes "\r\n", search_worded letters l t, keys_to false it k)
  keys_front true letters l t it k = (words.Uid, tag, l.1 ++ (args ++ codes "\r\n"), uid_worded letters l t, (l.1, args ++ codes "\r\n", l.3, refl, ends, keys_to true it k))

-- a frame that is refused has no memory, if it is some form
pub refused_only : (mode : Mode) (days : Option (List SentDay)) (frame tag : List ℕ) (it : Taken) → (((other : Taken) → IsFrontForm mode days frame other → ⊥) → ⊥) → (reason : Refusal) → IsReason mode days frame reason
    → it ≡ taken.Answer (answers.Refused tag reason) → (tag : List ℕ) × (it ≡ taken.Answer (answers.Refused tag refusals.NoMemory))
refused_only mode days frame tag it some refusals.NoSuchMailbox h e = absurd h
refused_only mode days frame tag it some refusals.NoDestination h e = absurd h
refused_only mode days frame tag it some refusals.MailboxExists h e = absurd h
refused_only mode days frame tag it some refusals.NameNotAllowed h e = absurd h
refused_only mode days frame tag it some refusals.InboxStays h e = absurd h
refused_only mode days frame tag it some refusals.NotInProfile h e = absurd (some h.0.1)
refused_only mode days frame tag it some refusals.LoginFailed h e = absurd h
refused_only mode days frame tag it some refusals.ReadOnly h e = absurd h
refused_only mode days frame tag it some refusals.TooManyKeywords h e = absurd h
refused_only mode days frame tag it some refusals.TooManyVersions h e = absurd h
refused_only mode days frame tag it some refusals.KeywordTooLong h e = absurd h
refused_only mode days frame tag it some refusals.NumberUsedUp h e = absurd h
refused_only mode days frame tag it some refusals.LiteralTooLong h e = absurd h
refused_only mode days frame tag it some refusals.NoMemory h e = (tag, e)
refused_only mode days frame tag it some refusals.NoStoreRoom h e = absurd h
refused_only mode days frame tag it some refusals.UnknownCommand h e = absurd (some h.0.1)
refused_only mode days frame tag it some refusals.BadSyntax h e = absurd (some h.0.1)
refused_only mode days frame tag it some refusals.NotNow h e = absurd h
refused_only mode days frame tag it some refusals.NoSuchMessage h e = absurd h
refused_only mode days frame tag it some refusals.DoneExpected h e = absurd h

-- a search that is no command of the profile
pub taken_search : (mode : Mode) (days : List SentDay) (by_uid : Bool) (tag frame : List ℕ) (options : List SearchOption) (steps : List SearchStep) (it : Taken) → HaveUids days → IsSearchFrame days tag by_uid options steps frame
    → ((tagged : Tagged) → IsSpelled tagged frame → ⊥) → IsCommandFrame mode (Some days) frame it
    → ((form : Form) × IsForm mode frame (search_command tag by_uid options steps).command form × (it ≡ taken.Command (search_command tag by_uid options steps) form))
    ⊎ ((tag : List ℕ) × (it ≡ taken.Answer (answers.Refused tag refusals.NoMemory)))
taken_search mode days by_uid tag frame options steps it uids h unspelled c =
    let r = search_taken days options steps h.1 uids h.3 in
    let ends = args_space days options steps h.1 (codes "\r\n") h.3 in
    let s = search_spelled by_uid tag r.0 options steps h.4.0 r.3 in
    elim c [
      | inl p ↦ absurd (unspelled p.0 p.2)
      | inr a ↦ elim a [
        | inl f ↦ inl (key_search mode days by_uid tag frame options steps (r.0 ++ codes "\r\n") it s (front_keys mode days tag frame h.1 r.0 r.1 r.2 ends by_uid h.0 h.2 h.4 it f.1))
        | inr b ↦ elim b [
          | inl n ↦ absurd (n.0 (tag, h.0 ++ (h.1 ++ codes "\r\n"), h.4))
          | inr x ↦ inr (refused_only mode (Some days) frame x.0 it
              (λ none. some_search mode days by_uid tag frame options steps (r.0 ++ codes "\r\n") s (λ other k. none other (keys_front mode days tag frame h.1 r.0 r.1 r.2 ends by_uid h.0 h.2 h.4 other k))) x.2 x.4 x.5)
        ]
      ]
    ]
