-- A search of IMAP4rev1 that is taken without the days asks for them, or is the same whatever they are.
use Rattle.std.proofs.Common.{◌≡◌, ◌⊎◌, inl, inr, ℕ, Bool, true, false, List, [], ◌∷◌, ◌++◌, codes, Some, None, refl, sym, ap, ◌∙◌, subst}
use Rattle.imap_types.specs.declared.section.Section.TheVariants as sections
use Rattle.imap_types.specs.declared.sequence_set.SequenceBound.TheVariants.{Number, Greatest}
use Rattle.imap_syntax.specs.Commands.{IsSpelled}
use Rattle.imap_syntax.specs.Keys.{charset, return_options, search_keys}
use Rattle.imap_syntax.specs.Languages.{◌⌢◌, sp}
use Rattle.imap_syntax.specs.Strings.{run}
use Rattle.imap_syntax.specs.declared.command.Command.{Command}
use Rattle.imap_syntax.specs.declared.command.Command.TheVariants as commands
use Rattle.imap_syntax.specs.declared.command.Tagged.{Tagged}
use Rattle.imap_syntax.specs.declared.fetch.FetchItem.TheVariants as items
use Rattle.imap_syntax.specs.declared.octet_class.OctetClass.TheVariants.{Tag}
use Rattle.imap_syntax.specs.declared.search.SearchOption.{SearchOption}
use Rattle.imap_syntax.specs.declared.search.SearchStep.{SearchStep}
use Rattle.imap_syntax.specs.declared.word.CommandWord.TheVariants as profile
use Rattle.imap_answers.specs.declared.answer.Answer.TheVariants as answers
use Rattle.imap_answers.specs.declared.fixed_words.Refusal.TheVariants as refusals
use Rattle.imap_grammar.proofs.FrameLaws.{one_reading, spelled_by, tag_read}
use Rattle.rev1_front.specs.ClientFrames.{IsCommandFrame, IsFetchOfTexts, IsForm, IsFrontForm, IsSearch, IsSearchRead, IsUndated, search_word}
use Rattle.rev1_front.specs.FrameForms.{reworded}
use Rattle.rev1_front.specs.Rev1Keys.{HaveUids, IsSearchFrame, search_command}
use Rattle.rev1_front.specs.SearchReading.{search_read}
use Rattle.rev1_front.specs.declared.form.Form.{Form}
use Rattle.rev1_front.specs.declared.frame_parts.FrontWord.TheVariants as words
use Rattle.rev1_front.specs.declared.search_days.SentDay.{SentDay}
use Rattle.rev1_front.specs.declared.session.Mode.{Mode}
use Rattle.rev1_front.specs.declared.taken.Taken.{Taken}
use Rattle.rev1_front.specs.declared.taken.Taken.TheVariants as taken
use Rattle.rev1_front.proofs.AskedDayLemmas.{read_in, search_same}
use Rattle.rev1_front.proofs.AuthenticateLemmas.{spaced_same}
use Rattle.rev1_front.proofs.ClientLemmas.{uid_back}
use Rattle.rev1_front.proofs.FrameLemmas.{one_rest}
use Rattle.rev1_front.proofs.SearchArgLemmas.{search_taken}
use Rattle.rev1_front.proofs.SearchTakenLemmas.{args_space, front_is, key_search, refused_only, search_spelled, search_worded, some_search, uid_worded}

-- the FETCH of all texts
texts_fetch : List ℕ → Tagged
texts_fetch tag = record {
  tag = tag;
  command = commands.Fetch (record {
    by_uid = false;
    messages = record { first = Number 1; last = Greatest } ∷ [];
    items = items.Uid ∷ items.Body true sections.Whole None ∷ [];
    changed_since = None;
  });
}

fetch_spelled : (tag : List ℕ) → run Tag tag tag → IsFetchOfTexts tag (texts_fetch tag)
unfolding texts_fetch
fetch_spelled tag t =
    let frame : List ℕ = reworded tag (codes "FETCH") (codes " 1:* (UID BODY.PEEK[])\r\n") in
    spelled_by frame (tag, codes "FETCH 1:* (UID BODY.PEEK[])\r\n") profile.Fetch (texts_fetch tag) (tag_read frame tag (codes "FETCH 1:* (UID BODY.PEEK[])\r\n") (t, refl)) refl refl

-- the steps of a search
abbrev steps_in : Command → List SearchStep
steps_in (commands.Search asked) = asked.steps
steps_in _ = []

-- the arguments of a frame with a search
module _ (mode : Mode) (tag frame : List ℕ) (options : List SearchOption) where
  -- there are no others
  same_args : (by_uid : Bool) (days others : List SentDay) (steps more : List SearchStep) → HaveUids days → HaveUids others → (h : IsSearchFrame days tag by_uid options steps frame) (i : IsSearchFrame others tag by_uid options more frame) → h.1 ++ codes "\r\n" ≡ i.1 ++ codes "\r\n"
  same_args false days others steps more u v h i =
      let r = search_taken days options steps h.1 u h.3 in
      let s = search_taken others options more i.1 v i.3 in
      one_rest frame words.Search words.Search tag (h.1 ++ codes "\r\n") tag (i.1 ++ codes "\r\n")
      (search_worded mode days tag frame h.1 r.0 r.1 r.2 (args_space days options steps h.1 (codes "\r\n") h.3) h.0 h.2 h.4)
      (search_worded mode others tag frame i.1 s.0 s.1 s.2 (args_space others options more i.1 (codes "\r\n") i.3) i.0 i.2 i.4)
  same_args true days others steps more u v h i =
      let r = search_taken days options steps h.1 u h.3 in
      let s = search_taken others options more i.1 v i.3 in
      let a = h.2 in
      let b = i.2 in
      let e : a.1 ++ (h.1 ++ codes "\r\n") ≡ b.1 ++ (i.1 ++ codes "\r\n") =
      one_rest frame words.Uid words.Uid tag (a.1 ++ (h.1 ++ codes "\r\n")) tag (b.1 ++ (i.1 ++ codes "\r\n"))
      (uid_worded mode days tag frame h.1 r.0 r.1 r.2 (args_space days options steps h.1 (codes "\r\n") h.3) h.0 a h.4)
      (uid_worded mode others tag frame i.1 s.0 s.1 s.2 (args_space others options more i.1 (codes "\r\n") i.3) i.0 b i.4) in
      spaced_same (codes "SEARCH") (a.1 ++ (h.1 ++ codes "\r\n")) b.1 (i.1 ++ codes "\r\n") a.1 (h.1 ++ codes "\r\n") b.3 e a.3 refl

  -- a form of the front is a search with them
  search_of : (by_uid : Bool) (steps : List SearchStep) (h : IsSearchFrame [] tag by_uid options steps frame) (it : Taken) → IsFrontForm mode None frame it → IsSearch mode None frame by_uid tag (h.1 ++ codes "\r\n") it
  search_of false steps h it f =
      let r = search_taken [] options steps h.1 tt h.3 in
      front_is mode None frame tag (h.1 ++ codes "\r\n") words.Search (search_worded mode [] tag frame h.1 r.0 r.1 r.2 (args_space [] options steps h.1 (codes "\r\n") h.3) h.0 h.2 h.4) it f
  search_of true steps h it f =
      let r = search_taken [] options steps h.1 tt h.3 in
      let l = h.2 in
      uid_back mode None frame tag (l.1 ++ (h.1 ++ codes "\r\n")) l.1 (h.1 ++ codes "\r\n") l.3 refl it
      (front_is mode None frame tag (l.1 ++ (h.1 ++ codes "\r\n")) words.Uid (uid_worded mode [] tag frame h.1 r.0 r.1 r.2 (args_space [] options steps h.1 (codes "\r\n") h.3) h.0 l h.4) it f)

  search_is : (by_uid : Bool) (steps : List SearchStep) (h : IsSearchFrame [] tag by_uid options steps frame) (it : Taken) → IsSearch mode None frame by_uid tag (h.1 ++ codes "\r\n") it → IsFrontForm mode None frame it
  search_is false steps h it s =
      let r = search_taken [] options steps h.1 tt h.3 in
      (words.Search, tag, h.1 ++ codes "\r\n", search_worded mode [] tag frame h.1 r.0 r.1 r.2 (args_space [] options steps h.1 (codes "\r\n") h.3) h.0 h.2 h.4, s)
  search_is true steps h it s =
      let r = search_taken [] options steps h.1 tt h.3 in
      let ends = args_space [] options steps h.1 (codes "\r\n") h.3 in
      let l = h.2 in
      (words.Uid, tag, l.1 ++ (h.1 ++ codes "\r\n"), uid_worded mode [] tag frame h.1 r.0 r.1 r.2 ends h.0 l h.4, (l.1, h.1 ++ codes "\r\n", l.3, refl, ends, s))

module _ (mode : Mode) (by_uid : Bool) (tag frame : List ℕ) (options : List SearchOption) (steps : List SentDay → List SearchStep) (h : (days : List SentDay) → IsSearchFrame days tag by_uid options (steps days) frame) where
  abbrev pub IsFirstTaken : Taken → Type 0
  IsFirstTaken it =
      ((fetch : Tagged) × IsFetchOfTexts tag fetch × (it ≡ taken.AsksDays fetch))
      ⊎ ((((form : Form) × IsForm mode frame (search_command tag by_uid options (steps [])).command form × (it ≡ taken.Command (search_command tag by_uid options (steps [])) form))
      × ((days : List SentDay) → HaveUids days → steps days ≡ steps []))
      ⊎ ((other : List ℕ) × (it ≡ taken.Answer (answers.Refused other refusals.NoMemory))))

  -- the steps of a search that doesn't ask
  same_steps : (inner : List ℕ) → search_read [] ((h []).1 ++ codes "\r\n") ≡ Some (inner ++ codes "\r\n", false) → (sp ⌢ return_options options ⌢ charset ⌢ search_keys (steps [])) inner
      → (days : List SentDay) → HaveUids days → steps days ≡ steps []
  same_steps inner read k days u =
      let i = h days in
      let q = search_taken days options (steps days) i.1 u i.3 in
      let args : i.1 ++ codes "\r\n" ≡ (h []).1 ++ codes "\r\n" = same_args mode tag frame options by_uid days [] (steps days) (steps []) u tt i (h []) in
      let both : Some (q.0 ++ codes "\r\n", q.1) ≡ Some (inner ++ codes "\r\n", false) = sym q.2 ∙ ap (search_read days) args ∙ search_same [] days ((h []).1 ++ codes "\r\n") (inner ++ codes "\r\n") read in
      let text : q.0 ++ codes "\r\n" ≡ inner ++ codes "\r\n" = ap (λ o. (read_in o).0) both in
      let run : run Tag tag tag = i.4.0 in
      let this : IsSpelled (search_command tag by_uid options (steps days)) (reworded tag (search_word by_uid) (inner ++ codes "\r\n")) =
      subst (λ (t : List ℕ). IsSpelled (search_command tag by_uid options (steps days)) (reworded tag (search_word by_uid) t)) text (search_spelled by_uid tag q.0 options (steps days) run q.3) in
      let that : IsSpelled (search_command tag by_uid options (steps [])) (reworded tag (search_word by_uid) (inner ++ codes "\r\n")) = search_spelled by_uid tag inner options (steps []) run k in
      ap (λ (t : Tagged). steps_in t.command)
      (one_reading (search_command tag by_uid options (steps days)) (search_command tag by_uid options (steps [])) (reworded tag (search_word by_uid) (inner ++ codes "\r\n")) this that)

  -- a frame that isn't refused, by whether its keys ask
  found : (inner : List ℕ) (asks : Bool) → search_read [] ((h []).1 ++ codes "\r\n") ≡ Some (inner ++ codes "\r\n", asks) → (sp ⌢ return_options options ⌢ charset ⌢ search_keys (steps [])) inner
      → (it : Taken) → IsUndated mode frame by_uid tag (inner ++ codes "\r\n") asks it → IsFirstTaken it
  found inner true read k it d = inl (d.1, d.3, d.4)
  found inner false read k it d =
      inr (inl (key_search mode [] by_uid tag frame options (steps []) (inner ++ codes "\r\n") it (search_spelled by_uid tag inner options (steps []) (h []).4.0 k) d, same_steps inner read k))

  some_form : (inner : List ℕ) (asks : Bool) → (sp ⌢ return_options options ⌢ charset ⌢ search_keys (steps [])) inner → ((it : Taken) → IsUndated mode frame by_uid tag (inner ++ codes "\r\n") asks it → ⊥) → ⊥
  some_form inner true k none =
      none (taken.AsksDays (texts_fetch tag))
      (search_command tag by_uid options (steps []), texts_fetch tag, search_spelled by_uid tag inner options (steps []) (h []).4.0 k, fetch_spelled tag (h []).4.0, refl)
  some_form inner false k none = some_search mode [] by_uid tag frame options (steps []) (inner ++ codes "\r\n") (search_spelled by_uid tag inner options (steps []) (h []).4.0 k) none

  pub first_taken : (it : Taken) → ((tagged : Tagged) → IsSpelled tagged frame → ⊥) → IsCommandFrame mode None frame it → IsFirstTaken it
  first_taken it unspelled c =
      let f = h [] in
      let r = search_taken [] options (steps []) f.1 tt f.3 in
      elim c [
        | inl p ↦ absurd (unspelled p.0 p.2)
        | inr a ↦ elim a [
          | inl s ↦ found r.0 r.1 r.2 r.3 it (subst (λ o. IsSearchRead mode None frame by_uid tag o it) r.2 (search_of mode tag frame options by_uid (steps []) f it s.1))
          | inr b ↦ elim b [
            | inl n ↦ absurd (n.0 (tag, f.0 ++ (f.1 ++ codes "\r\n"), f.4))
            | inr x ↦ inr (inr (refused_only mode None frame x.0 it
                (λ none. some_form r.0 r.1 r.3 (λ other d. none other (search_is mode tag frame options by_uid (steps []) f other (subst (λ o. IsSearchRead mode None frame by_uid tag o other) (sym r.2) d)))) x.2 x.4 x.5))
          ]
        ]
      ]
