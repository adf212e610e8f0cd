-- A search without RETURN has no options.
use Rattle.std.proofs.Common.{◌≡◌, ◌⊎◌, inl, inr, ℕ, Bool, true, false, List, [], ◌∷◌, ◌++◌, codes, refl, sym, ap, ◌∙◌, subst, append_assoc}
use Rattle.std.specs.Char.{to_ascii_lowercase}
use Rattle.std.proofs.lemmas.List.{map-append}
use Rattle.imap_types.specs.Keywords.{to_lower_case}
use Rattle.imap_syntax.specs.Commands.{IsSpelled, arguments, command}
use Rattle.imap_syntax.specs.Faults.{IsTagged}
use Rattle.imap_syntax.specs.Keys.{return_options}
use Rattle.imap_syntax.specs.Languages.{word}
use Rattle.imap_syntax.specs.Strings.{run}
use Rattle.imap_syntax.specs.declared.arguments.Search.{Search}
use Rattle.imap_syntax.specs.declared.command.Command.{Command}
use Rattle.imap_syntax.specs.declared.command.Command.TheVariants as commands
use Rattle.imap_syntax.specs.declared.command.Tagged.{Tagged}
use Rattle.imap_syntax.specs.declared.octet_class.OctetClass.TheVariants.{Tag}
use Rattle.imap_syntax.specs.declared.search.SearchOption.{SearchOption}
use Rattle.imap_syntax.specs.declared.search.SearchStep.{SearchStep}
use Rattle.rev1_front.specs.ClientFrames.{AsksReturn}
use Rattle.rev1_front.specs.Rev1Keys.{IsSearchFrame}
use Rattle.rev1_front.specs.declared.search_days.SentDay.{SentDay}

-- the first word of a search
abbrev pub first_own : Bool → List ℕ
first_own true = codes "UID"
first_own false = codes "SEARCH"

-- two words, one after another
both_words : (one other a b : List ℕ) → word one a → word other b → word (one ++ other) (a ++ b)
both_words one other a b h k = map-append to_ascii_lowercase a b ∙ ap (λ xs. xs ++ to_lower_case b) h ∙ ap (λ xs. to_lower_case one ++ xs) k ∙ sym (map-append to_ascii_lowercase one other)

-- RETURN after the word of a search
module _ (frame tag : List ℕ) (none : AsksReturn frame → ⊥) where
  -- `uid` is UID and a space, or nothing; `own` is the word
  no_return : (options : List SearchOption) (uid own text rest : List ℕ) → (uid ≡ []) ⊎ word (codes "UID ") uid → word (codes "SEARCH") own → return_options options text
      → IsTagged frame tag (uid ++ (own ++ (32 ∷ (text ++ rest)))) → options ≡ []
  no_return options uid own text rest u o (inl n) t = sym n.1
  no_return options uid own text rest u o (inr r) t =
      let k = r.3 in
      let w : List ℕ = own ++ (32 ∷ (r.0 ++ 32 ∷ [])) in
      let words : word (codes "SEARCH RETURN ") w = both_words (codes "SEARCH") (codes " RETURN ") own (32 ∷ (r.0 ++ 32 ∷ [])) o (both_words (codes " ") (codes "RETURN ") (32 ∷ []) (r.0 ++ 32 ∷ []) refl (both_words (codes "RETURN") (codes " ") r.0 (32 ∷ []) r.2 refl)) in
      let after : List ℕ = k.1 ++ rest in
      let text_is : text ++ rest ≡ (r.0 ++ 32 ∷ []) ++ after =
      ap (λ xs. xs ++ rest) (r.4 ∙ ap (λ xs. r.0 ++ xs) (k.4 ∙ ap (λ xs. xs ++ k.1) k.2)) ∙ append_assoc r.0 (32 ∷ k.1) rest ∙ sym (append_assoc r.0 (32 ∷ []) after) in
      let all : uid ++ (own ++ (32 ∷ (text ++ rest))) ≡ (uid ++ w) ++ after =
      ap (λ xs. uid ++ (own ++ (32 ∷ xs))) text_is ∙ ap (λ xs. uid ++ xs) (sym (append_assoc own (32 ∷ (r.0 ++ 32 ∷ [])) after)) ∙ sym (append_assoc uid w after) in
      absurd (none (tag, uid ++ w, after, (t.0, t.1 ∙ ap (λ xs. tag ++ 32 ∷ xs) all), (uid, w, u, words, refl)))

  -- the arguments of a search, by whether it is of UIDs
  pub frame_options : (days : List SentDay) (by_uid : Bool) (options : List SearchOption) (steps : List SearchStep) → IsSearchFrame days tag by_uid options steps frame → options ≡ []
  frame_options days false options steps (letters, args, l, a, t) =
      let b = a.3 in
      let e : args ++ codes "\r\n" ≡ 32 ∷ (b.0 ++ (b.1 ++ codes "\r\n")) = ap (λ xs. xs ++ codes "\r\n") (a.4 ∙ ap (λ xs. xs ++ a.1) a.2 ∙ ap (λ xs. 32 ∷ xs) b.4) ∙ ap (λ xs. 32 ∷ xs) (append_assoc b.0 b.1 (codes "\r\n")) in
      no_return options [] letters b.0 (b.1 ++ codes "\r\n") (inl refl) l b.2 (t.0, t.1 ∙ ap (λ xs. tag ++ 32 ∷ (letters ++ xs)) e)
  frame_options days true options steps (letters, args, l, a, t) =
      let b = a.3 in
      let s = l.3 in
      let e : args ++ codes "\r\n" ≡ 32 ∷ (b.0 ++ (b.1 ++ codes "\r\n")) = ap (λ xs. xs ++ codes "\r\n") (a.4 ∙ ap (λ xs. xs ++ a.1) a.2 ∙ ap (λ xs. 32 ∷ xs) b.4) ∙ ap (λ xs. 32 ∷ xs) (append_assoc b.0 b.1 (codes "\r\n")) in
      let uid : List ℕ = l.0 ++ 32 ∷ [] in
      let letters_are : letters ≡ uid ++ s.1 = l.4 ∙ ap (λ xs. l.0 ++ xs) (s.4 ∙ ap (λ xs. xs ++ s.1) s.2) ∙ sym (append_assoc l.0 (32 ∷ []) s.1) in
      let all : letters ++ (args ++ codes "\r\n") ≡ uid ++ (s.1 ++ (32 ∷ (b.0 ++ (b.1 ++ codes "\r\n")))) =
      ap (λ xs. letters ++ xs) e ∙ ap (λ xs. xs ++ (32 ∷ (b.0 ++ (b.1 ++ codes "\r\n")))) letters_are ∙ append_assoc uid s.1 (32 ∷ (b.0 ++ (b.1 ++ codes "\r\n"))) in
      no_return options uid s.1 b.0 (b.1 ++ codes "\r\n") (inr (both_words (codes "UID") (codes " ") l.0 (32 ∷ []) l.2 refl)) s.3 b.2 (t.0, t.1 ∙ ap (λ xs. tag ++ 32 ∷ xs) all)

  -- a command of the profile
  pub spelled_options : (by_uid : Bool) (options : List SearchOption) (steps : List SearchStep) (tail body : List ℕ) → run Tag tag tag
      → arguments (commands.Search (record { by_uid = by_uid; options = options; steps = steps })) body → (own : List ℕ) → word (first_own by_uid) own → frame ≡ tag ++ 32 ∷ (own ++ (body ++ tail)) → options ≡ []
  spelled_options false options steps tail body is (uid, args, u, a, e) own o f =
      let b = a.3 in
      let body_is : body ++ tail ≡ 32 ∷ (b.0 ++ (b.1 ++ tail)) = ap (λ xs. xs ++ tail) (e ∙ ap (λ xs. xs ++ args) u ∙ a.4 ∙ ap (λ xs. xs ++ a.1) a.2 ∙ ap (λ xs. 32 ∷ xs) b.4) ∙ ap (λ xs. 32 ∷ xs) (append_assoc b.0 b.1 tail) in
      no_return options [] own b.0 (b.1 ++ tail) (inl refl) o b.2 (is, f ∙ ap (λ xs. tag ++ 32 ∷ (own ++ xs)) body_is)
  spelled_options true options steps tail body is (uid, args, u, a, e) own o f =
      let b = a.3 in
      let first : List ℕ = own ++ 32 ∷ [] in
      let args_are : args ++ tail ≡ 32 ∷ (b.0 ++ (b.1 ++ tail)) = ap (λ xs. xs ++ tail) (a.4 ∙ ap (λ xs. xs ++ a.1) a.2 ∙ ap (λ xs. 32 ∷ xs) b.4) ∙ ap (λ xs. 32 ∷ xs) (append_assoc b.0 b.1 tail) in
      let body_is : body ++ tail ≡ 32 ∷ (u.1 ++ (32 ∷ (b.0 ++ (b.1 ++ tail)))) =
      ap (λ xs. xs ++ tail) (e ∙ ap (λ xs. xs ++ args) (u.4 ∙ ap (λ xs. xs ++ u.1) u.2)) ∙ ap (λ xs. 32 ∷ xs) (append_assoc u.1 args tail ∙ ap (λ xs. u.1 ++ xs) args_are) in
      let all : own ++ (body ++ tail) ≡ first ++ (u.1 ++ (32 ∷ (b.0 ++ (b.1 ++ tail)))) = ap (λ xs. own ++ xs) body_is ∙ sym (append_assoc own (32 ∷ []) (u.1 ++ (32 ∷ (b.0 ++ (b.1 ++ tail))))) in
      no_return options first u.1 b.0 (b.1 ++ tail) (inr (both_words (codes "UID") (codes " ") own (32 ∷ []) o refl)) u.3 b.2 (is, f ∙ ap (λ xs. tag ++ 32 ∷ xs) all)

-- a frame of the profile
module _ (frame tag : List ℕ) (none : AsksReturn frame → ⊥) (options : List SearchOption) (steps : List SearchStep) (text tail : List ℕ) (is : run Tag tag tag) (f : frame ≡ tag ++ 32 ∷ (text ++ tail)) where
  abbrev asked_by : Bool → Command
  asked_by by_uid = commands.Search (record { by_uid = by_uid; options = options; steps = steps })

  cut : (own body : List ℕ) → text ≡ own ++ body → frame ≡ tag ++ 32 ∷ (own ++ (body ++ tail))
  cut own body e = f ∙ ap (λ xs. tag ++ 32 ∷ (xs ++ tail)) e ∙ ap (λ xs. tag ++ 32 ∷ xs) (append_assoc own body tail)

  command_options : (by_uid : Bool) → command (asked_by by_uid) text → options ≡ []
  command_options false c = spelled_options frame tag none false options steps tail c.1 is c.3 c.0 c.2 (cut c.0 c.1 c.4)
  command_options true c = spelled_options frame tag none true options steps tail c.1 is c.3 c.0 c.2 (cut c.0 c.1 c.4)

pub profile_options : (frame : List ℕ) (tagged : Tagged) (asked : Search) → IsSpelled tagged frame → tagged.command ≡ commands.Search asked → (AsksReturn frame → ⊥) → asked.options ≡ []
profile_options frame tagged asked s e none =
    let b = s.3.3 in
    let f : frame ≡ tagged.tag ++ 32 ∷ (b.0 ++ b.1) = s.4 ∙ ap (λ xs. xs ++ s.1) s.2.2 ∙ ap (λ xs. tagged.tag ++ xs) (s.3.4 ∙ ap (λ xs. xs ++ s.3.1) s.3.2 ∙ ap (λ xs. 32 ∷ xs) b.4) in
    command_options frame tagged.tag none asked.options asked.steps b.0 b.1 (s.2.0, s.2.1, refl) f asked.by_uid (subst (λ (x : Command). command x b.0) e b.2)
