use Rattle.std.proofs.Common.{◌≡◌, ◌↔◌, ◌⊎◌, inl, inr, ℕ, Bool, true, false, ◌||◌, ◌&&◌, List, [], ◌∷◌, refl, sym, ◌∙◌, subst}
use Rattle.std.specs.Prelude.{IsTrue, not}
use Rattle.std.specs.List.{list_all}
use Rattle.std.specs.Str.{bytes_eq}
use Rattle.std.proofs.lemmas.Bool.{and_parts, false≢true}
use Rattle.std.proofs.lemmas.Slice.Eq.{bytes_eq-Decides}
use Rattle.crdt_ops.proofs.Members.{any_in, in_filter}
use Rattle.imap_syntax.specs.declared.flags.SystemFlag.{SystemFlag}
use Rattle.imap_syntax.specs.declared.flags.SystemFlag.TheVariants.{Answered, Flagged, Deleted, Seen, Draft}
use Rattle.imap_syntax.specs.declared.store.StoreMode.{StoreMode}
use Rattle.imap_syntax.specs.declared.store.StoreMode.TheVariants.{Add, Remove, Replace}
use Rattle.imap_query.specs.Messages.{has_flag}
use Rattle.imap_types.specs.Keywords.{AreKeywords, has_keyword, is_lower_case, to_lower_case, with_word}
use Rattle.imap_types.specs.declared.flags.Flags.{Flags}
use Rattle.imap_types.proofs.KeywordLemmas.{keywords_from_test, keywords_with}
use Rattle.merge_laws.specs.Orders.{IsIn}
use Rattle.imap_commands.specs.FlagChange.{changed_flags, remaining_keywords}
use Rattle.imap_commands.proofs.ListedKeywordLemmas.{text_has, text_old, text_new, united}
use Rattle.imap_commands.proofs.FlagChangeLemmas.{remaining_are_keywords}

-- ---- system flags

or_is : (a b : Bool) → IsTrue (a || b) ↔ (IsTrue a ⊎ IsTrue b)
or_is true b = (λ h. inl refl, λ h. refl)
or_is false b = (λ h. inr h, λ h. elim h [ inl e ↦ absurd (false≢true e) | inr e ↦ e ])

but_is : (a b : Bool) → IsTrue (a && not b) ↔ (IsTrue a × (IsTrue b → ⊥))
but_is true true = (λ h. absurd (false≢true h), λ h. absurd (h.1 refl))
but_is true false = (λ h. (refl, λ e. false≢true e), λ h. refl)
but_is false b = (λ h. absurd (false≢true h), λ h. absurd (false≢true h.0))

pub added_flag : (flag : SystemFlag) (old given : Flags) → IsTrue (has_flag flag (changed_flags Add old given)) ↔ (IsTrue (has_flag flag old) ⊎ IsTrue (has_flag flag given))
unfolding changed_flags
added_flag Answered old given = or_is old.answered given.answered
added_flag Flagged old given = or_is old.flagged given.flagged
added_flag Deleted old given = or_is old.deleted given.deleted
added_flag Seen old given = or_is old.seen given.seen
added_flag Draft old given = or_is old.draft given.draft

pub removed_flag : (flag : SystemFlag) (old given : Flags) → IsTrue (has_flag flag (changed_flags Remove old given)) ↔ (IsTrue (has_flag flag old) × (IsTrue (has_flag flag given) → ⊥))
unfolding changed_flags
removed_flag Answered old given = but_is old.answered given.answered
removed_flag Flagged old given = but_is old.flagged given.flagged
removed_flag Deleted old given = but_is old.deleted given.deleted
removed_flag Seen old given = but_is old.seen given.seen
removed_flag Draft old given = but_is old.draft given.draft

-- ---- keywords

united_has : (x : List ℕ) (given keywords : List (List ℕ)) → IsIn x (united given keywords) → IsIn x keywords ⊎ IsIn x given
united_has x [] keywords h = inl h
united_has x (word ∷ given) keywords h =
    elim (united_has x given (with_word word keywords) h) [
      | inl t ↦ elim (text_has x word keywords t) [ inl e ↦ inr (inl e) | inr u ↦ inl u ]
      | inr t ↦ inr (inr t)
    ]

united_old : (x : List ℕ) (given keywords : List (List ℕ)) → IsIn x keywords → IsIn x (united given keywords)
united_old x [] keywords h = h
united_old x (word ∷ given) keywords h = united_old x given (with_word word keywords) (text_old x word keywords h)

united_new : (x : List ℕ) (given keywords : List (List ℕ)) → IsIn x given → IsIn x (united given keywords)
united_new x [] keywords h = absurd h
united_new x (word ∷ given) keywords h =
    elim h [
      | inl e ↦ united_old x given (with_word word keywords) (subst (λ (y : List ℕ). IsIn y (with_word word keywords)) e (text_new word keywords))
      | inr t ↦ united_new x given (with_word word keywords) t
    ]

pub added_keyword : (word : List ℕ) (old given : Flags) → IsIn word (changed_flags Add old given).keywords ↔ (IsIn word old.keywords ⊎ IsIn word given.keywords)
unfolding changed_flags
added_keyword word old given = (
  united_has word given.keywords old.keywords,
  λ h. elim h [ inl t ↦ united_old word given.keywords old.keywords t | inr t ↦ united_new word given.keywords old.keywords t ],
)

lowered_in : (words : List (List ℕ)) (word : List ℕ) → list_all is_lower_case words ≡ true → IsIn word words → to_lower_case word ≡ word
lowered_in [] word h i = absurd i
lowered_in (first ∷ words) word h i =
    let parts = and_parts (is_lower_case first) (list_all is_lower_case words) h in
    elim i [
      | inl e ↦ subst (λ (w : List ℕ). to_lower_case w ≡ w) e ((bytes_eq-Decides (to_lower_case first) first).0 parts.0)
      | inr t ↦ lowered_in words word parts.1 t
    ]

-- the test for a word among keywords in lower case succeeds exactly when it is one of them
has_keyword_is : (word : List ℕ) (given : List (List ℕ)) → to_lower_case word ≡ word → list_all is_lower_case given ≡ true → (has_keyword word given ≡ true) ↔ IsIn word given
has_keyword_is word given l all =
    let same = λ (other : List ℕ). bytes_eq (to_lower_case other) (to_lower_case word) in (
      λ h.
          let w = (any_in same given).0 h in
          let e : w.0 ≡ word = sym (lowered_in given w.0 all w.1) ∙ (bytes_eq-Decides (to_lower_case w.0) (to_lower_case word)).0 w.2 ∙ l in
          subst (λ (x : List ℕ). IsIn x given) e w.1,
      λ i. (any_in same given).1 (word, i, (bytes_eq-Decides (to_lower_case word) (to_lower_case word)).1 refl),
    )

not_is : (b : Bool) → (not b ≡ true) ↔ ((b ≡ true) → ⊥)
not_is true = (λ h e. false≢true h, λ h. absurd (h refl))
not_is false = (λ h e. false≢true e, λ h. refl)

left_is : (word : List ℕ) (given keywords : List (List ℕ)) → AreKeywords keywords → AreKeywords given → IsIn word (remaining_keywords given keywords) ↔ (IsIn word keywords × (IsIn word given → ⊥))
left_is word given keywords k g =
    let test = λ (keyword : List ℕ). not (has_keyword keyword given) in
    let filtered = in_filter test keywords word in (
      λ h.
          let t = filtered.0 h in
          (t.0, λ i. (not_is (has_keyword word given)).0 t.1 ((has_keyword_is word given (lowered_in keywords word k.0 t.0) g.0).1 i)),
      λ h. filtered.1 (h.0, (not_is (has_keyword word given)).1 (λ e. h.1 ((has_keyword_is word given (lowered_in keywords word k.0 h.0) g.0).0 e))),
    )

pub removed_keyword : (word : List ℕ) (old given : Flags) → AreKeywords old.keywords → AreKeywords given.keywords → IsIn word (changed_flags Remove old given).keywords ↔ (IsIn word old.keywords × (IsIn word given.keywords → ⊥))
unfolding changed_flags
removed_keyword word old given k g = left_is word given.keywords old.keywords k g

pub replaced_flags : (old given : Flags) → changed_flags Replace old given ≡ given
unfolding changed_flags
replaced_flags old given = refl

-- ---- the keywords after a STORE ascend in lower case

united_spelled : (given keywords : List (List ℕ)) → list_all is_lower_case given ≡ true → AreKeywords keywords → AreKeywords (united given keywords)
united_spelled [] keywords g k = k
united_spelled (word ∷ given) keywords g k =
    let parts = and_parts (is_lower_case word) (list_all is_lower_case given) g in
    let low : to_lower_case word ≡ word = (bytes_eq-Decides (to_lower_case word) word).0 parts.0 in
    united_spelled given (with_word word keywords) parts.1 (subst (λ (w : List ℕ). AreKeywords (with_word w keywords)) low (keywords_with word keywords k))

pub changed_spelled : (mode : StoreMode) (old given : Flags) → AreKeywords old.keywords → AreKeywords given.keywords → AreKeywords (changed_flags mode old given).keywords
unfolding changed_flags
changed_spelled Replace old given k g = g
changed_spelled Add old given k g = united_spelled given.keywords old.keywords g.0 k
changed_spelled Remove old given k g = keywords_from_test (remaining_keywords given.keywords old.keywords) (remaining_are_keywords given.keywords old.keywords k)
