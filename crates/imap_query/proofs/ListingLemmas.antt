use Rattle.std.proofs.Common.{◌≡◌, ℕ, suc, ◌+◌, ◌-◌, ◌<◌, ◌==◌, ◌⊎◌, inl, inr, true, false, cond, List, [], ◌∷◌, ◌++◌, length, get_or, take, drop, arith, append_assoc, append-nil, sym, refl, ap, subst, ◌∙◌}
use Rattle.std.proofs.Common.{Global, Vec}
use Rattle.std.specs.Prelude.{IfOk, Result, Ok, Err}
use Rattle.std.specs.declared.alloc.AllocError.{AllocError}
use Rattle.std.proofs.lemmas.Grind.{common_steps}
use Rattle.std.proofs.lemmas.Bool.Decides.{Decides-eqb}
use Rattle.std.proofs.lemmas.Slice.Eq.{bytes_eq-Decides}
use Rattle.std.specs.Str.{bytes_eq}
use Rattle.imap_types.specs.Names.{fold_inbox}
use Rattle.imap_query.specs.ListEntries.{AreListEntries, EndsInPercent, IsListEntry, IsSuperior, AreShown}
use Rattle.imap_query.specs.Patterns.{IsIn, IsNameMatch, is_among, pattern_for}
use Rattle.imap_query.specs.Placing.{ends_in_percent, matched_entries, levels_from, insert_all, shown_among, shown_level, shown_levels, shown_mailboxes}
use Rattle.imap_query.specs.PatternRows.{is_shown}
use Rattle.imap_query.specs.declared.list_entries.ListEntry.{ListEntry}
use Rattle.imap_query.proofs.MatchLemmas.{match_complete, match_sound, or_cases, or_left, or_right}
use Rattle.imap_query.proofs.PlacingLemmas.{all_ascending, all_has, all_new, placed_all_joined, same_entries}
use Rattle.imap_query.proofs.RowLemmas.{chosen_false, chosen_true, either_way}

-- membership in joined lists
in_front : {X : Type 0} (x : X) (some more : List X) → IsIn x some → IsIn x (some ++ more)
in_front x [] more h = absurd h
in_front x (y ∷ some) more h = elim h [ inl e ↦ inl e | inr t ↦ inr (in_front x some more t) ]

in_back : {X : Type 0} (x : X) (some more : List X) → IsIn x more → IsIn x (some ++ more)
in_back x [] more h = h
in_back x (y ∷ some) more h = inr (in_back x some more h)

in_either : {X : Type 0} (x : X) (some more : List X) → IsIn x (some ++ more) → IsIn x some ⊎ IsIn x more
in_either x [] more h = inr h
in_either x (y ∷ some) more h = elim h [ inl e ↦ inl (inl e) | inr t ↦ elim (in_either x some more t) [ inl u ↦ inl (inr u) | inr u ↦ inr u ] ]

-- the test of a match
shown_sound : (pattern name : List ℕ) → is_shown pattern name ≡ true → IsNameMatch pattern name
shown_sound pattern name h = match_sound (pattern_for name pattern) (fold_inbox name) h

shown_complete : (pattern name : List ℕ) → IsNameMatch pattern name → is_shown pattern name ≡ true
shown_complete pattern name h = match_complete (pattern_for name pattern) (fold_inbox name) h

-- the test of a folder
is_among_sound : (folders : List (List ℕ)) (name : List ℕ) → is_among folders name ≡ true → IsIn name folders
is_among_sound [] name h = cc
is_among_sound (folder ∷ folders) name h = elim (or_cases (bytes_eq folder name) (is_among folders name) h) [ inl t ↦ inl ((bytes_eq-Decides folder name).0 t) | inr t ↦ inr (is_among_sound folders name t) ]

is_among_complete : (folders : List (List ℕ)) (name : List ℕ) → IsIn name folders → is_among folders name ≡ true
is_among_complete [] name h = absurd h
is_among_complete (folder ∷ folders) name h = elim h [ inl e ↦ or_left _ _ ((bytes_eq-Decides folder name).1 e) | inr t ↦ or_right _ _ (is_among_complete folders name t) ]

not_among : (folders : List (List ℕ)) (name : List ℕ) → (¬ IsIn name folders) → is_among folders name ≡ false
not_among folders name h = elim (either_way (is_among folders name)) [ inl t ↦ absurd (h (is_among_sound folders name t)) | inr f ↦ f ]

-- the test of the pattern's end
ends_sound : (pattern : List ℕ) → ends_in_percent pattern ≡ true → EndsInPercent pattern
ends_sound [] h = cc
ends_sound (octet ∷ []) h = ([], ap (λ o. o ∷ []) ((Decides-eqb octet 37).0 h))
ends_sound (octet ∷ next ∷ rest) h = let more = ends_sound (next ∷ rest) h in (octet ∷ more.0, ap (λ os. octet ∷ os) more.1)

ends_at : (front : List ℕ) → ends_in_percent (front ++ 37 ∷ []) ≡ true
ends_at [] = refl
ends_at (octet ∷ []) = refl
ends_at (octet ∷ next ∷ front) = ends_at (next ∷ front)

ends_complete : (pattern : List ℕ) → EndsInPercent pattern → ends_in_percent pattern ≡ true
ends_complete pattern h = ap ends_in_percent h.1 ∙ ends_at h.0

-- the entries of mailboxes
abbrev pub IsMailboxOf : List ℕ → List (List ℕ) → ListEntry → Type 0
IsMailboxOf pattern folders entry = IsNameMatch pattern entry.name × (entry.is_mailbox ≡ true) × IsIn entry.name folders

pub mailboxes_sound : (pattern : List ℕ) (folders : List (List ℕ)) (x : ListEntry) → IsIn x (shown_mailboxes pattern folders) → IsMailboxOf pattern folders x
mailboxes_sound pattern [] x h = absurd h
mailboxes_sound pattern (folder ∷ folders) x h =
    elim (either_way (is_shown pattern folder)) [
      | inl t ↦
          let at : IsIn x ((record { name = folder; is_mailbox = true }) ∷ shown_mailboxes pattern folders) = subst (IsIn x) (chosen_true (is_shown pattern folder) _ _ t) h in
          elim at [
            | inl e ↦
                let named : folder ≡ x.name = ap (λ (y : ListEntry). y.name) e in
                (subst (IsNameMatch pattern) named (shown_sound pattern folder t), sym (ap (λ (y : ListEntry). y.is_mailbox) e), inl named)
            | inr u ↦ let more = mailboxes_sound pattern folders x u in (more.0, more.1, inr more.2)
          ]
      | inr f ↦ let more = mailboxes_sound pattern folders x (subst (IsIn x) (chosen_false (is_shown pattern folder) _ _ f) h) in (more.0, more.1, inr more.2)
    ]

pub mailboxes_complete : (pattern : List ℕ) (folders : List (List ℕ)) (x : ListEntry) → IsNameMatch pattern x.name → x.is_mailbox ≡ true → IsIn x.name folders → IsIn x (shown_mailboxes pattern folders)
mailboxes_complete pattern [] x m b i = absurd i
mailboxes_complete pattern (folder ∷ folders) x m b i =
    elim i [
      | inl e ↦
          let t : is_shown pattern folder ≡ true = shown_complete pattern folder (subst (IsNameMatch pattern) (sym e) m) in
          let same : ◌≡◌ {A = ListEntry} (record { name = folder; is_mailbox = true }) x = λ k. record { name = e k; is_mailbox = sym b k } in
          subst (IsIn x) (sym (chosen_true (is_shown pattern folder) _ _ t)) (inl same)
      | inr u ↦
          let more : IsIn x (shown_mailboxes pattern folders) = mailboxes_complete pattern folders x m b u in
          elim (either_way (is_shown pattern folder)) [
            | inl t ↦ subst (IsIn x) (sym (chosen_true (is_shown pattern folder) _ _ t)) (inr more)
            | inr f ↦ subst (IsIn x) (sym (chosen_false (is_shown pattern folder) _ _ f)) more
          ]
    ]

-- the entry of a superior level
abbrev IsLevelOf : List ℕ → List (List ℕ) → List ℕ → ListEntry → Type 0
IsLevelOf pattern folders superior entry = IsNameMatch pattern entry.name × (entry.is_mailbox ≡ false) × (entry.name ≡ fold_inbox superior) × (¬ IsIn entry.name folders)

level_sound : (pattern : List ℕ) (folders : List (List ℕ)) (superior : List ℕ) (x : ListEntry) → IsIn x (shown_level pattern folders superior) → IsLevelOf pattern folders superior x
level_sound pattern folders superior x h =
    elim (either_way (is_among folders (fold_inbox superior))) [
      | inl t ↦ absurd (subst (IsIn x) (chosen_true (is_among folders (fold_inbox superior)) _ _ t) h)
      | inr f ↦
          let h' : IsIn x (cond (is_shown pattern (fold_inbox superior)) ((record { name = fold_inbox superior; is_mailbox = false }) ∷ []) []) = subst (IsIn x) (chosen_false (is_among folders (fold_inbox superior)) _ _ f) h in
          elim (either_way (is_shown pattern (fold_inbox superior))) [
            | inl t ↦
                let at : IsIn x ((record { name = fold_inbox superior; is_mailbox = false }) ∷ []) = subst (IsIn x) (chosen_true (is_shown pattern (fold_inbox superior)) _ _ t) h' in
                elim at [
                  | inl e ↦
                      let named : fold_inbox superior ≡ x.name = ap (λ (y : ListEntry). y.name) e in (
                        subst (IsNameMatch pattern) named (shown_sound pattern (fold_inbox superior) t),
                        sym (ap (λ (y : ListEntry). y.is_mailbox) e),
                        sym named,
                        λ i. let q : true ≡ false = sym (is_among_complete folders (fold_inbox superior) (subst (λ (n : List ℕ). IsIn n folders) (sym named) i)) ∙ f in cc,
                      )
                  | inr u ↦ absurd u
                ]
            | inr g ↦ absurd (subst (IsIn x) (chosen_false (is_shown pattern (fold_inbox superior)) _ _ g) h')
          ]
    ]

level_complete : (pattern : List ℕ) (folders : List (List ℕ)) (superior : List ℕ) (x : ListEntry) → IsLevelOf pattern folders superior x → IsIn x (shown_level pattern folders superior)
level_complete pattern folders superior x h =
    let f : is_among folders (fold_inbox superior) ≡ false = not_among folders (fold_inbox superior) (λ i. h.3 (subst (λ (n : List ℕ). IsIn n folders) (sym h.2) i)) in
    let t : is_shown pattern (fold_inbox superior) ≡ true = shown_complete pattern (fold_inbox superior) (subst (IsNameMatch pattern) h.2 h.0) in
    let same : ◌≡◌ {A = ListEntry} (record { name = fold_inbox superior; is_mailbox = false }) x = λ k. record { name = sym h.2 k; is_mailbox = sym h.1 k } in
    subst (IsIn x) (sym (chosen_false (is_among folders (fold_inbox superior)) _ _ f))
    (subst (IsIn x) (sym (chosen_true (is_shown pattern (fold_inbox superior)) _ _ t)) (inl same))

shown_among_sound : (pattern : List ℕ) (folders : List (List ℕ)) (uppers : List (List ℕ)) (x : ListEntry) → IsIn x (shown_among pattern folders uppers) → (superior : List ℕ) × IsIn superior uppers × IsLevelOf pattern folders superior x
shown_among_sound pattern folders [] x h = absurd h
shown_among_sound pattern folders (superior ∷ uppers) x h =
    elim (in_either x (shown_level pattern folders superior) (shown_among pattern folders uppers) h) [
      | inl t ↦ (superior, inl refl, level_sound pattern folders superior x t)
      | inr t ↦ let more = shown_among_sound pattern folders uppers x t in (more.0, inr more.1, more.2)
    ]

shown_among_complete : (pattern : List ℕ) (folders : List (List ℕ)) (uppers : List (List ℕ)) (x : ListEntry) (superior : List ℕ) → IsIn superior uppers → IsLevelOf pattern folders superior x → IsIn x (shown_among pattern folders uppers)
shown_among_complete pattern folders [] x superior i h = absurd i
shown_among_complete pattern folders (other ∷ uppers) x superior i h =
    elim i [
      | inl e ↦ in_front x (shown_level pattern folders other) (shown_among pattern folders uppers) (level_complete pattern folders other x (subst (λ (u : List ℕ). IsLevelOf pattern folders u x) (sym e) h))
      | inr t ↦ in_back x (shown_level pattern folders other) (shown_among pattern folders uppers) (shown_among_complete pattern folders uppers x superior t h)
    ]

-- the levels of a name
levels_sound : (front rest superior : List ℕ) → IsIn superior (levels_from front rest) → IsSuperior superior (front ++ rest)
levels_sound front [] superior h = absurd h
levels_sound front (octet ∷ rest) superior h =
    let further : IsIn superior (levels_from (front ++ octet ∷ []) rest) → IsSuperior superior (front ++ octet ∷ rest) = λ u. let more = levels_sound (front ++ octet ∷ []) rest superior u in (more.0, sym (append_assoc front (octet ∷ []) rest) ∙ more.1) in
    elim (either_way (octet == 47)) [
      | inl t ↦
          let at : IsIn superior (front ∷ levels_from (front ++ octet ∷ []) rest) = subst (IsIn superior) (chosen_true (octet == 47) _ _ t) h in
          elim at [
            | inl e ↦ (rest, λ k. e k ++ (Decides-eqb octet 47).0 t k ∷ rest)
            | inr u ↦ further u
          ]
      | inr f ↦ further (subst (IsIn superior) (chosen_false (octet == 47) _ _ f) h)
    ]

in_levels : (front rest superior : List ℕ) (octet : ℕ) → IsIn superior (levels_from (front ++ octet ∷ []) rest) → IsIn superior (levels_from front (octet ∷ rest))
in_levels front rest superior octet h =
    elim (either_way (octet == 47)) [
      | inl t ↦ subst (IsIn superior) (sym (chosen_true (octet == 47) (front ∷ levels_from (front ++ octet ∷ []) rest) (levels_from (front ++ octet ∷ []) rest) t)) (inr h)
      | inr f ↦ subst (IsIn superior) (sym (chosen_false (octet == 47) (front ∷ levels_from (front ++ octet ∷ []) rest) (levels_from (front ++ octet ∷ []) rest) f)) h
    ]

levels_complete : (front middle back : List ℕ) → IsIn (front ++ middle) (levels_from front (middle ++ 47 ∷ back))
levels_complete front [] back = inl (sym (append-nil front))
levels_complete front (octet ∷ middle) back =
    in_levels front (middle ++ 47 ∷ back) (front ++ octet ∷ middle) octet
    (subst (λ (u : List ℕ). IsIn u (levels_from (front ++ octet ∷ []) (middle ++ 47 ∷ back))) (append_assoc front (octet ∷ []) middle) (levels_complete (front ++ octet ∷ []) middle back))

abbrev IsLevelAmong : List ℕ → List (List ℕ) → List (List ℕ) → ListEntry → Type 0
IsLevelAmong pattern folders some entry = (superior : List ℕ) × (folder : List ℕ) × IsIn folder some × IsSuperior superior folder × IsLevelOf pattern folders superior entry

levels_all_sound : (pattern : List ℕ) (folders some : List (List ℕ)) (x : ListEntry) → IsIn x (shown_levels pattern folders some) → IsLevelAmong pattern folders some x
levels_all_sound pattern folders [] x h = absurd h
levels_all_sound pattern folders (folder ∷ some) x h =
    elim (in_either x (shown_among pattern folders (levels_from [] folder)) (shown_levels pattern folders some) h) [
      | inl t ↦ let one = shown_among_sound pattern folders (levels_from [] folder) x t in (one.0, folder, inl refl, levels_sound [] folder one.0 one.1, one.2)
      | inr t ↦ let more = levels_all_sound pattern folders some x t in (more.0, more.1, inr more.2, more.3, more.4)
    ]

levels_all_complete : (pattern : List ℕ) (folders some : List (List ℕ)) (x : ListEntry) (superior folder : List ℕ) → IsIn folder some → IsSuperior superior folder → IsLevelOf pattern folders superior x → IsIn x (shown_levels pattern folders some)
levels_all_complete pattern folders [] x superior folder i s h = absurd i
levels_all_complete pattern folders (other ∷ some) x superior folder i s h =
    elim i [
      | inl e ↦
          let at : other ≡ superior ++ 47 ∷ s.0 = e ∙ s.1 in
          let level : IsIn superior (levels_from [] other) = subst (λ (n : List ℕ). IsIn superior (levels_from [] n)) (sym at) (levels_complete [] superior s.0) in
          in_front x (shown_among pattern folders (levels_from [] other)) (shown_levels pattern folders some) (shown_among_complete pattern folders (levels_from [] other) x superior level h)
      | inr t ↦ in_back x (shown_among pattern folders (levels_from [] other)) (shown_levels pattern folders some) (levels_all_complete pattern folders some x superior folder t s h)
    ]

-- the entries that the code finds are those that the pattern lists
matched_sound : (pattern : List ℕ) (folders : List (List ℕ)) (x : ListEntry) → IsIn x (matched_entries pattern folders) → IsListEntry folders pattern x
matched_sound pattern folders x h =
    elim (in_either x (shown_mailboxes pattern folders) _ h) [
      | inl t ↦ let one = mailboxes_sound pattern folders x t in (one.0, inl (one.1, one.2))
      | inr t ↦ elim (either_way (ends_in_percent pattern)) [
        | inl e ↦
            let one = levels_all_sound pattern folders folders x (subst (IsIn x) (chosen_true (ends_in_percent pattern) (shown_levels pattern folders folders) [] e) t) in
            (one.4.0, inr (one.4.1, ends_sound pattern e, (one.0, one.1, one.2, one.3, one.4.2), one.4.3))
        | inr f ↦ absurd (subst (IsIn x) (chosen_false (ends_in_percent pattern) (shown_levels pattern folders folders) [] f) t)
      ]
    ]

matched_complete : (pattern : List ℕ) (folders : List (List ℕ)) (x : ListEntry) → IsListEntry folders pattern x → IsIn x (matched_entries pattern folders)
matched_complete pattern folders x h =
    elim h.1 [
      | inl m ↦ in_front x (shown_mailboxes pattern folders) _ (mailboxes_complete pattern folders x h.0 m.0 m.1)
      | inr l ↦
          let level = l.2 in
          in_back x (shown_mailboxes pattern folders) _
          (subst (IsIn x) (sym (chosen_true (ends_in_percent pattern) (shown_levels pattern folders folders) [] (ends_complete pattern l.1)))
          (levels_all_complete pattern folders folders x level.0 level.1 level.2 level.3 (h.0, l.0, level.4, l.3)))
    ]

-- each name has one entry
one_entry : (pattern : List ℕ) (folders : List (List ℕ)) (x y : ListEntry) → IsListEntry folders pattern x → IsListEntry folders pattern y → x.name ≡ y.name → x ≡ y
one_entry pattern folders x y h k e =
    elim h.1 [
      | inl m ↦ elim k.1 [
        | inl n ↦ λ i. record { name = e i; is_mailbox = (m.0 ∙ sym n.0) i }
        | inr n ↦ absurd (n.3 (subst (λ (s : List ℕ). IsIn s folders) e m.1))
      ]
      | inr m ↦ elim k.1 [
        | inl n ↦ absurd (m.3 (subst (λ (s : List ℕ). IsIn s folders) (sym e) n.1))
        | inr n ↦ λ i. record { name = e i; is_mailbox = (m.0 ∙ sym n.0) i }
      ]
    ]

pub list_entries_of_matched : (pattern : List ℕ) (folders : List (List ℕ)) → AreListEntries folders pattern (insert_all (matched_entries pattern folders) [])
list_entries_of_matched pattern folders =
    let P : ListEntry → Type 0 = IsListEntry folders pattern in
    let one = one_entry pattern folders in
    record {
      ascending = all_ascending P one (matched_entries pattern folders) [] tt;
      exactly = λ x. (
        λ h. elim (all_has P one x (matched_entries pattern folders) [] h) [ inl t ↦ matched_sound pattern folders x t | inr u ↦ absurd u ],
        λ h. all_new P one x (matched_entries pattern folders) [] (matched_sound pattern folders) (λ y u. absurd u) (matched_complete pattern folders x h),
      );
    }

pub shown_of_matched : (reference pattern : List ℕ) (folders : List (List ℕ)) (entries : List ListEntry) → (length pattern == 0) ≡ false → entries ≡ insert_all (matched_entries (reference ++ pattern) folders) [] → AreShown reference pattern folders entries
shown_of_matched reference [] folders entries h e = cc
shown_of_matched reference (octet ∷ pattern) folders entries h e = subst (AreListEntries folders (reference ++ octet ∷ pattern)) (sym e) (list_entries_of_matched (reference ++ octet ∷ pattern) folders)

-- the last octet, by its place
pub percent_at : (pattern : List ℕ) (d : ℕ) → 0 < length pattern → (get_or pattern (length pattern - 1) d == 37) ≡ ends_in_percent pattern
percent_at [] d h = absurd (omega arith)
percent_at (octet ∷ []) d h = refl
percent_at (octet ∷ next ∷ rest) d h =
    let less : length (octet ∷ next ∷ rest) - 1 ≡ suc (length (next ∷ rest) - 1) = omega arith in
    ap (λ n. get_or (octet ∷ next ∷ rest) n d == 37) less ∙ percent_at (next ∷ rest) d (omega arith)

-- the superior levels after one further octet of a folder is read
pub levels_read : (folder : List ℕ) (at d : ℕ) → at < length folder → levels_from (take at folder) (drop at folder) ≡ cond (get_or folder at d == 47) (take at folder ∷ levels_from (take (at + 1) folder) (drop (at + 1) folder)) (levels_from (take (at + 1) folder) (drop (at + 1) folder))
levels_read folder at d h =
    let rest : drop at folder ≡ get_or folder at d ∷ drop (at + 1) folder = grind (arith, common_steps) in
    let front : take (at + 1) folder ≡ take at folder ++ get_or folder at d ∷ [] = grind (arith, common_steps) in
    ap (levels_from (take at folder)) rest ∙ ap (λ f. cond (get_or folder at d == 47) (take at folder ∷ levels_from f (drop (at + 1) folder)) (levels_from f (drop (at + 1) folder))) (sym front)

pub separator_read : (pattern : List ℕ) (folders : List (List ℕ)) (folder : List ℕ) (at d : ℕ) (entries next : List ListEntry) → at < length folder → (get_or folder at d == 47) ≡ true → next ≡ insert_all (shown_level pattern folders (take at folder)) entries → insert_all (shown_among pattern folders (levels_from (take (at + 1) folder) (drop (at + 1) folder))) next ≡ insert_all (shown_among pattern folders (levels_from (take at folder) (drop at folder))) entries
separator_read pattern folders folder at d entries next h t e =
    let more = levels_from (take (at + 1) folder) (drop (at + 1) folder) in
    ap (insert_all (shown_among pattern folders more)) e
    ∙ sym (placed_all_joined (shown_level pattern folders (take at folder)) (shown_among pattern folders more) entries)
    ∙ ap (λ uppers. insert_all (shown_among pattern folders uppers) entries) (sym (levels_read folder at d h ∙ chosen_true (get_or folder at d == 47) _ _ t))

pub octet_read : (pattern : List ℕ) (folders : List (List ℕ)) (folder : List ℕ) (at d : ℕ) (entries next : List ListEntry) → at < length folder → (get_or folder at d == 47) ≡ false → next ≡ entries → insert_all (shown_among pattern folders (levels_from (take (at + 1) folder) (drop (at + 1) folder))) next ≡ insert_all (shown_among pattern folders (levels_from (take at folder) (drop at folder))) entries
octet_read pattern folders folder at d entries next h f e =
    ap (insert_all (shown_among pattern folders (levels_from (take (at + 1) folder) (drop (at + 1) folder)))) e
    ∙ ap (λ uppers. insert_all (shown_among pattern folders uppers) entries) (sym (levels_read folder at d h ∙ chosen_false (get_or folder at d == 47) _ _ f))

pub folder_read : (pattern : List ℕ) (folders : List (List ℕ)) (at : ℕ) (folder text : List ℕ) (entries next : List ListEntry) → at < length folders → folder ≡ get_or folders at folder → text ≡ folder → next ≡ insert_all (shown_among pattern folders (levels_from [] text)) entries → insert_all (shown_levels pattern folders (drop (at + 1) folders)) next ≡ insert_all (shown_levels pattern folders (drop at folders)) entries
folder_read pattern folders at folder text entries next h is same e =
    let rest : drop at folders ≡ get_or folders at folder ∷ drop (at + 1) folders = grind (arith, common_steps) in
    let here : drop at folders ≡ text ∷ drop (at + 1) folders = rest ∙ ap (λ f. f ∷ drop (at + 1) folders) (sym is ∙ sym same) in
    ap (insert_all (shown_levels pattern folders (drop (at + 1) folders))) e
    ∙ sym (placed_all_joined (shown_among pattern folders (levels_from [] text)) (shown_levels pattern folders (drop (at + 1) folders)) entries)
    ∙ ap (λ some. insert_all (shown_levels pattern folders some) entries) (sym here)

pub shown_if_ok : (reference pattern joined : List ℕ) (folders : List (List ℕ)) (result : Result (Vec ListEntry Global) AllocError) → (length pattern == 0) ≡ false → joined ≡ reference ++ pattern → IfOk result (λ entries. entries.items ≡ insert_all (matched_entries joined folders) []) → IfOk result (λ entries. AreShown reference pattern folders entries.items)
shown_if_ok reference pattern joined folders (Ok entries) h j e = shown_of_matched reference pattern folders entries.items h (e ∙ ap (λ p. insert_all (matched_entries p folders) []) j)
shown_if_ok reference pattern joined folders (Err error) h j e = e

pub one_listing : (reference pattern : List ℕ) (folders : List (List ℕ)) (entries others : List ListEntry) → AreShown reference pattern folders entries → AreShown reference pattern folders others → entries ≡ others
one_listing reference [] folders entries others h k = h ∙ sym k
one_listing reference (octet ∷ pattern) folders entries others h k =
    same_entries entries others h.ascending k.ascending (λ z. (λ i. (k.exactly z).1 ((h.exactly z).0 i), λ i. (h.exactly z).1 ((k.exactly z).0 i)))
