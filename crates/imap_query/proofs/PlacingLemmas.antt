use Rattle.std.proofs.Common.{◌≡◌, ◌↔◌, ℕ, ◌⊎◌, inl, inr, List, [], ◌∷◌, ◌++◌, sym, refl, ap, subst, ◌∙◌}
use Rattle.std.specs.declared.cmp.Ordering.{Ordering}
use Rattle.std.specs.declared.cmp.Ordering.TheVariants.{Less, Equal, Greater}
use Rattle.std.specs.Ordering.{ordering_reverse}
use Rattle.std.proofs.lemmas.Cmp.{nat_list_cmp_total, tied_itself}
use Rattle.std.proofs.lemmas.Map.Lookups.{exact_bytes}
use Rattle.imap_types.specs.Ascending.{AreAscending, IsBefore, octet_order}
use Rattle.imap_query.specs.ListEntries.{names_of}
use Rattle.imap_query.specs.Patterns.{IsIn}
use Rattle.imap_query.specs.Placing.{insert_entry, insert_all, insert_by}
use Rattle.imap_query.specs.declared.list_entries.ListEntry.{ListEntry}

pub placed_all_joined : (some more entries : List ListEntry) → insert_all (some ++ more) entries ≡ insert_all more (insert_all some entries)
placed_all_joined [] more entries = refl
placed_all_joined (entry ∷ some) more entries = placed_all_joined some more (insert_entry entry entries)

-- the order of names
greater_flips : (a b : List ℕ) → octet_order a b ≡ Greater → IsBefore b a
greater_flips a b h = nat_list_cmp_total.antisymm b a ∙ ap ordering_reverse h

equal_names : (a b : List ℕ) → octet_order a b ≡ Equal → a ≡ b
equal_names a b h = exact_bytes a b h

not_before_itself : (a : List ℕ) → IsBefore a a → ⊥
not_before_itself a h = let e : octet_order a a ≡ Equal = tied_itself nat_list_cmp_total a in let q : Equal ≡ Less = sym e ∙ h in cc

before_before : (a b c : List ℕ) → IsBefore a b → IsBefore b c → IsBefore a c
before_before a b c h k = nat_list_cmp_total.trans a b c h k

-- inserting an entry leaves the names in order
after_by : (order : Ordering) (first entry next : ListEntry) (others tail : List ListEntry) → IsBefore first.name entry.name → IsBefore first.name next.name → AreAscending (names_of (insert_by order entry next others tail)) → AreAscending (names_of (first ∷ insert_by order entry next others tail))
after_by Less first entry next others tail lt below k = (lt, k)
after_by Equal first entry next others tail lt below k = (below, k)
after_by Greater first entry next others tail lt below k = (below, k)

after_first : (first entry : ListEntry) (others : List ListEntry) → IsBefore first.name entry.name → AreAscending (names_of (first ∷ others)) → AreAscending (names_of (insert_entry entry others)) → AreAscending (names_of (first ∷ insert_entry entry others))
after_first first entry [] lt h k = (lt, k)
after_first first entry (next ∷ others) lt h k = after_by (octet_order entry.name next.name) first entry next others (insert_entry entry others) lt h.0 k

tail_ascending : (first : ListEntry) (others : List ListEntry) → AreAscending (names_of (first ∷ others)) → AreAscending (names_of others)
tail_ascending first [] h = tt
tail_ascending first (next ∷ others) h = h.1

ascending_by : (order : Ordering) (entry other : ListEntry) (others : List ListEntry) → octet_order entry.name other.name ≡ order → AreAscending (names_of (other ∷ others)) → AreAscending (names_of (insert_entry entry others)) → AreAscending (names_of (insert_by order entry other others (insert_entry entry others)))
ascending_by Less entry other others e h k = (e, h)
ascending_by Equal entry other others e h k = h
ascending_by Greater entry other others e h k = after_first other entry others (greater_flips entry.name other.name e) h k

ascending_placed : (entry : ListEntry) (entries : List ListEntry) → AreAscending (names_of entries) → AreAscending (names_of (insert_entry entry entries))
ascending_placed entry [] h = tt
ascending_placed entry (other ∷ others) h = ascending_by (octet_order entry.name other.name) entry other others refl h (ascending_placed entry others (tail_ascending other others h))

-- the entries after one is inserted
has_by : (order : Ordering) (x entry other : ListEntry) (others tail : List ListEntry) → (IsIn x tail → (entry ≡ x) ⊎ IsIn x others) → IsIn x (insert_by order entry other others tail) → (entry ≡ x) ⊎ IsIn x (other ∷ others)
has_by Less x entry other others tail more h = h
has_by Equal x entry other others tail more h = inr h
has_by Greater x entry other others tail more h = elim h [ inl e ↦ inr (inl e) | inr t ↦ elim (more t) [ inl e ↦ inl e | inr u ↦ inr (inr u) ] ]

placed_has : (x entry : ListEntry) (entries : List ListEntry) → IsIn x (insert_entry entry entries) → (entry ≡ x) ⊎ IsIn x entries
placed_has x entry [] h = h
placed_has x entry (other ∷ others) h = has_by (octet_order entry.name other.name) x entry other others (insert_entry entry others) (placed_has x entry others) h

in_insert_by : (order : Ordering) (x entry other : ListEntry) (others tail : List ListEntry) → (IsIn x others → IsIn x tail) → IsIn x (other ∷ others) → IsIn x (insert_by order entry other others tail)
in_insert_by Less x entry other others tail more h = inr h
in_insert_by Equal x entry other others tail more h = h
in_insert_by Greater x entry other others tail more h = elim h [ inl e ↦ inl e | inr t ↦ inr (more t) ]

in_insert_entry : (x entry : ListEntry) (entries : List ListEntry) → IsIn x entries → IsIn x (insert_entry entry entries)
in_insert_entry x entry [] h = absurd h
in_insert_entry x entry (other ∷ others) h = in_insert_by (octet_order entry.name other.name) x entry other others (insert_entry entry others) (in_insert_entry x entry others) h

new_by : (order : Ordering) (entry other : ListEntry) (others tail : List ListEntry) → octet_order entry.name other.name ≡ order → (other.name ≡ entry.name → other ≡ entry) → IsIn entry tail → IsIn entry (insert_by order entry other others tail)
new_by Less entry other others tail e one more = inl refl
new_by Equal entry other others tail e one more = inl (one (sym (equal_names entry.name other.name e)))
new_by Greater entry other others tail e one more = inr more

placed_new : (entry : ListEntry) (entries : List ListEntry) → ((y : ListEntry) → IsIn y entries → y.name ≡ entry.name → y ≡ entry) → IsIn entry (insert_entry entry entries)
placed_new entry [] one = inl refl
placed_new entry (other ∷ others) one = new_by (octet_order entry.name other.name) entry other others (insert_entry entry others) refl (one other (inl refl)) (placed_new entry others (λ y t. one y (inr t)))

-- if names determine entries, all are inserted, in order
module _ (P : ListEntry → Type 0) (one : (x y : ListEntry) → P x → P y → x.name ≡ y.name → x ≡ y) where
  pub all_ascending : (more entries : List ListEntry) → AreAscending (names_of entries) → AreAscending (names_of (insert_all more entries))
  all_ascending [] entries h = h
  all_ascending (entry ∷ more) entries h = all_ascending more (insert_entry entry entries) (ascending_placed entry entries h)

  pub all_has : (x : ListEntry) (more entries : List ListEntry) → IsIn x (insert_all more entries) → IsIn x more ⊎ IsIn x entries
  all_has x [] entries h = inr h
  all_has x (entry ∷ more) entries h =
      elim (all_has x more (insert_entry entry entries) h) [
        | inl t ↦ inl (inr t)
        | inr u ↦ elim (placed_has x entry entries u) [ inl e ↦ inl (inl e) | inr w ↦ inr w ]
      ]

  in_insert_all : (x : ListEntry) (more entries : List ListEntry) → IsIn x entries → IsIn x (insert_all more entries)
  in_insert_all x [] entries h = h
  in_insert_all x (entry ∷ more) entries h = in_insert_all x more (insert_entry entry entries) (in_insert_entry x entry entries h)

  pub all_new : (x : ListEntry) (more entries : List ListEntry) → ((y : ListEntry) → IsIn y more → P y) → ((y : ListEntry) → IsIn y entries → P y) → IsIn x more → IsIn x (insert_all more entries)
  all_new x [] entries ps qs h = absurd h
  all_new x (entry ∷ more) entries ps qs h =
      let p : P entry = ps entry (inl refl) in
      let now : IsIn entry (insert_entry entry entries) = placed_new entry entries (λ y t. one y entry (qs y t) p) in
      elim h [
        | inl e ↦ in_insert_all x more (insert_entry entry entries) (subst (λ (y : ListEntry). IsIn y (insert_entry entry entries)) e now)
        | inr t ↦ all_new x more (insert_entry entry entries) (λ y u. ps y (inr u)) (λ y u. elim (placed_has y entry entries u) [ inl e ↦ subst P e p | inr w ↦ qs y w ]) t
      ]

-- the first of ascending entries comes before the others
first_before : (first x : ListEntry) (others : List ListEntry) → AreAscending (names_of (first ∷ others)) → IsIn x others → IsBefore first.name x.name
first_before first x [] h i = absurd i
first_before first x (next ∷ others) h i =
    elim i [
      | inl e ↦ subst (λ (y : ListEntry). IsBefore first.name y.name) e h.0
      | inr t ↦ before_before first.name next.name x.name h.0 (first_before next x others h.1 t)
    ]

-- two ascending lists of the same entries are equal
pub same_entries : (xs ys : List ListEntry) → AreAscending (names_of xs) → AreAscending (names_of ys) → ((z : ListEntry) → IsIn z xs ↔ IsIn z ys) → xs ≡ ys
same_entries [] [] h k s = refl
same_entries [] (y ∷ ys) h k s = absurd ((s y).1 (inl refl))
same_entries (x ∷ xs) [] h k s = absurd ((s x).0 (inl refl))
same_entries (x ∷ xs) (y ∷ ys) h k s =
    let heads : x ≡ y =
    elim ((s x).0 (inl refl)) [
      | inl e ↦ sym e
      | inr t ↦ elim ((s y).1 (inl refl)) [
        | inl e ↦ e
        | inr u ↦ absurd (not_before_itself x.name (before_before x.name y.name x.name (first_before x y xs h u) (first_before y x ys k t)))
      ]
    ] in
    let tails : (z : ListEntry) → IsIn z xs ↔ IsIn z ys = λ z. (
      λ t. elim ((s z).0 (inr t)) [
        | inl e ↦ absurd (not_before_itself x.name (subst (λ (w : ListEntry). IsBefore x.name w.name) (sym (heads ∙ e)) (first_before x z xs h t)))
        | inr u ↦ u
      ],
      λ t. elim ((s z).1 (inr t)) [
        | inl e ↦ absurd (not_before_itself y.name (subst (λ (w : ListEntry). IsBefore y.name w.name) (sym (sym heads ∙ e)) (first_before y z ys k t)))
        | inr u ↦ u
      ],
    ) in
    λ i. heads i ∷ same_entries xs ys (tail_ascending x xs h) (tail_ascending y ys k) tails i
