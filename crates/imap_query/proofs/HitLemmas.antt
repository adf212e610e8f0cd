use Rattle.std.proofs.Common.{◌≡◌, ◌∙◌, ap, sym, refl, arith, ℕ, zero, suc, ◌+◌, ◌-◌, ◌≤◌, ◌<◌, inl, inr, Bool, true, false, ◌||◌, List, [], ◌∷◌, ◌++◌, length, map, drop, get_or, append_assoc, subst, Some}
use Rattle.std.specs.Prelude.{max}
use Rattle.std.specs.List.{list_any}
use Rattle.imap_syntax.specs.declared.search.SearchStep.{SearchStep}
use Rattle.imap_syntax.specs.declared.search.SearchStep.TheVariants.{Not, Or, And}
use Rattle.imap_types.specs.Numbers.{AreRisingFrom, greatest}
use Rattle.imap_query.specs.Hits.{IsSameOrAppended, last_number, step_names_modseq}
use Rattle.imap_query.specs.KeyHits.{Asks, Both, Either, Key, Lacks, steps_of}
use Rattle.mailbox_rows.specs.ListedMessage.{ListedMessage}
use Rattle.mailbox_rows.specs.RowViews.{row_of}
use Rattle.imap_query.specs.Search.{asks_modseq, hit_of, hits_of_rows, last_hit, last_shown, number_or_uid}
use Rattle.imap_query.specs.declared.viewed_message.ViewedMessage.{ViewedMessage}
use Rattle.imap_query.specs.declared.search_command.Hit.{Hit}

abbrev numbers_of_hits : List Hit → List ℕ
numbers_of_hits hits = map (λ (hit : Hit). hit.number) hits

-- rising numbers also rise from a lower number on, and without one of them
rising_lower : (low high : ℕ) (numbers : List ℕ) → low ≤ high → AreRisingFrom high numbers → AreRisingFrom low numbers
rising_lower low high [] l h = h
rising_lower low high (n ∷ numbers) l h = (omega (arith, h.0), h.1)

rising_without : (low : ℕ) (front : List ℕ) (n : ℕ) (rest : List ℕ) → AreRisingFrom low (front ++ n ∷ rest) → AreRisingFrom low (front ++ rest)
rising_without low [] n rest h = rising_lower low (n + 1) rest (omega (arith, h.0)) h.1
rising_without low (m ∷ front) n rest h = (h.0, rising_without (m + 1) front n rest h.1)

pub rising_on : (number : ℕ) (old new rest : List ℕ) → IsSameOrAppended number old new → AreRisingFrom 1 (old ++ number ∷ rest) → AreRisingFrom 1 (new ++ rest)
rising_on number old new rest m h =
    elim m [
      | inl e ↦ subst (λ xs. AreRisingFrom 1 (xs ++ rest)) (sym e) (rising_without 1 old number rest h)
      | inr e ↦ subst (λ xs. AreRisingFrom 1 xs) (sym (ap (λ xs. xs ++ rest) e ∙ append_assoc old (number ∷ []) rest)) h
    ]

-- the last of rising numbers is at least their count
pub rising_count : (low : ℕ) (hits : List Hit) → AreRisingFrom (low + 1) (numbers_of_hits hits) → low + length hits ≤ last_number low hits
rising_count low [] h = omega arith
rising_count low (hit ∷ hits) h =
    let first : low + 1 ≤ hit.number = h.0 in
    let rest : hit.number + length hits ≤ last_number hit.number hits = rising_count hit.number hits h.1 in
    omega arith

pub greatest_append : (numbers : List ℕ) (n : ℕ) → greatest (numbers ++ n ∷ []) ≡ max (greatest numbers) n
greatest_append [] n = omega arith
greatest_append (m ∷ numbers) n = let e = greatest_append numbers n in ap (λ k. max m k) e ∙ omega arith

-- laws of Booleans
or_none : (a : Bool) → (a || false) ≡ a
or_none true = refl
or_none false = refl

or_assoc : (a b c : Bool) → (a || (b || c)) ≡ ((a || b) || c)
or_assoc true b c = refl
or_assoc false b c = refl

-- the steps of a key have a MODSEQ test exactly when the key has one
any_append : (xs ys : List SearchStep) → list_any step_names_modseq (xs ++ ys) ≡ (list_any step_names_modseq xs || list_any step_names_modseq ys)
any_append [] ys = refl
any_append (x ∷ xs) ys = ap (λ b. step_names_modseq x || b) (any_append xs ys) ∙ or_assoc (step_names_modseq x) (list_any step_names_modseq xs) (list_any step_names_modseq ys)

pub modseq_asked : (key : Key) → list_any step_names_modseq (steps_of key) ≡ asks_modseq key
modseq_asked (Asks test) = or_none (asks_modseq (Asks test))
modseq_asked (Lacks key) = any_append (steps_of key) (Not ∷ []) ∙ or_none (list_any step_names_modseq (steps_of key)) ∙ modseq_asked key
modseq_asked (Either this that) =
    any_append (steps_of this ++ steps_of that) (Or ∷ []) ∙ or_none (list_any step_names_modseq (steps_of this ++ steps_of that))
    ∙ any_append (steps_of this) (steps_of that) ∙ (λ i. modseq_asked this i || modseq_asked that i)
modseq_asked (Both this that) =
    any_append (steps_of this ++ steps_of that) (And ∷ []) ∙ or_none (list_any step_names_modseq (steps_of this ++ steps_of that))
    ∙ any_append (steps_of this) (steps_of that) ∙ (λ i. modseq_asked this i || modseq_asked that i)

-- the last hit, by its place
pub last_hit_at : (hits : List Hit) (d : Hit) → 0 < length hits → Some (get_or hits (length hits - 1) d) ≡ last_hit hits
last_hit_at [] d h = absurd (omega arith)
last_hit_at (a ∷ []) d h = refl
last_hit_at (a ∷ b ∷ hits) d h =
    let n : suc (suc (length hits)) - 1 ≡ suc (suc (length hits) - 1) = omega arith in
    ap (λ k. Some (get_or (a ∷ b ∷ hits) k d)) n ∙ last_hit_at (b ∷ hits) d (omega arith)

pub last_number_at : (other : ℕ) (hits : List Hit) (d : Hit) → 0 < length hits → (get_or hits (length hits - 1) d).number ≡ last_number other hits
last_number_at other [] d h = absurd (omega arith)
last_number_at other (a ∷ []) d h = refl
last_number_at other (a ∷ b ∷ hits) d h =
    let n : suc (suc (length hits)) - 1 ≡ suc (suc (length hits) - 1) = omega arith in
    ap (λ k. (get_or (a ∷ b ∷ hits) k d).number) n ∙ last_number_at a.number (b ∷ hits) d (omega arith)

pub last_shown_at : (view : List ViewedMessage) (d : ViewedMessage) → 0 < length view → get_or view (length view - 1) d ≡ last_shown view
last_shown_at [] d h = absurd (omega arith)
last_shown_at (a ∷ []) d h = refl
last_shown_at (a ∷ b ∷ view) d h =
    let n : suc (suc (length view)) - 1 ≡ suc (suc (length view) - 1) = omega arith in
    ap (λ k. get_or (a ∷ b ∷ view) k d) n ∙ last_shown_at (b ∷ view) d (omega arith)

-- the item at a place, and then the rest
pub drop_at : {A : Type 0} (xs : List A) (k : ℕ) (d : A) → k < length xs → drop k xs ≡ get_or xs k d ∷ drop (k + 1) xs
drop_at [] k d l = absurd (omega arith)
drop_at (x ∷ xs) zero d l = refl
drop_at (x ∷ xs) (suc k) d l = let e : suc k + 1 ≡ suc (k + 1) = omega arith in rw e (drop_at xs k d (omega arith))

-- one further hit in the set
pub numbers_drop_next : (numbers new : List ℕ) (hits : List Hit) (k : ℕ) (d : Hit) (total : List ℕ) → k < length hits → new ≡ numbers ++ (get_or hits k d).number ∷ []
    → numbers ++ numbers_of_hits (drop k hits) ≡ total → new ++ numbers_of_hits (drop (k + 1) hits) ≡ total
numbers_drop_next numbers new hits k d total l n i =
    ap (λ xs. xs ++ numbers_of_hits (drop (k + 1) hits)) n
    ∙ append_assoc numbers ((get_or hits k d).number ∷ []) (numbers_of_hits (drop (k + 1) hits))
    ∙ ap (λ xs. numbers ++ numbers_of_hits xs) (sym (drop_at hits k d l))
    ∙ i

pub number_above : (numbers new : List ℕ) (hits : List Hit) (k : ℕ) (d : Hit) → k < length hits → new ≡ numbers ++ (get_or hits k d).number ∷ []
    → AreRisingFrom (greatest numbers + 1) (numbers_of_hits (drop k hits)) → AreRisingFrom (greatest new + 1) (numbers_of_hits (drop (k + 1) hits))
number_above numbers new hits k d l n i =
    let h : AreRisingFrom (greatest numbers + 1) ((get_or hits k d).number ∷ numbers_of_hits (drop (k + 1) hits)) = subst (λ xs. AreRisingFrom (greatest numbers + 1) (numbers_of_hits xs)) (drop_at hits k d l) i in
    let g : greatest new ≡ max (greatest numbers) (get_or hits k d).number = ap greatest n ∙ greatest_append numbers (get_or hits k d).number in
    let first : greatest numbers + 1 ≤ (get_or hits k d).number = h.0 in
    let e : (get_or hits k d).number + 1 ≡ greatest new + 1 = omega (arith, g) in
    subst (λ low. AreRisingFrom low (numbers_of_hits (drop (k + 1) hits))) e h.1

pub first_above : (numbers : List ℕ) (hits : List Hit) (k : ℕ) (d : Hit) → k < length hits → AreRisingFrom (greatest numbers + 1) (numbers_of_hits (drop k hits)) → greatest numbers < (get_or hits k d).number
first_above numbers hits k d l i =
    let h : AreRisingFrom (greatest numbers + 1) ((get_or hits k d).number ∷ numbers_of_hits (drop (k + 1) hits)) = subst (λ xs. AreRisingFrom (greatest numbers + 1) (numbers_of_hits xs)) (drop_at hits k d l) i in
    let first : greatest numbers + 1 ≤ (get_or hits k d).number = h.0 in
    omega arith

-- one further message of the view
pub hits_drop_next : (by_uid : Bool) (key : Key) (last other : ViewedMessage) (rows : List ListedMessage) (view : List ViewedMessage) (k : ℕ) (d : ViewedMessage) (result new total : List Hit) → k < length view → last ≡ other
    → new ≡ result ++ hit_of by_uid key last (get_or view k d) (row_of (get_or view k d).uid rows)
    → result ++ hits_of_rows by_uid key other rows (drop k view) ≡ total → new ++ hits_of_rows by_uid key other rows (drop (k + 1) view) ≡ total
hits_drop_next by_uid key last other rows view k d result new total l e n i =
    let shown = get_or view k d in
    ap (λ xs. xs ++ hits_of_rows by_uid key other rows (drop (k + 1) view)) (n ∙ ap (λ s. result ++ hit_of by_uid key s shown (row_of shown.uid rows)) e)
    ∙ append_assoc result (hit_of by_uid key other shown (row_of shown.uid rows)) (hits_of_rows by_uid key other rows (drop (k + 1) view))
    ∙ ap (λ xs. result ++ hits_of_rows by_uid key other rows xs) (sym (drop_at view k d l))
    ∙ i

pub rising_drop_next : (by_uid : Bool) (view : List ViewedMessage) (k : ℕ) (d : ViewedMessage) (old new : List ℕ) → k < length view → IsSameOrAppended (number_or_uid by_uid (get_or view k d)) old new
    → AreRisingFrom 1 (old ++ map (number_or_uid by_uid) (drop k view)) → AreRisingFrom 1 (new ++ map (number_or_uid by_uid) (drop (k + 1) view))
rising_drop_next by_uid view k d old new l m h =
    rising_on (number_or_uid by_uid (get_or view k d)) old new (map (number_or_uid by_uid) (drop (k + 1) view)) m
    (subst (λ xs. AreRisingFrom 1 (old ++ map (number_or_uid by_uid) xs)) (drop_at view k d l) h)
