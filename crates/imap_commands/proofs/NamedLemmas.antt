use Rattle.std.proofs.Common.{◌≡◌, ◌∙◌, ap, sym, subst, refl, arith, ℕ, zero, suc, ◌+◌, ◌-◌, ◌≤◌, ◌<◌, inl, inr, Bool, true, false, List, [], ◌∷◌, ◌++◌, length, map, drop, get_or, append_assoc, length-append, Some, if◌then◌else◌, nat_lt}
use Rattle.std.specs.Prelude.{max}
use Rattle.std.specs.List.{filter, slice_get}
use Rattle.std.proofs.lemmas.Bool.{cases_Bool}
use Rattle.std.proofs.lemmas.Bool.Decides.{eqb_tells}
use Rattle.imap_types.specs.Numbers.{AreRisingFrom, greatest}
use Rattle.imap_types.specs.declared.sequence_set.SequenceRange.{SequenceRange}
use Rattle.imap_query.specs.Search.{number_or_uid as shown_name}
use Rattle.mailbox_rows.specs.ListedMessage.{ListedMessage}
use Rattle.mailbox_rows.specs.RowViews.{AreRisingRows, rows_after_uid}
use Rattle.session_view.specs.Sets.{numbers_from, numbers_in_set, set_names, top_of}
use Rattle.session_view.specs.Sets.{number_or_uid as set_name}
use Rattle.session_view.specs.Views.{AreRising}
use Rattle.session_view.specs.declared.view_entry.ViewEntry.{ViewEntry}
use Rattle.imap_commands.specs.MessageNames.{name_at, names_of, uid_in}
use Rattle.imap_commands.specs.SearchCommand.{viewed_messages_from}
use Rattle.imap_commands.specs.Report.{entry_at}

-- ---- rising names

-- the least name of the remaining messages: a UID or a number
abbrev pub least : Bool → ℕ → ℕ → ℕ
least by_uid n low = if by_uid then low else n

pub rising_lower : (low high : ℕ) (numbers : List ℕ) → low ≤ high → AreRisingFrom high numbers → AreRisingFrom low numbers
rising_lower low high [] l h = tt
rising_lower low high (n ∷ numbers) l h = (omega (arith, h.0), h.1)

pub least_lower : (by_uid : Bool) (n low uid : ℕ) → low ≤ uid → least by_uid n low ≤ least by_uid (n + 1) (uid + 1)
least_lower true n low uid l = omega arith
least_lower false n low uid l = omega arith

pub least_first : (by_uid : Bool) (n low uid name : ℕ) → name ≡ (if by_uid then uid else n) → low ≤ uid → least by_uid n low ≤ name
least_first true n low uid name e l = omega (arith, e)
least_first false n low uid name e l = omega (arith, e)

pub least_next : (by_uid : Bool) (n uid name : ℕ) → name ≡ (if by_uid then uid else n) → least by_uid (n + 1) (uid + 1) ≡ name + 1
least_next true n uid name e = ap (λ k. k + 1) (sym e)
least_next false n uid name e = ap (λ k. k + 1) (sym e)

slice_get_length : (front : List ViewEntry) (e : ViewEntry) (es : List ViewEntry) → slice_get (front ++ e ∷ es) (length front) ≡ Some e
slice_get_length [] e es = refl
slice_get_length (x ∷ front) e es = slice_get_length front e es

entry_at_place : (view front : List ViewEntry) (e : ViewEntry) (es : List ViewEntry) (n : ℕ) → view ≡ front ++ e ∷ es → n ≡ length front + 1 → entry_at view n ≡ Some e
entry_at_place view front e es n v m =
    let k : n - 1 ≡ length front = omega (arith, m) in
    elim (eqb_tells n 0) [
      | inl t ↦ let z = t.1 in absurd (omega (arith, m, z))
      | inr f ↦ rw f.0 (ap (λ (xs : List ViewEntry). slice_get xs (n - 1)) v ∙ ap (λ j. slice_get (front ++ e ∷ es) j) k ∙ slice_get_length front e es)
    ]

name_at_place : (by_uid : Bool) (view front : List ViewEntry) (e : ViewEntry) (es : List ViewEntry) (n : ℕ) → view ≡ front ++ e ∷ es → n ≡ length front + 1 → name_at by_uid view n ≡ (if by_uid then e.uid else n)
name_at_place true view front e es n v m = ap uid_in (entry_at_place view front e es n v m)
name_at_place false view front e es n v m = refl

filter_rising : (by_uid : Bool) (test : ℕ → Bool) (name : ℕ → ℕ) (is_named : Bool) (n low uid : ℕ) (rest : List ℕ) → name n ≡ (if by_uid then uid else n) → low ≤ uid
    → AreRisingFrom (least by_uid (n + 1) (uid + 1)) (map name (filter test rest)) → AreRisingFrom (least by_uid n low) (map name (filter test ((if is_named then n ∷ [] else []) ++ rest)))
filter_rising by_uid test name false n low uid rest e l h = rising_lower (least by_uid n low) (least by_uid (n + 1) (uid + 1)) (map name (filter test rest)) (least_lower by_uid n low uid l) h
filter_rising by_uid test name true n low uid rest e l h =
    elim (cases_Bool (test n)) [
      | inl t ↦ rw t (least_first by_uid n low uid (name n) e l, subst (λ k. AreRisingFrom k (map name (filter test rest))) (least_next by_uid n uid (name n) e) h)
      | inr f ↦ rw f (rising_lower (least by_uid n low) (least by_uid (n + 1) (uid + 1)) (map name (filter test rest)) (least_lower by_uid n low uid l) h)
    ]

rising_from : (name_uid by_uid : Bool) (top : ℕ) (set : List SequenceRange) (test : ℕ → Bool) (view front es : List ViewEntry) (n low : ℕ) → view ≡ front ++ es → n ≡ length front + 1 → AreRising low es
    → AreRisingFrom (least name_uid n low) (map (name_at name_uid view) (filter test (numbers_from by_uid top set n es)))
rising_from name_uid by_uid top set test view front [] n low v m h = tt
rising_from name_uid by_uid top set test view front (e ∷ es) n low v m h =
    let w : view ≡ (front ++ e ∷ []) ++ es = v ∙ sym (append_assoc front (e ∷ []) es) in
    let k : n + 1 ≡ length (front ++ e ∷ []) + 1 = omega (arith, m, length-append front (e ∷ [])) in
    filter_rising name_uid test (name_at name_uid view) (set_names top set (set_name by_uid n e)) n low e.uid (numbers_from by_uid top set (n + 1) es) (name_at_place name_uid view front e es n v m) h.0
    (rising_from name_uid by_uid top set test view (front ++ e ∷ []) es (n + 1) (e.uid + 1) w k h.1)

-- The names of messages that a set names and a test accepts ascend.
pub names_rising : (name_uid by_uid : Bool) (set : List SequenceRange) (test : ℕ → Bool) (view : List ViewEntry) → AreRising 1 view → AreRisingFrom 1 (names_of name_uid view (filter test (numbers_in_set by_uid set view)))
names_rising true by_uid set test view h = rising_from true by_uid (top_of by_uid view) set test view [] view 1 1 refl refl h
names_rising false by_uid set test view h = rising_from false by_uid (top_of by_uid view) set test view [] view 1 1 refl refl h

pub chosen_rising : (name_uid by_uid : Bool) (set : List SequenceRange) (test : ℕ → Bool) (view entries : List ViewEntry) (numbers chosen : List ℕ) → entries ≡ view → AreRising 1 view → chosen ≡ filter test numbers → numbers ≡ numbers_in_set by_uid set view
    → AreRisingFrom 1 (names_of name_uid entries chosen)
chosen_rising name_uid by_uid set test view entries numbers chosen s h c n =
    subst (λ (ns : List ℕ). AreRisingFrom 1 ns) (sym ((λ i. names_of name_uid (s i) (c i)) ∙ ap (λ (ns : List ℕ). names_of name_uid view (filter test ns)) n)) (names_rising name_uid by_uid set test view h)

-- The names of a view's messages ascend.
pub shown_rising : (by_uid : Bool) (n low : ℕ) (view : List ViewEntry) → AreRising low view → AreRisingFrom (least by_uid n low) (map (shown_name by_uid) (viewed_messages_from n view))
shown_rising true n low [] h = tt
shown_rising false n low [] h = tt
shown_rising true n low (e ∷ es) h = (h.0, shown_rising true (n + 1) (e.uid + 1) es h.1)
shown_rising false n low (e ∷ es) h = (omega arith, shown_rising false (n + 1) (e.uid + 1) es h.1)

pub all_viewed_messages_rising : (by_uid : Bool) (view : List ViewEntry) → AreRising 1 view → AreRisingFrom 1 (map (shown_name by_uid) (viewed_messages_from 1 view))
all_viewed_messages_rising true view h = shown_rising true 1 1 view h
all_viewed_messages_rising false view h = shown_rising false 1 1 view h

-- The UIDs of a listing above a UID ascend.
pub rows_after_rising : (uid low : ℕ) (rows : List ListedMessage) → AreRisingRows low rows → AreRisingFrom low (map (λ (row : ListedMessage). row.uid) (rows_after_uid uid rows))
rows_after_rising uid low [] h = tt
rows_after_rising uid low (row ∷ rows) h =
    let rest = rows_after_rising uid (row.uid + 1) rows h.1 in
    elim (cases_Bool (nat_lt uid row.uid)) [
      | inl t ↦ rw t (h.0, rest)
      | inr f ↦ rw f (rising_lower low (row.uid + 1) (map (λ (row : ListedMessage). row.uid) (rows_after_uid uid rows)) (omega (arith, h.0)) rest)
    ]

-- ---- building a set of numbers

greatest_append : (numbers : List ℕ) (n : ℕ) → greatest (numbers ++ n ∷ []) ≡ max (greatest numbers) n
greatest_append [] n = omega arith
greatest_append (m ∷ numbers) n = let e = greatest_append numbers n in ap (λ k. max m k) e ∙ omega arith

drop_is_cons : (xs : List ℕ) (k d : ℕ) → k < length xs → drop k xs ≡ get_or xs k d ∷ drop (k + 1) xs
drop_is_cons [] k d l = absurd (omega arith)
drop_is_cons (x ∷ xs) zero d l = refl
drop_is_cons (x ∷ xs) (suc k) d l = let e : suc k + 1 ≡ suc (k + 1) = omega arith in rw e (drop_is_cons xs k d (omega arith))

pub set_append : (set new numbers : List ℕ) (k d : ℕ) (total : List ℕ) → k < length numbers → new ≡ set ++ get_or numbers k d ∷ [] → set ++ drop k numbers ≡ total → new ++ drop (k + 1) numbers ≡ total
set_append set new numbers k d total l n i =
    ap (λ xs. xs ++ drop (k + 1) numbers) n
    ∙ append_assoc set (get_or numbers k d ∷ []) (drop (k + 1) numbers)
    ∙ ap (λ xs. set ++ xs) (sym (drop_is_cons numbers k d l))
    ∙ i

pub number_above : (set new numbers : List ℕ) (k d : ℕ) → k < length numbers → new ≡ set ++ get_or numbers k d ∷ [] → AreRisingFrom (greatest set + 1) (drop k numbers) → AreRisingFrom (greatest new + 1) (drop (k + 1) numbers)
number_above set new numbers k d l n i =
    let h : AreRisingFrom (greatest set + 1) (get_or numbers k d ∷ drop (k + 1) numbers) = subst (λ xs. AreRisingFrom (greatest set + 1) xs) (drop_is_cons numbers k d l) i in
    let g : greatest new ≡ max (greatest set) (get_or numbers k d) = ap greatest n ∙ greatest_append set (get_or numbers k d) in
    let first : greatest set + 1 ≤ get_or numbers k d = h.0 in
    let e : get_or numbers k d + 1 ≡ greatest new + 1 = omega (arith, g) in
    subst (λ low. AreRisingFrom low (drop (k + 1) numbers)) e h.1

pub first_above : (set numbers : List ℕ) (k d : ℕ) → k < length numbers → AreRisingFrom (greatest set + 1) (drop k numbers) → greatest set < get_or numbers k d
first_above set numbers k d l i =
    let h : AreRisingFrom (greatest set + 1) (get_or numbers k d ∷ drop (k + 1) numbers) = subst (λ xs. AreRisingFrom (greatest set + 1) xs) (drop_is_cons numbers k d l) i in
    let first : greatest set + 1 ≤ get_or numbers k d = h.0 in
    omega arith
