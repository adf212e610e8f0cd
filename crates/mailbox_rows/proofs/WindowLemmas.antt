-- Messages through a window, and searches by UID.
use Rattle.std.specs.Result.{is_err, is_ok}
use Rattle.std.proofs.Common.{Result, Ok, Err, IfOk, OnOk, ◌≡◌, inl, inr, ℕ, Bool, zero, suc, ◌+◌, ◌-◌, ◌<◌, ◌≤◌, true, false, nat_lt, nat_eq, ltb, ◌==◌, if◌then◌else◌, List, [], ◌∷◌, ◌++◌, length, drop, take, get_or, refl, sym, ap, arith, subst, ◌∙◌, Option, Some, None, option_map}
use Rattle.std.specs.List.{filter, slice_get}
use Rattle.std.proofs.lemmas.Bool.{cases_Bool, cases_order}
use Rattle.std.proofs.lemmas.Bool.Decides.{nat_tests}
use Rattle.tags_clocks.specs.declared.id.OpId.{OpId}
use Rattle.mailbox_rows.specs.ListedMessage.{ListedHead, ListedMessage}
use Rattle.mailbox_rows.specs.RowViews.{AreRisingRows, rows_after_uid, changed_since, head_of, last_uid, row_of}
use Rattle.mailbox_rows.specs.MessageData.{row_by, rows_by}
use Rattle.mailbox_rows.specs.declared.entry.ListingEntry.{ListingEntry}
use Rattle.mailbox_rows.specs.declared.folder_messages.FolderMessages.{FolderMessages}
use Rattle.mailbox_rows.specs.declared.folder_messages.OwnedMessage.{OwnedMessage}
use Rattle.mailbox_rows.specs.Windows.{IsEdge}
use Rattle.mailbox_rows.specs.ChangedEntries.{changed_since as entries_since}
use Rattle.std.specs.Prelude.{is_some}
use Rattle.mailbox_rows.specs.ListingEntries.{AreRising}
use Rattle.std.specs.Option.{option_to_list, unwrap_or}

-- ---- the message's data

pub rows_length : (fresh : List (OpId × OwnedMessage)) (mailbox : FolderMessages) (es : List ListingEntry) → length (rows_by fresh mailbox es) ≡ length es
rows_length fresh mailbox [] = refl
rows_length fresh mailbox (e ∷ es) = ap (λ n. suc n) (rows_length fresh mailbox es)

pub rows_get : (fresh : List (OpId × OwnedMessage)) (mailbox : FolderMessages) (es : List ListingEntry) (k : ℕ) → slice_get (rows_by fresh mailbox es) k ≡ option_map (row_by fresh mailbox) (slice_get es k)
rows_get fresh mailbox [] k = refl
rows_get fresh mailbox (e ∷ es) zero = refl
rows_get fresh mailbox (e ∷ es) (suc k) = rows_get fresh mailbox es k

pub rows_uid : (fresh : List (OpId × OwnedMessage)) (mailbox : FolderMessages) (es : List ListingEntry) (k : ℕ) → option_map (λ (row : ListedMessage). row.uid) (slice_get (rows_by fresh mailbox es) k) ≡ option_map (λ (e : ListingEntry). e.uid) (slice_get es k)
rows_uid fresh mailbox [] k = refl
rows_uid fresh mailbox (e ∷ es) zero = refl
rows_uid fresh mailbox (e ∷ es) (suc k) = rows_uid fresh mailbox es k

-- ---- ascending UIDs

pub length_of_rising : (low : ℕ) (rows : List ListedMessage) → AreRisingRows (low + 1) rows → low + length rows ≤ last_uid low rows
length_of_rising low [] h = omega arith
length_of_rising low (row ∷ rows) h =
    let first : low + 1 ≤ row.uid = h.0 in
    let rest : row.uid + length rows ≤ last_uid row.uid rows = length_of_rising row.uid rows h.1 in
    omega arith

pub last_some : (low : ℕ) (rows : List ListedMessage) (uid : ℕ) → Some uid ≡ option_map (λ (row : ListedMessage). row.uid) (slice_get rows (length rows - 1)) → uid ≡ last_uid low rows
last_some low [] uid h = absurd (cc h)
last_some low (x ∷ []) uid h = cc
last_some low (x ∷ y ∷ rows) uid h =
    let k : suc (suc (length rows)) - 1 ≡ suc (suc (length rows) - 1) = omega arith in
    last_some x.uid (y ∷ rows) uid (rw k at h)

pub last_none : (rows : List ListedMessage) → None ≡ option_map (λ (row : ListedMessage). row.uid) (slice_get rows (length rows - 1)) → 0 ≡ last_uid 0 rows
last_none [] e = refl
last_none (x ∷ rows) e = absurd (uid_at_not_none (x ∷ rows) (length (x ∷ rows) - 1) x (omega arith) e)
  where
    uid_at_not_none : (xs : List ListedMessage) (i : ℕ) (d : ListedMessage) → i < length xs → None ≡ option_map (λ (row : ListedMessage). row.uid) (slice_get xs i) → ⊥
    uid_at_not_none [] i d h e = omega (arith, h)
    uid_at_not_none (y ∷ xs) zero d h e = cc e
    uid_at_not_none (y ∷ xs) (suc i) d h e = uid_at_not_none xs i d (omega (arith, h)) e

rising_from : (low : ℕ) (rows : List ListedMessage) → AreRisingRows low rows → (j : ℕ) (d : ListedMessage) → j < length rows → low ≤ (get_or rows j d).uid
rising_from low [] h j d k = absurd (omega (arith, k))
rising_from low (row ∷ rows) h zero d k = h.0
rising_from low (row ∷ rows) h (suc j) d k =
    let first : low ≤ row.uid = h.0 in
    let rest : row.uid + 1 ≤ (get_or rows j d).uid = rising_from (row.uid + 1) rows h.1 j d (omega (arith, k)) in
    omega arith

rising_pair : (low : ℕ) (rows : List ListedMessage) → AreRisingRows low rows → (i j : ℕ) (d : ListedMessage) → i < j → j < length rows → (get_or rows i d).uid < (get_or rows j d).uid
rising_pair low [] h i j d less k = absurd (omega (arith, k))
rising_pair low (row ∷ rows) h zero zero d less k = absurd (omega (arith, less))
rising_pair low (row ∷ rows) h zero (suc j) d less k =
    let rest : row.uid + 1 ≤ (get_or rows j d).uid = rising_from (row.uid + 1) rows h.1 j d (omega (arith, k)) in
    omega arith
rising_pair low (row ∷ rows) h (suc i) zero d less k = absurd (omega (arith, less))
rising_pair low (row ∷ rows) h (suc i) (suc j) d less k = rising_pair (row.uid + 1) rows h.1 i j d (omega (arith, less)) (omega (arith, k))

ltb_true : (a b : ℕ) → ltb a b ≡ true → a < b
ltb_true a b h = grind (arith, nat_tests)

ltb_false : (a b : ℕ) → ltb a b ≡ false → b ≤ a
ltb_false a b h = grind (arith, nat_tests)

-- The first `n` messages have UIDs below a number, and no others do.
pub record IsSeam (uid : ℕ) (rows : List ListedMessage) (n : ℕ) : Type 0 where
  pub below : (i : ℕ) (d : ListedMessage) → i < n → i < length rows → (get_or rows i d).uid < uid
  pub above : (i : ℕ) (d : ListedMessage) → n ≤ i → i < length rows → uid ≤ (get_or rows i d).uid

pub seam_at : (uid : ℕ) (rows : List ListedMessage) (n : ℕ) → AreRisingRows 1 rows → n ≤ length rows → ((d : ListedMessage) → IsEdge (λ i. ltb (get_or rows i d).uid uid) (length rows) n) → IsSeam uid rows n
seam_at uid rows n h within edge = record {
  below = λ i d less inside.
      let last : (get_or rows (n - 1) d).uid < uid = ltb_true _ _ ((edge d).pass (omega (arith, less))) in
      elim (cases_order i (n - 1)) [
        | inl same ↦ subst (λ k. (get_or rows k d).uid < uid) (sym same) last
        | inr (inl front) ↦ omega (arith, last, rising_pair 1 rows h i (n - 1) d front (omega (arith, less, within)))
        | inr (inr tail) ↦ absurd (omega (arith, tail, less))
      ];
  above = λ i d from inside.
      let first : uid ≤ (get_or rows n d).uid = ltb_false _ _ ((edge d).fail (omega (arith, from, inside))) in
      elim (cases_order n i) [
        | inl same ↦ subst (λ k. uid ≤ (get_or rows k d).uid) same first
        | inr (inl front) ↦ omega (arith, first, rising_pair 1 rows h n i d front inside)
        | inr (inr tail) ↦ absurd (omega (arith, tail, from))
      ];
}

seam_rest : (uid : ℕ) (row : ListedMessage) (rows : List ListedMessage) (n : ℕ) → IsSeam uid (row ∷ rows) (suc n) → IsSeam uid rows n
seam_rest uid row rows n s = record {
  below = λ i d less inside. s.below (suc i) d (omega (arith, less)) (omega (arith, inside));
  above = λ i d from inside. s.above (suc i) d (omega (arith, from)) (omega (arith, inside));
}

seam_next : (uid : ℕ) (row : ListedMessage) (rows : List ListedMessage) → IsSeam uid (row ∷ rows) 0 → IsSeam uid rows 0
seam_next uid row rows s = record {
  below = λ i d less inside. absurd (omega (arith, less));
  above = λ i d from inside. s.above (suc i) d (omega arith) (omega (arith, inside));
}

-- ---- places

pub beyond_seam : (uid : ℕ) (rows : List ListedMessage) (n : ℕ) → n ≤ length rows → IsSeam (uid + 1) rows n → drop n rows ≡ rows_after_uid uid rows
beyond_seam uid [] zero m s = refl
beyond_seam uid [] (suc n) m s = absurd (omega (arith, m))
beyond_seam uid (row ∷ rows) zero m s =
    let first : uid + 1 ≤ row.uid = s.above 0 row (omega arith) (omega arith) in
    let is : nat_lt uid row.uid ≡ true = grind (arith, nat_tests) in
    rw is (ap (λ rs. row ∷ rs) (beyond_seam uid rows zero (omega arith) (seam_next (uid + 1) row rows s)))
beyond_seam uid (row ∷ rows) (suc n) m s =
    let first : row.uid < uid + 1 = s.below 0 row (omega arith) (omega arith) in
    let is : nat_lt uid row.uid ≡ false = grind (arith, nat_tests) in
    rw is (beyond_seam uid rows n (omega (arith, m)) (seam_rest (uid + 1) row rows n s))

-- ---- look-ups

none_under : (uid low : ℕ) (rows : List ListedMessage) → uid < low → AreRisingRows low rows → row_of uid rows ≡ None
none_under uid low [] k h = refl
none_under uid low (row ∷ rows) k h =
    let first : low ≤ row.uid = h.0 in
    let is : nat_eq row.uid uid ≡ false = grind (arith, nat_tests) in
    rw is (none_under uid (row.uid + 1) rows (omega arith) h.1)

-- The result of a search: the message at the first place whose UID is no less, if its UID is this
-- one.
abbrev pub if_uid : ℕ → Option ListedMessage → Option ListedMessage
if_uid uid None = None
if_uid uid (Some row) = if row.uid == uid then Some row else None

pub row_of_seam : (uid low : ℕ) (rows : List ListedMessage) (n : ℕ) → AreRisingRows low rows → IsSeam uid rows n → if_uid uid (slice_get rows n) ≡ row_of uid rows
row_of_seam uid low [] n h s = refl
row_of_seam uid low (row ∷ rows) zero h s =
    let first : uid ≤ row.uid = s.above 0 row (omega arith) (omega arith) in
    elim (cases_Bool (nat_eq row.uid uid)) [
      | inl t ↦ rw t refl
      | inr f ↦ rw f (sym (none_under uid (row.uid + 1) rows (grind (arith, nat_tests)) h.1))
    ]
row_of_seam uid low (row ∷ rows) (suc n) h s =
    let first : row.uid < uid = s.below 0 row (omega arith) (omega arith) in
    let is : nat_eq row.uid uid ≡ false = grind (arith, nat_tests) in
    rw is (row_of_seam uid (row.uid + 1) rows n h.1 (seam_rest uid row rows n s))

-- A message at a place is the one with its UID.
at_least : (low : ℕ) (rows : List ListedMessage) (n : ℕ) (row : ListedMessage) → AreRisingRows low rows → slice_get rows n ≡ Some row → low ≤ row.uid
at_least low [] n row h g = cc g
at_least low (first ∷ rows) zero row h g =
    let front : low ≤ first.uid = h.0 in
    let same : first.uid ≡ row.uid = ap (λ o. (unwrap_or o row).uid) g in
    omega arith
at_least low (first ∷ rows) (suc n) row h g =
    let front : low ≤ first.uid = h.0 in
    let rest : first.uid + 1 ≤ row.uid = at_least (first.uid + 1) rows n row h.1 g in
    omega arith

pub row_of_get : (low : ℕ) (rows : List ListedMessage) (n : ℕ) (row : ListedMessage) → AreRisingRows low rows → slice_get rows n ≡ Some row → row_of row.uid rows ≡ Some row
row_of_get low [] n row h g = cc g
row_of_get low (other ∷ rows) zero row h g =
    let same : other.uid ≡ row.uid = ap (λ o. (unwrap_or o row).uid) g in
    let is : nat_eq other.uid row.uid ≡ true = grind (arith, nat_tests) in
    rw is g
row_of_get low (other ∷ rows) (suc n) row h g =
    let later : other.uid + 1 ≤ row.uid = at_least (other.uid + 1) rows n row h.1 g in
    let is : nat_eq other.uid row.uid ≡ false = grind (arith, nat_tests) in
    rw is (row_of_get (other.uid + 1) rows n row h.1 g)

-- ---- rows that are left out

pub lower : (low high : ℕ) (rows : List ListedMessage) → low ≤ high → AreRisingRows high rows → AreRisingRows low rows
lower low high [] l h = tt
lower low high (row ∷ rows) l h = let first : high ≤ row.uid = h.0 in (omega (arith, l, first), h.1)

pub rising_left : (p : ListedMessage → Bool) (low : ℕ) (rows : List ListedMessage) → AreRisingRows low rows → AreRisingRows low (filter p rows)
rising_left p low [] h = tt
rising_left p low (row ∷ rows) h =
    let first : low ≤ row.uid = h.0 in
    elim (cases_Bool (p row)) [
      | inl t ↦ rw t (first, rising_left p (row.uid + 1) rows h.1)
      | inr f ↦ rw f (rising_left p low rows (lower low (row.uid + 1) rows (omega (arith, first)) h.1))
    ]

-- The rows of the entries that changed are the rows that changed.
pub rows_changed : (modseq : ℕ) (fresh : List (OpId × OwnedMessage)) (mailbox : FolderMessages) (es : List ListingEntry) → rows_by fresh mailbox (entries_since modseq es) ≡ changed_since modseq (rows_by fresh mailbox es)
rows_changed modseq fresh mailbox [] = refl
rows_changed modseq fresh mailbox (e ∷ es) =
    elim (cases_Bool (nat_lt modseq e.modseq)) [
      | inl t ↦ rw t (ap (λ rs. row_by fresh mailbox e ∷ rs) (rows_changed modseq fresh mailbox es))
      | inr f ↦ rw f (rows_changed modseq fresh mailbox es)
    ]

pub same_number : (a b : ℕ) → nat_eq a b ≡ true → a ≡ b
same_number a b h = grind (arith, nat_tests)

-- If the message at a place has this UID, a message with this UID exists.
pub uid_listed : (rows : List ListedMessage) (place uid : ℕ) → AreRisingRows 1 rows → option_map (λ (row : ListedMessage). row.uid) (slice_get rows place) ≡ Some uid → is_some (row_of uid rows) ≡ true
uid_listed rows place uid h e = listed_at (slice_get rows place) refl e
  where
    listed_at : (o : Option ListedMessage) → slice_get rows place ≡ o → option_map (λ (row : ListedMessage). row.uid) o ≡ Some uid → is_some (row_of uid rows) ≡ true
    listed_at None is k = absurd (cc k)
    listed_at (Some row) is k =
        let same : row.uid ≡ uid = cc k in
        ap is_some (subst (λ u. row_of u rows ≡ Some row) same (row_of_get 1 rows place row h is))

-- If the message at a place has this UID, its head is that of the message with this UID.
pub head_listed : (rows : List ListedMessage) (place uid : ℕ) (head : ListedHead) → AreRisingRows 1 rows → Some head ≡ option_map head_of (slice_get rows place) → head.uid ≡ uid → Some head ≡ option_map head_of (row_of uid rows)
head_listed rows place uid head h e u = listed_at (slice_get rows place) refl e
  where
    listed_at : (o : Option ListedMessage) → slice_get rows place ≡ o → Some head ≡ option_map head_of o → Some head ≡ option_map head_of (row_of uid rows)
    listed_at None is k = absurd (cc k)
    listed_at (Some row) is k =
        let same : row.uid ≡ uid = sym (ap (λ (o : Option ListedHead). (unwrap_or o head).uid) k) ∙ u in
        k ∙ ap (option_map head_of) (sym (subst (λ n. row_of n rows ≡ Some row) same (row_of_get 1 rows place row h is)))

-- The messages of entries by ascending UID have ascending UIDs.
pub rows_rising : (low : ℕ) (fresh : List (OpId × OwnedMessage)) (mailbox : FolderMessages) (es : List ListingEntry) → AreRising low es → AreRisingRows low (rows_by fresh mailbox es)
rows_rising low fresh mailbox [] r = tt
rows_rising low fresh mailbox (e ∷ es) r = (r.0, rows_rising (e.uid + 1) fresh mailbox es r.1)

pub on_ok : {A B : Type 0} {P : Type 0} (r : Result A B) → is_err r ≡ false → OnOk r P → P
on_ok (Ok v) e h = h
on_ok (Err v) e h = absurd (cc e)

pub if_ok : {A B : Type 0} {P Q : A → Type 0} (r : Result A B) → ((a : A) → P a → Q a) → IfOk r P → IfOk r Q
if_ok (Ok v) f h = f v h
if_ok (Err v) f h = h
