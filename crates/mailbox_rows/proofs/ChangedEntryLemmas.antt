-- The entries in an index by mod-sequence, and the search for entries by it.
use Rattle.std.proofs.Common.{◌≡◌, inl, inr, ℕ, Bool, zero, suc, ◌+◌, ◌-◌, ◌<◌, ◌≤◌, true, false, nat_lt, nat_eq, leb, ltb, ◌&&◌, if◌then◌else◌, List, [], ◌∷◌, ◌++◌, length, drop, take, set, remove, get_or, refl, sym, ap, subst, ◌∙◌, arith, Option, Some, None, Result, Ok, Err, OnOk}
use Rattle.std.specs.Prelude.{slice_index_or}
use Rattle.std.specs.List.{filter, list_any, slice_get}
use Rattle.std.specs.List.Sorted.{IsNonDecreasingBy, IsPermutation}
use Rattle.std.specs.Option.{option_to_list}
use Rattle.std.proofs.lemmas.Bool.{cases_Bool, cases_order}
use Rattle.std.proofs.lemmas.Bool.Decides.{nat_tests}
use Rattle.std.proofs.lemmas.List.Sorted.{list_any-IsPermutation}
use Rattle.modseq_index.specs.declared.index.ModSeqEntry.{ModSeqEntry}
use Rattle.mailbox_rows.specs.declared.entry.ListingEntry.{ListingEntry}
use Rattle.modseq_index.specs.ModSeqIndex.{latest, uids_above}
use Rattle.mailbox_rows.specs.ChangedEntries.{AreAmong, AreAscending, AreNoted, IsNoted, changed_since, changed_with, is_of, modseq_entries_of}
use Rattle.mailbox_rows.specs.ListingEntries.{AreRising, IsEdge}
use Rattle.mailbox_rows.proofs.IndexLemmas.{get_at_edge}

leb_true : (a b : ℕ) → leb a b ≡ true → a ≤ b
leb_true a b h = grind (arith, nat_tests)

leb_false : (a b : ℕ) → leb a b ≡ false → b < a
leb_false a b h = grind (arith, nat_tests)

nat_lt_true : (a b : ℕ) → nat_lt a b ≡ true → a < b
nat_lt_true a b h = grind (arith, nat_tests)

nat_eq_is : (a b : ℕ) → nat_eq a b ≡ true → a ≡ b
nat_eq_is a b h = grind (arith, nat_tests)

lower_rising : (low high : ℕ) (es : List ListingEntry) → low ≤ high → AreRising high es → AreRising low es
lower_rising low high [] l h = tt
lower_rising low high (e ∷ es) l h = let first : high ≤ e.uid = h.0 in (omega (arith, l, first), h.1)

pub both_true : (a b : Bool) → (a && b) ≡ true → (a ≡ true) × (b ≡ true)
both_true true true h = (refl, refl)
both_true true false h = absurd (cc h)
both_true false b h = absurd (cc h)

-- ---- which entries are noted

pub own_change : (e : ListingEntry) (c : ModSeqEntry) → c.modseq ≡ e.modseq → c.uid ≡ e.uid → is_of e c ≡ true
own_change e c m u = grind (arith, nat_tests)

pub noted_last : (cs : List ModSeqEntry) (c : ModSeqEntry) (e : ListingEntry) → is_of e c ≡ true → IsNoted (cs ++ c ∷ []) e
noted_last [] c e h = rw h refl
noted_last (x ∷ cs) c e h =
    elim (cases_Bool (is_of e x)) [
      | inl t ↦ rw t refl
      | inr f ↦ rw f (noted_last cs c e h)
    ]

pub noted_longer : (cs more : List ModSeqEntry) (e : ListingEntry) → IsNoted cs e → IsNoted (cs ++ more) e
noted_longer [] more e h = absurd (cc h)
noted_longer (x ∷ cs) more e h =
    elim (cases_Bool (is_of e x)) [
      | inl t ↦ rw t refl
      | inr f ↦ rw f (noted_longer cs more e (rw f at h))
    ]

noted_cons : (c : ModSeqEntry) (cs : List ModSeqEntry) (e : ListingEntry) → IsNoted cs e → IsNoted (c ∷ cs) e
noted_cons c cs e h =
    elim (cases_Bool (is_of e c)) [
      | inl t ↦ rw t refl
      | inr f ↦ rw f h
    ]

pub noted_over : (stored own : List ModSeqEntry) (e : ListingEntry) → IsNoted own e → IsNoted (stored ++ own) e
noted_over [] own e h = h
noted_over (c ∷ stored) own e h = noted_cons c (stored ++ own) e (noted_over stored own e h)

pub noted_append_weaker : (stored old new : List ModSeqEntry) (e : ListingEntry) → (IsNoted old e → IsNoted new e) → IsNoted (stored ++ old) e → IsNoted (stored ++ new) e
noted_append_weaker [] old new e f h = f h
noted_append_weaker (c ∷ stored) old new e f h =
    elim (cases_Bool (is_of e c)) [
      | inl t ↦ rw t refl
      | inr n ↦ rw n (noted_append_weaker stored old new e f (rw n at h))
    ]

pub are_noted_weaker : (cs ds : List ModSeqEntry) (es : List ListingEntry) → ((e : ListingEntry) → IsNoted cs e → IsNoted ds e) → AreNoted cs es → AreNoted ds es
are_noted_weaker cs ds [] f h = tt
are_noted_weaker cs ds (e ∷ es) f h = (f e h.0, are_noted_weaker cs ds es f h.1)

pub noted_put : (cs : List ModSeqEntry) (es : List ListingEntry) (x : ListingEntry) → IsNoted cs x → AreNoted cs es → AreNoted cs (es ++ x ∷ [])
noted_put cs [] x n h = (n, tt)
noted_put cs (e ∷ es) x n h = (h.0, noted_put cs es x n h.1)

pub noted_without : (cs : List ModSeqEntry) (es : List ListingEntry) (k : ℕ) → AreNoted cs es → AreNoted cs (remove es k)
noted_without cs [] zero h = tt
noted_without cs [] (suc k) h = tt
noted_without cs (e ∷ es) zero h = h.1
noted_without cs (e ∷ es) (suc k) h = (h.0, noted_without cs es k h.1)

pub noted_set : (cs : List ModSeqEntry) (es : List ListingEntry) (k : ℕ) (x : ListingEntry) → IsNoted cs x → AreNoted cs es → AreNoted cs (set es k x)
noted_set cs [] k x n h = tt
noted_set cs (e ∷ es) zero x n h = (n, h.1)
noted_set cs (e ∷ es) (suc k) x n h = (h.0, noted_set cs es k x n h.1)

-- A new entry, noted in the index of edits.
pub noted_own : (stored own : List ModSeqEntry) (x : ListingEntry) → IsNoted (stored ++ (own ++ record { modseq = x.modseq; uid = x.uid } ∷ [])) x
noted_own stored own x = noted_over stored (own ++ record { modseq = x.modseq; uid = x.uid } ∷ []) x (noted_last own (record { modseq = x.modseq; uid = x.uid }) x (own_change x (record { modseq = x.modseq; uid = x.uid }) refl refl))

-- Entries that were noted still are after one further entry of the index.
pub noted_still : (stored own : List ModSeqEntry) (c : ModSeqEntry) (es : List ListingEntry) → AreNoted (stored ++ own) es → AreNoted (stored ++ (own ++ c ∷ [])) es
noted_still stored own c es h = are_noted_weaker (stored ++ own) (stored ++ (own ++ c ∷ [])) es (λ e. noted_append_weaker stored own (own ++ c ∷ []) e (noted_longer own (c ∷ []) e)) h

pub noted_all : (es : List ListingEntry) → AreNoted (modseq_entries_of es) es
noted_all [] = tt
noted_all (e ∷ es) =
    let own : ModSeqEntry = record { modseq = e.modseq; uid = e.uid } in
    let is : is_of e own ≡ true = own_change e own refl refl in (
      rw is refl,
      are_noted_weaker (modseq_entries_of es) (own ∷ modseq_entries_of es) es (λ x h. noted_cons own (modseq_entries_of es) x h) (noted_all es),
    )

-- ---- the latest mod-sequence

pub latest_put : (cs : List ModSeqEntry) (c : ModSeqEntry) → latest cs ≤ c.modseq → latest (cs ++ c ∷ []) ≡ c.modseq
latest_put [] c h = omega arith
latest_put (x ∷ cs) c h = let rest = latest_put cs c (omega (arith, h)) in omega (arith, h, rest)

above_latest : (m : ℕ) (cs : List ModSeqEntry) → latest cs ≤ m → list_any (λ (c : ModSeqEntry). nat_lt m c.modseq) cs ≡ false
above_latest m [] h = refl
above_latest m (c ∷ cs) h =
    let own : c.modseq ≤ m = omega (arith, h) in
    let no : nat_lt m c.modseq ≡ false = grind (arith, nat_tests) in
    rw no (above_latest m cs (omega (arith, h)))

latest_below : (m : ℕ) (cs : List ModSeqEntry) → list_any (λ (c : ModSeqEntry). nat_lt m c.modseq) cs ≡ false → latest cs ≤ m
latest_below m [] h = omega arith
latest_below m (c ∷ cs) h =
    elim (cases_Bool (nat_lt m c.modseq)) [
      | inl t ↦ absurd (cc (rw t at h))
      | inr f ↦ (let own : c.modseq ≤ m = grind (arith, nat_tests) in let rest = latest_below m cs (rw f at h) in omega (arith, own, rest))
    ]

noted_latest : (cs : List ModSeqEntry) (e : ListingEntry) → IsNoted cs e → e.modseq ≤ latest cs
noted_latest [] e h = absurd (cc h)
noted_latest (c ∷ cs) e h =
    elim (cases_Bool (is_of e c)) [
      | inl t ↦ (let same = nat_eq_is c.modseq e.modseq (both_true (nat_eq c.modseq e.modseq) (nat_eq c.uid e.uid) t).0 in omega (arith, same))
      | inr f ↦ (let rest = noted_latest cs e (rw f at h) in omega (arith, rest))
    ]

latest_noted : (cs : List ModSeqEntry) (es : List ListingEntry) → AreNoted cs es → latest (modseq_entries_of es) ≤ latest cs
latest_noted cs [] h = omega arith
latest_noted cs (e ∷ es) h = let own = noted_latest cs e h.0 in let rest = latest_noted cs es h.1 in omega (arith, own, rest)

-- The latest of the entries' own mod-sequences, in any order, is no greater than that of an index.
pub latest_rebuilt : (cs ds : List ModSeqEntry) (es : List ListingEntry) → IsPermutation (modseq_entries_of es) ds → AreNoted cs es → latest ds ≤ latest cs
latest_rebuilt cs ds es p h =
    let m = latest cs in
    latest_below m ds (sym (list_any-IsPermutation (λ (c : ModSeqEntry). nat_lt m c.modseq) (modseq_entries_of es) ds p) ∙ above_latest m (modseq_entries_of es) (latest_noted cs es h))

pub noted_permuted : (cs ds : List ModSeqEntry) (es : List ListingEntry) → IsPermutation cs ds → AreNoted cs es → AreNoted ds es
noted_permuted cs ds es p h = are_noted_weaker cs ds es (λ e n. sym (list_any-IsPermutation (is_of e) cs ds p) ∙ n) h

-- ---- a search for each UID

-- The results of searches for these UIDs; those below a number were searched for before.
abbrev pub search_results : ℕ → ℕ → List ℕ → List ListingEntry → List ListingEntry
search_results m low [] es = []
search_results m low (u ∷ us) es = if leb low u then changed_with m u es ++ search_results m (u + 1) us es else search_results m low us es

abbrev beyond : ℕ → List ListingEntry → List ListingEntry
beyond u es = filter (λ (e : ListingEntry). nat_lt u e.uid) es

with_beyond : (m u v : ℕ) (es : List ListingEntry) → u < v → changed_with m v (beyond u es) ≡ changed_with m v es
with_beyond m u v [] k = refl
with_beyond m u v (e ∷ es) k =
    let rest = with_beyond m u v es k in
    elim (cases_Bool (nat_lt u e.uid)) [
      | inl t ↦ rw t (elim (cases_Bool (nat_eq e.uid v && nat_lt m e.modseq)) [
        | inl y ↦ rw y (ap (λ x. e ∷ x) rest)
        | inr n ↦ rw n rest
      ])
      | inr f ↦ (let no : nat_eq e.uid v ≡ false = grind (arith, nat_tests) in rw f (rw no rest))
    ]

search_results_beyond : (m u low : ℕ) (us : List ℕ) (es : List ListingEntry) → u < low → search_results m low us (beyond u es) ≡ search_results m low us es
search_results_beyond m u low [] es k = refl
search_results_beyond m u low (v ∷ us) es k =
    elim (cases_Bool (leb low v)) [
      | inl t ↦
          let from : low ≤ v = leb_true low v t in
          rw t (ap (λ x. x ++ search_results m (v + 1) us (beyond u es)) (with_beyond m u v es (omega (arith, from, k))) ∙ ap (λ x. changed_with m v es ++ x) (search_results_beyond m u (v + 1) us es (omega (arith, from, k))))
      | inr f ↦ rw f (search_results_beyond m u low us es k)
    ]

none_with : (m u low : ℕ) (es : List ListingEntry) → u < low → AreRising low es → changed_with m u es ≡ []
none_with m u low [] k r = refl
none_with m u low (e ∷ es) k r =
    let first : low ≤ e.uid = r.0 in
    let no : nat_eq e.uid u ≡ false = grind (arith, nat_tests) in
    rw no (none_with m u (e.uid + 1) es (omega (arith, k, first)) r.1)

all_beyond : (u low : ℕ) (es : List ListingEntry) → u < low → AreRising low es → beyond u es ≡ es
all_beyond u low [] k r = refl
all_beyond u low (e ∷ es) k r =
    let first : low ≤ e.uid = r.0 in
    let is : nat_lt u e.uid ≡ true = grind (arith, nat_tests) in
    rw is (ap (λ x. e ∷ x) (all_beyond u (e.uid + 1) es (omega (arith, k, first)) r.1))

-- No entry with a UID below this one has a greater mod-sequence.
abbrev AreQuietBelow : ℕ → ℕ → List ListingEntry → Type 0
AreQuietBelow m u [] = Unit {0}
AreQuietBelow m u (e ∷ es) = (e.uid < u → nat_lt m e.modseq ≡ false) × AreQuietBelow m u es

parts_around : (m u low : ℕ) (es : List ListingEntry) → AreRising low es → AreQuietBelow m u es → changed_since m es ≡ changed_with m u es ++ changed_since m (beyond u es)
parts_around m u low [] r q = refl
parts_around m u low (e ∷ es) r q =
    elim (cases_order e.uid u) [
      | inl same ↦
          let no : nat_lt u e.uid ≡ false = grind (arith, nat_tests) in
          let is : nat_eq e.uid u ≡ true = grind (arith, nat_tests) in
          let rest = parts_around m u (e.uid + 1) es r.1 q.1 in
          rw no (rw is (elim (cases_Bool (nat_lt m e.modseq)) [
            | inl t ↦ rw t (ap (λ x. e ∷ x) rest)
            | inr f ↦ rw f rest
          ]))
      | inr (inl less) ↦
          let no : nat_lt u e.uid ≡ false = grind (arith, nat_tests) in
          let apart : nat_eq e.uid u ≡ false = grind (arith, nat_tests) in
          let quiet : nat_lt m e.modseq ≡ false = q.0 less in
          rw no (rw apart (rw quiet (parts_around m u (e.uid + 1) es r.1 q.1)))
      | inr (inr more) ↦
          let is : nat_lt u e.uid ≡ true = grind (arith, nat_tests) in
          let apart : nat_eq e.uid u ≡ false = grind (arith, nat_tests) in
          let none = none_with m u (e.uid + 1) es (omega (arith, more)) r.1 in
          let all = all_beyond u (e.uid + 1) es (omega (arith, more)) r.1 in
          rw is (rw apart (ap (λ x. changed_since m (e ∷ x)) (sym all) ∙ ap (λ x. x ++ changed_since m (e ∷ beyond u es)) (sym none)))
    ]

rising_left : (p : ListingEntry → Bool) (low : ℕ) (es : List ListingEntry) → AreRising low es → AreRising low (filter p es)
rising_left p low [] h = tt
rising_left p low (e ∷ es) h =
    let first : low ≤ e.uid = h.0 in
    elim (cases_Bool (p e)) [
      | inl t ↦ rw t (first, rising_left p (e.uid + 1) es h.1)
      | inr f ↦ rw f (rising_left p low es (lower_rising low (e.uid + 1) es (omega (arith, first)) h.1))
    ]

rising_beyond : (u low : ℕ) (es : List ListingEntry) → AreRising low es → AreRising (u + 1) (beyond u es)
rising_beyond u low [] h = tt
rising_beyond u low (e ∷ es) h =
    elim (cases_Bool (nat_lt u e.uid)) [
      | inl t ↦ (let more : u < e.uid = nat_lt_true u e.uid t in rw t (omega (arith, more), rising_left (λ (x : ListingEntry). nat_lt u x.uid) (e.uid + 1) es h.1))
      | inr f ↦ rw f (rising_beyond u (e.uid + 1) es h.1)
    ]

none_among : (m : ℕ) (es : List ListingEntry) → AreAmong m [] es → changed_since m es ≡ []
none_among m [] h = refl
none_among m (e ∷ es) h =
    elim (cases_Bool (nat_lt m e.modseq)) [
      | inl t ↦ absurd (cc (h.0 t))
      | inr f ↦ rw f (none_among m es h.1)
    ]

not_first : (u w : ℕ) (us : List ℕ) → nat_eq u w ≡ false → list_any (λ x. nat_eq x w) (u ∷ us) ≡ true → list_any (λ x. nat_eq x w) us ≡ true
not_first u w us n h = rw n at h

none_below : (low w : ℕ) (us : List ℕ) → w < low → AreAscending low us → list_any (λ x. nat_eq x w) us ≡ true → ⊥
none_below low w [] k a h = cc h
none_below low w (u ∷ us) k a h =
    let first : low ≤ u = a.0 in
    let no : nat_eq u w ≡ false = grind (arith, nat_tests) in
    none_below u w us (omega (arith, k, first)) a.1 (not_first u w us no h)

among_beyond : (m u : ℕ) (us : List ℕ) (es : List ListingEntry) → AreAmong m (u ∷ us) es → AreAmong m us (beyond u es)
among_beyond m u us [] h = tt
among_beyond m u us (e ∷ es) h =
    elim (cases_Bool (nat_lt u e.uid)) [
      | inl t ↦
          let no : nat_eq u e.uid ≡ false = grind (arith, nat_tests) in
          rw t ((λ c. not_first u e.uid us no (h.0 c)), among_beyond m u us es h.1)
      | inr f ↦ rw f (among_beyond m u us es h.1)
    ]

among_rest : (m u low : ℕ) (us : List ℕ) (es : List ListingEntry) → u < low → AreRising low es → AreAmong m (u ∷ us) es → AreAmong m us es
among_rest m u low us [] k r h = tt
among_rest m u low us (e ∷ es) k r h =
    let first : low ≤ e.uid = r.0 in
    let no : nat_eq u e.uid ≡ false = grind (arith, nat_tests) in
    ((λ c. not_first u e.uid us no (h.0 c)), among_rest m u (e.uid + 1) us es (omega (arith, k, first)) r.1 h.1)

quiet_below : (m u : ℕ) (us : List ℕ) (es : List ListingEntry) → AreAscending u us → AreAmong m (u ∷ us) es → AreQuietBelow m u es
quiet_below m u us [] a h = tt
quiet_below m u us (e ∷ es) a h = (
  λ less.
      elim (cases_Bool (nat_lt m e.modseq)) [
        | inl t ↦ (let no : nat_eq u e.uid ≡ false = grind (arith, nat_tests) in absurd (none_below u e.uid us less a (not_first u e.uid us no (h.0 t))))
        | inr f ↦ f
      ],
  quiet_below m u us es a h.1,
)

pub search_results_all : (m from low least : ℕ) (us : List ℕ) (es : List ListingEntry) → AreAscending from us → AreRising least es → low ≤ least → AreAmong m us es → search_results m low us es ≡ changed_since m es
search_results_all m from low least [] es a r l h = sym (none_among m es h)
search_results_all m from low least (u ∷ us) es a r l h =
    elim (cases_Bool (leb low u)) [
      | inl t ↦
          let rest = search_results_all m u (u + 1) (u + 1) us (beyond u es) a.1 (rising_beyond u least es r) (omega arith) (among_beyond m u us es h) in
          rw t (ap (λ x. changed_with m u es ++ x) (sym (search_results_beyond m u (u + 1) us es (omega arith)) ∙ rest) ∙ sym (parts_around m u least es r (quiet_below m u us es a.1 h)))
      | inr f ↦
          let less : u < low = leb_false low u f in
          rw f (search_results_all m u low least us es a.1 r l (among_rest m u least us es (omega (arith, less, l)) r h))
    ]

-- ---- which UIDs an index has above a mod-sequence

among_noted : (m : ℕ) (cs : List ModSeqEntry) (e : ListingEntry) → nat_lt m e.modseq ≡ true → IsNoted cs e → list_any (λ u. nat_eq u e.uid) (uids_above m cs) ≡ true
among_noted m [] e k h = absurd (cc h)
among_noted m (c ∷ cs) e k h =
    elim (cases_Bool (is_of e c)) [
      | inl t ↦
          let sames = both_true (nat_eq c.modseq e.modseq) (nat_eq c.uid e.uid) t in
          let is : nat_lt m c.modseq ≡ true = grind (arith, nat_tests) in
          let own : nat_eq c.uid e.uid ≡ true = sames.1 in
          rw is (rw own refl)
      | inr f ↦
          let later = among_noted m cs e k (rw f at h) in
          elim (cases_Bool (nat_lt m c.modseq)) [
            | inl y ↦ rw y (elim (cases_Bool (nat_eq c.uid e.uid)) [ inl s ↦ rw s refl | inr n ↦ rw n later ])
            | inr n ↦ rw n later
          ]
    ]

pub all_among : (m : ℕ) (cs : List ModSeqEntry) (us : List ℕ) (es : List ListingEntry) → ((w : ℕ) → list_any (λ u. nat_eq u w) us ≡ list_any (λ u. nat_eq u w) (uids_above m cs)) → AreNoted cs es → AreAmong m us es
all_among m cs us [] s h = tt
all_among m cs us (e ∷ es) s h = ((λ k. s e.uid ∙ among_noted m cs e k h.0), all_among m cs us es s h.1)

pub uids_above_append : (m : ℕ) (cs ds : List ModSeqEntry) → uids_above m cs ++ uids_above m ds ≡ uids_above m (cs ++ ds)
uids_above_append m [] ds = refl
uids_above_append m (c ∷ cs) ds =
    elim (cases_Bool (nat_lt m c.modseq)) [
      | inl t ↦ rw t (ap (λ x. c.uid ∷ x) (uids_above_append m cs ds))
      | inr f ↦ rw f (uids_above_append m cs ds)
    ]

pub ascending_from : (low : ℕ) (us : List ℕ) → ((d : ℕ) → 0 < length us → low ≤ slice_index_or us 0 d) → IsNonDecreasingBy (λ (u : ℕ). u) us → AreAscending low us
ascending_from low [] b h = tt
ascending_from low (u ∷ us) b h = (
  b u (omega arith),
  ascending_from u us (λ d k. h 0 1 d (omega arith) (omega arith)) (λ i j d l k. h (suc i) (suc j) d (omega arith) (omega arith)),
)

-- ---- one search

-- The result of one search: the entry, if it has this UID and a greater mod-sequence.
abbrev pub picked_from : ℕ → ℕ → Option ListingEntry → List ListingEntry
picked_from m u None = []
picked_from m u (Some e) = if nat_eq e.uid u && nat_lt m e.modseq then e ∷ [] else []

none_of : (m u : ℕ) (es : List ListingEntry) → ((k : ℕ) (d : ListingEntry) → k < length es → (get_or es k d).uid ≡ u → ⊥) → changed_with m u es ≡ []
none_of m u [] h = refl
none_of m u (e ∷ es) h =
    elim (cases_Bool (nat_eq e.uid u)) [
      | inl t ↦ absurd (h 0 e (omega arith) (nat_eq_is e.uid u t))
      | inr f ↦ rw f (none_of m u es (λ k d inside same. h (suc k) d (omega (arith, inside)) same))
    ]

only_of : (m u : ℕ) (es : List ListingEntry) (n : ℕ) → ((k : ℕ) (d : ListingEntry) → k < length es → (get_or es k d).uid ≡ u → k ≡ n) → changed_with m u es ≡ picked_from m u (slice_get es n)
only_of m u [] n h = refl
only_of m u (e ∷ es) zero h =
    let none = none_of m u es (λ k d inside same. absurd (omega (arith, h (suc k) d (omega (arith, inside)) same))) in
    elim (cases_Bool (nat_eq e.uid u && nat_lt m e.modseq)) [
      | inl t ↦ rw t (ap (λ x. e ∷ x) none)
      | inr f ↦ rw f none
    ]
only_of m u (e ∷ es) (suc n) h =
    elim (cases_Bool (nat_eq e.uid u)) [
      | inl t ↦ absurd (omega (arith, h 0 e (omega arith) (nat_eq_is e.uid u t)))
      | inr f ↦ rw f (only_of m u es n (λ k d inside same. let next = h (suc k) d (omega (arith, inside)) same in omega (arith, next)))
    ]

pub entries_with : (m u : ℕ) (es : List ListingEntry) (n : ℕ) → AreRising 1 es → n ≤ length es → ((d : ListingEntry) → IsEdge (λ i. ltb (get_or es i d).uid u) (length es) n) → changed_with m u es ≡ picked_from m u (slice_get es n)
entries_with m u es n r within edge = only_of m u es n (λ k d inside same. get_at_edge u es n r within edge k d inside same)

pub picked_same : (m u : ℕ) (e : ListingEntry) → e.uid ≡ u → picked_from m u (Some e) ≡ changed_since m (e ∷ [])
picked_same m u e h = let is : nat_eq e.uid u ≡ true = grind (arith, nat_tests) in rw is refl

pub picked_other : (m u : ℕ) (e : ListingEntry) → (e.uid ≡ u → ⊥) → picked_from m u (Some e) ≡ []
picked_other m u e h =
    elim (cases_Bool (nat_eq e.uid u)) [
      | inl t ↦ absurd (h (nat_eq_is e.uid u t))
      | inr f ↦ rw f refl
    ]

pub on_ok_then : {A B : Type 0} {P Q : Type 0} (r : Result A B) → (P → Q) → OnOk r P → OnOk r Q
on_ok_then (Ok v) f h = f h
on_ok_then (Err v) f h = h
