use Rattle.std.proofs.Common.{◌≡◌, ◌⊎◌, inl, inr, ℕ, ◌+◌, ◌-◌, ◌<◌, ◌≤◌, true, List, [], ◌∷◌, ◌++◌, map, Option, Some, None, nat_eq, nat_lt, refl, sym, ap, ◌∙◌, subst, arith, eq-eqb}
use Rattle.std.proofs.lemmas.Bool.{cases_Bool}
use Rattle.std.proofs.lemmas.Bool.Decides.{nat_tests}
use Rattle.crdt_ops.proofs.Members.{any_in, in_filter}
use Rattle.imap_answers.specs.declared.answer.Answer.{Answer}
use Rattle.imap_answers.specs.declared.answer.Answer.TheVariants.{Expunge, Exists, Fetch}
use Rattle.imap_answers.specs.Printable.{Each}
use Rattle.imap_types.specs.declared.flags.Flags.{Flags}
use Rattle.mailbox_rows.specs.ListedMessage.{ListedMessage}
use Rattle.mailbox_rows.specs.RowViews.{AreRisingRows, rows_after_uid, row_of}
use Rattle.merge_laws.specs.Orders.{IsIn}
use Rattle.merge_laws.proofs.Lists.{in_back, in_front, in_parts}
use Rattle.session_view.specs.Replay.{after_answer, after_answers, after_silent, with_fetched_flags, with_flags_at, view_after_reply}
use Rattle.session_view.specs.ViewState.{rows_under}
use Rattle.session_view.specs.Sync.{refreshed_entry, refreshed_entry_by, view_after_sync}
use Rattle.session_view.specs.Views.{LacksOnlyLaterRows, entries_of, entry_of, has_uid, last_from, last_uid}
use Rattle.session_view.specs.declared.view_entry.ViewEntry.{ViewEntry}
use Rattle.session_view.specs.declared.view_entry.SyncKind.TheVariants.{Partial}
use Rattle.session_view.specs.declared.reply_replay.SilentFlags.{SilentFlags}
use Rattle.session_view.specs.NoteChanges.{uids_of}

-- ---- answers that leave the UIDs as they are

abbrev pub IsQuiet : Answer → Type 0
IsQuiet (Expunge n) = ⊥
IsQuiet (Exists n) = ⊥
IsQuiet _ = Unit {0}

flagged_uids : (es : List ViewEntry) (k : ℕ) (flags : Flags) → uids_of (with_flags_at es k flags) ≡ uids_of es
flagged_uids [] k flags = refl
flagged_uids (e ∷ es) k flags =
    elim (cases_Bool (nat_eq k 1)) [
      | inl t ↦ rw t refl
      | inr f ↦ rw f (ap (λ (us : List ℕ). e.uid ∷ us) (flagged_uids es (k - 1) flags))
    ]

fetched_uids : (es : List ViewEntry) (k : ℕ) (flags : Option Flags) → uids_of (with_fetched_flags es k flags) ≡ uids_of es
fetched_uids es k None = refl
fetched_uids es k (Some flags) = flagged_uids es k flags

silent_uids : (es : List ViewEntry) (silents : List SilentFlags) → uids_of (after_silent es silents) ≡ uids_of es
silent_uids es [] = refl
silent_uids es (s ∷ silents) = silent_uids (with_flags_at es s.number s.flags) silents ∙ flagged_uids es s.number s.flags

quiet_uids : (rows : List ListedMessage) (es : List ViewEntry) (answer : Answer) → IsQuiet answer → uids_of (after_answer rows es answer) ≡ uids_of es
quiet_uids rows es (Expunge n) q = absurd q
quiet_uids rows es (Exists n) q = absurd q
quiet_uids rows es (Fetch n items) q = fetched_uids es n items.flags
quiet_uids rows es _ q = refl

answers_uids : (rows : List ListedMessage) (es : List ViewEntry) (answers : List Answer) → Each IsQuiet answers → uids_of (after_answers rows es answers) ≡ uids_of es
answers_uids rows es [] q = refl
answers_uids rows es (answer ∷ answers) q = answers_uids rows (after_answer rows es answer) answers q.1 ∙ quiet_uids rows es answer q.0

-- a view with silent flags and quiet answers replayed has the same UIDs
pub replayed_uids : (rows : List ListedMessage) (es : List ViewEntry) (silents : List SilentFlags) (answers : List Answer) → Each IsQuiet answers → uids_of (view_after_reply rows es silents answers) ≡ uids_of es
replayed_uids rows es silents answers q = answers_uids rows (after_silent es silents) answers q ∙ silent_uids es silents

-- ---- UIDs that a view has

in_map : {X Y : Type 0} (f : X → Y) (x : X) (xs : List X) → IsIn x xs → IsIn (f x) (map f xs)
in_map f x [] i = absurd i
in_map f x (y ∷ xs) i = elim i [ inl e ↦ inl (ap f e) | inr t ↦ inr (in_map f x xs t) ]

from_map : {X Y : Type 0} (f : X → Y) (y : Y) (xs : List X) → IsIn y (map f xs) → (x : X) × IsIn x xs × (f x ≡ y)
from_map f y [] i = absurd i
from_map f y (x ∷ xs) i = elim i [ inl e ↦ (x, inl refl, e) | inr t ↦ let w = from_map f y xs t in (w.0, inr w.1, w.2) ]

pub uid_here : (e : ViewEntry) (es : List ViewEntry) → IsIn e es → IsIn e.uid (uids_of es)
uid_here e es i = in_map (λ (x : ViewEntry). x.uid) e es i

uid_from : (uid : ℕ) (es : List ViewEntry) → IsIn uid (uids_of es) → (e : ViewEntry) × IsIn e es × (e.uid ≡ uid)
uid_from uid es i = from_map (λ (x : ViewEntry). x.uid) uid es i

has_it : (uid : ℕ) (es : List ViewEntry) → IsIn uid (uids_of es) → has_uid es uid ≡ true
has_it uid es i = let w = uid_from uid es i in (any_in (λ (e : ViewEntry). nat_eq e.uid uid) es).1 (w.0, w.1, eq-eqb w.0.uid uid w.2)

last_in : (b : ℕ) (es : List ViewEntry) → (last_from b es ≡ b) ⊎ ((e : ViewEntry) × IsIn e es × (last_from b es ≡ e.uid))
last_in b [] = inl refl
last_in b (e ∷ es) = elim (last_in e.uid es) [ inl q ↦ inr (e, inl refl, q) | inr w ↦ inr (w.0, inr w.1, w.2) ]

last_below : (es : List ViewEntry) (n : ℕ) → 0 < n → ((uid : ℕ) → IsIn uid (uids_of es) → uid < n) → last_uid es < n
last_below es n l h =
    elim (last_in 0 es) [
      | inl q ↦ omega (arith, l, q)
      | inr w ↦ let below = h w.0.uid (uid_here w.0 es w.1) in let q = w.2 in omega (arith, below, q)
    ]

-- ---- a listing in which a view lacks only messages that were added after the view's moment

-- the view has the UID, or it is above all of the view's
abbrev pub IsKnown : List ℕ → ℕ → Type 0
IsKnown uids uid = IsIn uid uids ⊎ ((other : ℕ) → IsIn other uids → other < uid)

has_uid_or_later : (es : List ViewEntry) (uid : ℕ) → 0 < uid → IsKnown (uids_of es) uid → (has_uid es uid ≡ true) ⊎ (last_uid es < uid)
has_uid_or_later es uid l h = elim h [ inl i ↦ inl (has_it uid es i) | inr above ↦ inr (last_below es uid l above) ]

pub lacks_later_all : (low : ℕ) (rows : List ListedMessage) (es : List ViewEntry) → 0 < low → AreRisingRows low rows → ((row : ListedMessage) → IsIn row rows → IsKnown (uids_of es) row.uid) → LacksOnlyLaterRows es rows
lacks_later_all low [] es l r h = tt
lacks_later_all low (row ∷ rows) es l r h =
    let first = r.0 in
    (has_uid_or_later es row.uid (omega (arith, l, first)) (h row (inl refl)), lacks_later_all (row.uid + 1) rows es (omega arith) r.1 (λ x i. h x (inr i)))

pub lacks_later_under : (uidvalidity : ℕ) (now : Option ℕ) (rows : List ListedMessage) (es : List ViewEntry) → (now ≡ Some uidvalidity → LacksOnlyLaterRows es rows) → LacksOnlyLaterRows es (rows_under uidvalidity now rows)
lacks_later_under uidvalidity None rows es h = tt
lacks_later_under uidvalidity (Some now) rows es h =
    elim (cases_Bool (nat_eq now uidvalidity)) [
      | inl t ↦ rw t (h (let same : now ≡ uidvalidity = grind (arith, nat_tests) in ap (λ (n : ℕ). Some n) same))
      | inr f ↦ rw f tt
    ]

-- ---- what a listing shows

pub listed_uid : (row : ListedMessage) (rows : List ListedMessage) → IsIn row rows → IsIn row.uid (uids_of (entries_of rows))
listed_uid row rows i = uid_here (entry_of row) (entries_of rows) (in_map entry_of row rows i)

pub uid_listed : (uid : ℕ) (rows : List ListedMessage) → IsIn uid (uids_of (entries_of rows)) → (row : ListedMessage) × IsIn row rows × (row.uid ≡ uid)
uid_listed uid rows i =
    let w = uid_from uid (entries_of rows) i in
    let v = from_map entry_of w.0 rows w.1 in
    (v.0, v.1, ap (λ (e : ViewEntry). e.uid) v.2 ∙ w.2)

pub beyond_first : (uid low : ℕ) (rows : List ListedMessage) → uid < low → AreRisingRows low rows → rows_after_uid uid rows ≡ rows
beyond_first uid low [] l h = refl
beyond_first uid low (row ∷ rows) l h =
    let k : low ≤ row.uid = h.0 in
    elim (cases_Bool (nat_lt uid row.uid)) [
      | inl t ↦ rw t (ap (λ (rs : List ListedMessage). row ∷ rs) (beyond_first uid (row.uid + 1) rows (omega (arith, l, k)) h.1))
      | inr f ↦ absurd (grind (arith, nat_tests))
    ]

-- ---- the view after a partial sync

refreshed_uid : (e : ViewEntry) (row : Option ListedMessage) → (refreshed_entry_by e row).uid ≡ e.uid
refreshed_uid e None = refl
refreshed_uid e (Some row) = refl

refreshed_in : (rows : List ListedMessage) (uid : ℕ) (es : List ViewEntry) → IsIn uid (uids_of es) → IsIn uid (uids_of (map (refreshed_entry rows) es))
refreshed_in rows uid [] i = absurd i
refreshed_in rows uid (e ∷ es) i = elim i [ inl q ↦ inl (refreshed_uid e (row_of e.uid rows) ∙ q) | inr t ↦ inr (refreshed_in rows uid es t) ]

refreshed_from : (rows : List ListedMessage) (uid : ℕ) (es : List ViewEntry) → IsIn uid (uids_of (map (refreshed_entry rows) es)) → IsIn uid (uids_of es)
refreshed_from rows uid [] i = absurd i
refreshed_from rows uid (e ∷ es) i = elim i [ inl q ↦ inl (sym (refreshed_uid e (row_of e.uid rows)) ∙ q) | inr t ↦ inr (refreshed_from rows uid es t) ]

uids_append : (xs ys : List ViewEntry) → uids_of (xs ++ ys) ≡ uids_of xs ++ uids_of ys
uids_append [] ys = refl
uids_append (x ∷ xs) ys = ap (λ (us : List ℕ). x.uid ∷ us) (uids_append xs ys)

above : (uid : ℕ) (row : ListedMessage) → uid < row.uid → nat_lt uid row.uid ≡ true
above uid row l = elim (cases_Bool (nat_lt uid row.uid)) [ inl t ↦ t | inr f ↦ absurd (grind (arith, nat_tests)) ]

-- after a partial sync, the view has each listed message that it had before or rightly lacked
pub partial_has : (rows : List ListedMessage) (es : List ViewEntry) (row : ListedMessage) → 0 < row.uid → IsIn row rows → IsKnown (uids_of es) row.uid → IsIn row.uid (uids_of (view_after_sync Partial rows es))
partial_has rows es row l i k =
    subst (IsIn row.uid) (sym (uids_append (map (refreshed_entry rows) es) (entries_of (rows_after_uid (last_uid es) rows))))
    (elim k [
      | inl t ↦ in_front row.uid (uids_of (map (refreshed_entry rows) es)) (uids_of (entries_of (rows_after_uid (last_uid es) rows))) (refreshed_in rows row.uid es t)
      | inr over ↦ in_back row.uid (uids_of (map (refreshed_entry rows) es)) (uids_of (entries_of (rows_after_uid (last_uid es) rows)))
          (listed_uid row (rows_after_uid (last_uid es) rows) ((in_filter (λ (r : ListedMessage). nat_lt (last_uid es) r.uid) rows row).1 (i, above (last_uid es) row (last_below es row.uid l over))))
    ])

-- after a partial sync, the view has only UIDs that it had before, and listed ones
pub partial_from : (rows : List ListedMessage) (es : List ViewEntry) (uid : ℕ) → IsIn uid (uids_of (view_after_sync Partial rows es)) → IsIn uid (uids_of es) ⊎ ((row : ListedMessage) × IsIn row rows × (row.uid ≡ uid))
partial_from rows es uid i =
    elim (in_parts uid (uids_of (map (refreshed_entry rows) es)) (uids_of (entries_of (rows_after_uid (last_uid es) rows))) (subst (IsIn uid) (uids_append (map (refreshed_entry rows) es) (entries_of (rows_after_uid (last_uid es) rows))) i)) [
      | inl t ↦ inl (refreshed_from rows uid es t)
      | inr t ↦
          let w = uid_listed uid (rows_after_uid (last_uid es) rows) t in
          inr (w.0, ((in_filter (λ (r : ListedMessage). nat_lt (last_uid es) r.uid) rows w.0).0 w.1).0, w.2)
    ]
