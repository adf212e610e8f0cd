-- What operations change in mailboxes: the UIDs that they touch, and those that are new.
use Rattle.std.specs.List.{list_any}
use Rattle.std.specs.Option.{option_map}
use Rattle.std.proofs.Common.{◌≡◌, ◌⊎◌, inl, inr, ℕ, ◌<◌, ◌≤◌, ◌+◌, Bool, true, false, List, [], ◌∷◌, ◌++◌, length, drop, get_or, Option, Some, None, refl, sym, ap, ◌∙◌, subst, arith}
use Rattle.std.specs.Prelude.{bytes_eq, nat_eq, nat_lt, if◌then◌else◌}
use Rattle.std.proofs.lemmas.Bool.{cases_Bool, false≢true}
use Rattle.std.proofs.lemmas.Bool.Decides.{nat_tests}
use Rattle.std.proofs.lemmas.List.{drop_all, drop_more}
use Rattle.std.proofs.lemmas.Slice.Eq.{bytes_eq-Decides}
use Rattle.merge_laws.specs.Orders.{IsIn}
use Rattle.crdt_ops.specs.declared.op.Op.{Op}
use Rattle.crdt_ops.specs.Tags.{name_of}
use Rattle.mailbox_rows.specs.ListedMessage.{ListedMessage}
use Rattle.mailbox_rows.specs.RowViews.{row_of}
use Rattle.imap_node.specs.SessionFeeds.{MailboxNotes, AreChangeNotes, NotesNameIn, is_named, notes_in}
use Rattle.imap_node.specs.ChangeNotes.{MailboxSnapshot, AreNamed, AreNotesSoFar, IsSnapshotOf, NamesTouched}
use Rattle.session_view.specs.NoteChanges.{flags_at, is_noted, note_names}
use Rattle.session_view.specs.ViewState.{rows_under}
use Rattle.session_view.specs.Views.{entries_of}
use Rattle.session_view.specs.declared.notes.Note.{Note}
use Rattle.session_view.specs.declared.notes.Note.TheVariants.{Changed, New}
use Rattle.uid_projection.specs.declared.first_numbers.Counters.{Counters}
use Rattle.uid_projection.specs.Applied.{IsApplied}
use Rattle.uid_projection.specs.Incarnations.{uidvalidity_of}
use Rattle.uid_projection.specs.UidsAndModSeqs.{kind_names_folder, uidnext_of}
use Rattle.uid_projection.specs.Listing.{listing}
use Rattle.uid_projection.proofs.CounterLemmas.{about_name}
use Rattle.uid_projection.proofs.Presence.{applied_front}
use Rattle.uid_projection.proofs.TouchedMessagesLemmas.{ends_at_uidnext}
use Rattle.imap_node.proofs.OtherFolderLemmas.{listings_other}
use Rattle.imap_node.proofs.FeedLemmas.{named_append}

-- ---- notes of UIDs

any_append : {X : Type 0} (p : X → Bool) (xs ys : List X) → list_any p xs ≡ true → list_any p (xs ++ ys) ≡ true
any_append p [] ys h = absurd (false≢true h)
any_append p (x ∷ xs) ys h = elim (cases_Bool (p x)) [ inl t ↦ rw t refl | inr f ↦ rw f (any_append p xs ys (rw f at h)) ]

any_last : {X : Type 0} (p : X → Bool) (xs : List X) (y : X) → p y ≡ true → list_any p (xs ++ y ∷ []) ≡ true
any_last p [] y h = rw h refl
any_last p (x ∷ xs) y h = elim (cases_Bool (p x)) [ inl t ↦ rw t refl | inr f ↦ rw f (any_last p xs y h) ]

pub names_changed : (uid : ℕ) → note_names uid (Changed uid) ≡ true
names_changed uid = grind (arith, nat_tests)

pub noted_or_dropped : (notes : List Note) (note : Note) (uids : List ℕ) (i d : ℕ) → i < length uids → note_names (get_or uids i d) note ≡ true → (uid : ℕ) → (is_noted notes uid ≡ true) ⊎ IsIn uid (drop i uids)
    → (is_noted (notes ++ note ∷ []) uid ≡ true) ⊎ IsIn uid (drop (i + 1) uids)
noted_or_dropped notes note uids i d l named uid h =
    elim h [
      | inl t ↦ inl (any_append (note_names uid) notes (note ∷ []) t)
      | inr j ↦ elim (subst (IsIn uid) (drop_more uids i d l) j) [
        | inl e ↦ inl (any_last (note_names uid) notes note (subst (λ (u : ℕ). note_names u note ≡ true) e named))
        | inr k ↦ inr k
      ]
    ]

pub noted_past_end : (notes : List Note) (uids : List ℕ) (i uid : ℕ) → length uids ≤ i → (is_noted notes uid ≡ true) ⊎ IsIn uid (drop i uids) → is_noted notes uid ≡ true
noted_past_end notes uids i uid l h = elim h [ inl t ↦ t | inr j ↦ absurd (subst (IsIn uid) (drop_all i uids l) j) ]

-- ---- one mailbox

flags_of : (uid : ℕ) (rows : List ListedMessage) → flags_at uid (entries_of rows) ≡ option_map (λ (r : ListedMessage). r.flags) (row_of uid rows)
flags_of uid [] = refl
flags_of uid (row ∷ rows) = elim (cases_Bool (nat_eq row.uid uid)) [ inl t ↦ rw t refl | inr f ↦ rw f (flags_of uid rows) ]

under_same : (v : ℕ) (n m : Option ℕ) (before after : List ListedMessage) (uid : ℕ) → n ≡ m → row_of uid after ≡ row_of uid before → flags_at uid (entries_of (rows_under v n before)) ≡ flags_at uid (entries_of (rows_under v m after))
under_same v n None before after uid e h = ap (λ (k : Option ℕ). flags_at uid (entries_of (rows_under v k before))) e
under_same v n (Some m) before after uid e h = ap (λ (k : Option ℕ). flags_at uid (entries_of (rows_under v k before))) e ∙ flags_at_if (nat_eq m v)
  where
    flags_at_if : (b : Bool) → flags_at uid (entries_of (if b then before else [])) ≡ flags_at uid (entries_of (if b then after else []))
    flags_at_if true = flags_of uid before ∙ ap (option_map (λ (r : ListedMessage). r.flags)) (sym h) ∙ sym (flags_of uid after)
    flags_at_if false = refl

pub names_in : (start : Counters) (before ops : List Op) (name : List ℕ) (snapshot : MailboxSnapshot) (now : Option ℕ) (uidnext : ℕ) (notes : List Note) → IsApplied (before ++ ops) → IsSnapshotOf start before ops name snapshot
    → now ≡ uidvalidity_of start name (before ++ ops) → uidnext ≡ uidnext_of start name (before ++ ops) → NamesTouched snapshot.uidvalidity now snapshot.uidnext uidnext snapshot.touched notes → NotesNameIn start before (before ++ ops) name notes
names_in start before ops name snapshot now uidnext notes a is u n names v uid =
    elim names [
      | inr all ↦ inr (all uid)
      | inl some ↦
          let same : uidvalidity_of start name before ≡ uidvalidity_of start name (before ++ ops) = sym is.uidvalidity ∙ some.0 ∙ u in
          let stays : row_of uid (listing start name (before ++ ops)) ≡ row_of uid (listing start name before) → _ = λ e. under_same v _ _ (listing start name before) (listing start name (before ++ ops)) uid same e in
          elim (is.stay a (sym same) uid) [
            | inl i ↦ inr (some.1 uid i)
            | inr t ↦ elim t [
              | inr e ↦ inl (stays e)
              | inl l ↦ elim (cases_Bool (nat_lt uid uidnext)) [
                | inl below ↦ inr (some.2 uid l (grind (arith, nat_tests)))
                | inr beyond ↦
                    let m : uidnext_of start name before ≤ uid = subst (λ (k : ℕ). k ≤ uid) is.uidnext l in
                    let not_below : uidnext_of start name (before ++ ops) ≤ uid = subst (λ (k : ℕ). k ≤ uid) n (grind (arith, nat_tests)) in
                    inl (stays (ends_at_uidnext start name (before ++ ops) uid a not_below ∙ sym (ends_at_uidnext start name before uid (applied_front before ops a) m)))
              ]
            ]
          ]
    ]

-- after a note of one further new UID, each UID is noted or still to be noted
pub new_noted : (notes : List Note) (first at uid : ℕ) → (is_noted notes uid ≡ true) ⊎ ((at ≤ uid) × (uid < first)) → (is_noted (notes ++ New at ∷ []) uid ≡ true) ⊎ ((at + 1 ≤ uid) × (uid < first))
new_noted notes first at uid h =
    elim h [
      | inl t ↦ inl (any_append (note_names uid) notes (New at ∷ []) t)
      | inr w ↦ elim (cases_Bool (nat_eq at uid)) [
        | inl t ↦ inl (any_last (note_names uid) notes (New at) t)
        | inr f ↦
            let l = w.0 in
            inr (grind (arith, nat_tests), w.1)
      ]
    ]

-- ---- all mailboxes

in_append : {X : Type 0} (xs : List X) (y x : X) → IsIn x (xs ++ y ∷ []) → IsIn x xs ⊎ (y ≡ x)
in_append [] y x i = elim i [ inl e ↦ inr e | inr n ↦ absurd n ]
in_append (z ∷ xs) y x i = elim i [ inl e ↦ inl (inl e) | inr j ↦ elim (in_append xs y x j) [ inl k ↦ inl (inr k) | inr e ↦ inr e ] ]

pub so_far_append : (start : Counters) (before ops : List Op) (name : List ℕ) (old : List MailboxNotes) (folder : MailboxNotes) → folder.name ≡ name → NotesNameIn start before (before ++ ops) name folder.notes → AreNotesSoFar start before ops name old (old ++ folder ∷ [])
so_far_append start before ops name old folder e h = record {
  own = any_last (λ (f : MailboxNotes). bytes_eq f.name name) old folder (ap (λ (n : List ℕ). bytes_eq n name) e ∙ (bytes_eq-Decides name name).1 refl);
  still_named = λ other k. named_append old (folder ∷ []) other k;
  named = λ all f i. elim (in_append old folder f i) [
    | inl j ↦ all f j
    | inr q ↦ subst (λ (g : MailboxNotes). NotesNameIn start before (before ++ ops) g.name g.notes) q (subst (λ (n : List ℕ). NotesNameIn start before (before ++ ops) n folder.notes) (sym e) h)
  ];
}

pub so_far_same : (start : Counters) (before ops : List Op) (name : List ℕ) (old : List MailboxNotes) → is_named old name ≡ true → AreNotesSoFar start before ops name old old
so_far_same start before ops name old h = record { own = h; still_named = λ other k. k; named = λ all. all }

named_notes : (start : Counters) (before ops : List Op) (folders : List MailboxNotes) (name : List ℕ) → AreNamed start before ops folders → is_named folders name ≡ true → NotesNameIn start before (before ++ ops) name (notes_in folders name)
named_notes start before ops [] name all h = absurd (false≢true h)
named_notes start before ops (folder ∷ folders) name all h =
    elim (cases_Bool (bytes_eq folder.name name)) [
      | inl t ↦ rw t (subst (λ (n : List ℕ). NotesNameIn start before (before ++ ops) n folder.notes) ((bytes_eq-Decides folder.name name).0 t) (all folder (inl refl)))
      | inr f ↦ rw f (named_notes start before ops folders name (λ g i. all g (inr i)) (rw f at h))
    ]

pub all_change_notes : (start : Counters) (before ops : List Op) (folders : List MailboxNotes) → IsApplied (before ++ ops) → AreNamed start before ops folders → ((o : Op) → IsIn o ops → is_named folders (name_of o.kind) ≡ true) → AreChangeNotes start before (before ++ ops) folders
all_change_notes start before ops folders a all each name v uid =
    elim (cases_Bool (is_named folders name)) [
      | inl t ↦ named_notes start before ops folders name all t v uid
      | inr f ↦ inl (ap (flags_at uid) (sym (listings_other start name ops before a (λ o i. elim (cases_Bool (kind_names_folder name o.kind)) [
        | inl c ↦ absurd (false≢true (sym f ∙ ap (is_named folders) (about_name name o.kind c) ∙ each o i))
        | inr n ↦ n
      ]) v)))
    ]

-- after one further operation, whose mailbox is listed, each operation's mailbox is listed or the
-- operation is still to be treated
pub rest_named : (old new : List MailboxNotes) (ops : List Op) (i : ℕ) (o : Op) → i < length ops → o ≡ get_or ops i o → ((n : List ℕ) → is_named old n ≡ true → is_named new n ≡ true) → is_named new (name_of o.kind) ≡ true
    → ((p : Op) → IsIn p ops → (is_named old (name_of p.kind) ≡ true) ⊎ IsIn p (drop i ops)) → (p : Op) → IsIn p ops → (is_named new (name_of p.kind) ≡ true) ⊎ IsIn p (drop (i + 1) ops)
rest_named old new ops i o l e still_named own rest p q =
    elim (rest p q) [
      | inl t ↦ inl (still_named (name_of p.kind) t)
      | inr j ↦ elim (subst (IsIn p) (drop_more ops i o l) j) [
        | inl k ↦ inl (subst (λ (x : Op). is_named new (name_of x.kind) ≡ true) (e ∙ k) own)
        | inr k ↦ inr k
      ]
    ]

pub each_named_through : (folders : List MailboxNotes) (ops : List Op) (i : ℕ) → length ops ≤ i → ((p : Op) → IsIn p ops → (is_named folders (name_of p.kind) ≡ true) ⊎ IsIn p (drop i ops)) → (p : Op) → IsIn p ops → is_named folders (name_of p.kind) ≡ true
each_named_through folders ops i l rest p q = elim (rest p q) [ inl t ↦ t | inr j ↦ absurd (subst (IsIn p) (drop_all i ops l) j) ]
