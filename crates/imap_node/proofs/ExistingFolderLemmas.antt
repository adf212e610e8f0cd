use Rattle.std.proofs.Common.{◌≡◌, ◌⊎◌, inl, inr, ℕ, Bool, true, false, not, ◌&&◌, ◌||◌, List, [], ◌∷◌, ◌++◌, refl, sym, ap, ◌∙◌, subst, append_assoc, append-nil, map, if◌then◌else◌}
use Rattle.std.specs.Prelude.{Result, Ok, Err}
use Rattle.std.specs.Str.{bytes_eq}
use Rattle.std.proofs.lemmas.Bool.{and_from, cases_Bool, false≢true}
use Rattle.merge_laws.specs.Orders.{IsIn}
use Rattle.tags_clocks.proofs.Decide.{ids_decide}
use Rattle.tags_clocks.specs.declared.id.OpId.{OpId}
use Rattle.crdt_ops.specs.declared.kind.Kind.{Kind}
use Rattle.crdt_ops.specs.declared.kind.Kind.TheVariants as kinds
use Rattle.crdt_ops.specs.declared.op.Op.{Op}
use Rattle.crdt_ops.specs.SortedSets.{same_id}
use Rattle.crdt_ops.specs.Tags.{FolderTag, MessageTag, Tag, tag_added_by, adds, is_present, is_some_tag, removes}
use Rattle.imap_answers.specs.declared.fixed_words.Refusal.{Refusal}
use Rattle.imap_answers.specs.declared.fixed_words.Refusal.TheVariants.{KeywordTooLong, NoDestination, NoSuchMailbox, NoSuchMessage, NotNow, ReadOnly, TooManyKeywords}
use Rattle.imap_commands.specs.Limits.{within_limits}
use Rattle.imap_commands.proofs.IssuedLemmas.{within_is}
use Rattle.uid_projection.specs.Applied.{IsApplied}
use Rattle.uid_projection.specs.Incarnations.{folder_exists}
use Rattle.uid_projection.specs.UidsAndModSeqs.{kind_names_folder}
use Rattle.uid_projection.proofs.Presence.{applied_front, other_exists, presence_step, exists_tags}

-- ---- only a Delete removes a folder

abbrev pub IsNoDelete : Kind → Type 0
IsNoDelete (kinds.Delete folder seen) = ⊥
IsNoDelete _ = Unit {0}

abbrev HasOwnTag : List ℕ → OpId → Kind → Type 0
HasOwnTag name id kind = (is_some_tag (FolderTag name id) (tag_added_by id kind) ≡ true) ⊎ (is_some_tag (MessageTag name id) (tag_added_by id kind) ≡ true)

own_tag : (name : List ℕ) (id : OpId) (kind : Kind) → IsNoDelete kind → kind_names_folder name kind ≡ true → HasOwnTag name id kind
own_tag name id (kinds.Create folder) k h = inl (and_from (bytes_eq name folder) (same_id id id) h ((ids_decide id id).1 refl))
own_tag name id (kinds.Delete folder seen) k h = absurd k
own_tag name id (kinds.Append folder flags date text) k h = inr (and_from (bytes_eq name folder) (same_id id id) h ((ids_decide id id).1 refl))
own_tag name id (kinds.Expunge folder old_ids) k h = inl (and_from (bytes_eq name folder) (same_id id id) h ((ids_decide id id).1 refl))
own_tag name id (kinds.Store folder flags old_ids origin) k h = inr (and_from (bytes_eq name folder) (same_id id id) h ((ids_decide id id).1 refl))
own_tag name id (kinds.Subscribe folder) k h = absurd (false≢true h)
own_tag name id (kinds.Unsubscribe folder seen) k h = absurd (false≢true h)

pub added_present : (ops : List Op) (o : Op) (t : Tag) → IsApplied (ops ++ o ∷ []) → adds t o ≡ true → is_present (ops ++ o ∷ []) t ≡ true
added_present ops o t a e = presence_step ops o t a ∙ ap (λ b. b || (not (removes t o) && is_present ops t)) e

pub exists_after_one : (name : List ℕ) (ops : List Op) (o : Op) → IsApplied (ops ++ o ∷ []) → IsNoDelete o.kind → folder_exists name ops ≡ true → folder_exists name (ops ++ o ∷ []) ≡ true
exists_after_one name ops o a k t =
    elim (cases_Bool (kind_names_folder name o.kind)) [
      | inl about ↦ elim (own_tag name o.id o.kind k about) [
        | inl e ↦ (exists_tags name (ops ++ o ∷ [])).1 (inr (o.id, inl (added_present ops o (FolderTag name o.id) a e)))
        | inr e ↦ (exists_tags name (ops ++ o ∷ [])).1 (inr (o.id, inr (added_present ops o (MessageTag name o.id) a e)))
      ]
      | inr other ↦ other_exists name ops o a other ∙ t
    ]

exists_append : (name : List ℕ) (more ops : List Op) → IsApplied (ops ++ more) → ((o : Op) → IsIn o more → IsNoDelete o.kind) → folder_exists name ops ≡ true → folder_exists name (ops ++ more) ≡ true
exists_append name [] ops a k t = ap (folder_exists name) (append-nil ops) ∙ t
exists_append name (o ∷ more) ops a k t =
    let same = append_assoc ops (o ∷ []) more in
    let b : IsApplied ((ops ++ o ∷ []) ++ more) = subst IsApplied (sym same) a in
    ap (folder_exists name) (sym same) ∙ exists_append name more (ops ++ o ∷ []) b (λ p i. k p (inr i)) (exists_after_one name ops o (applied_front (ops ++ o ∷ []) more b) (k o (inl refl)) t)

pub mapped_in : (ops : List Op) (o : Op) → IsIn o ops → IsIn o.kind (map (λ (x : Op). x.kind) ops)
mapped_in [] o i = absurd i
mapped_in (x ∷ ops) o i = elim i [ inl e ↦ inl (ap (λ (x : Op). x.kind) e) | inr t ↦ inr (mapped_in ops o t) ]

-- a folder still exists after operations whose kinds delete nothing
pub folder_still_exists : (name : List ℕ) (before issued : List Op) (intended : List Kind) → IsApplied (before ++ issued) → map (λ (o : Op). o.kind) issued ≡ intended → ((kind : Kind) → IsIn kind intended → IsNoDelete kind)
    → folder_exists name before ≡ true → folder_exists name (before ++ issued) ≡ true
folder_still_exists name before issued intended a e k t = exists_append name issued before a (λ o i. k o.kind (subst (IsIn o.kind) e (mapped_in issued o i))) t

-- ---- the mailbox that a command needs existed before

abbrev KindsResult : Type 0
KindsResult = Result (List Kind) Refusal

-- SELECT, EXAMINE and STATUS
pub known_exists : (is_logged_in exists : Bool) (intended : List Kind) → ◌≡◌ {A = KindsResult} (if is_logged_in then (if exists then Ok [] else Err NoSuchMailbox) else Err NotNow) (Ok intended) → (exists ≡ true) × (intended ≡ [])
known_exists true true intended e = (refl, cc)
known_exists true false intended e = absurd cc
known_exists false exists intended e = absurd cc

-- APPEND
pub append_target_exists : (is_logged_in exists lawful too_many : Bool) (kind : Kind) (intended : List Kind)
    → ◌≡◌ {A = KindsResult} (if is_logged_in then (if exists then (if lawful then (if too_many then Err TooManyKeywords else Ok (kind ∷ [])) else Err KeywordTooLong) else Err NoDestination) else Err NotNow) (Ok intended)
    → (exists ≡ true) × (intended ≡ kind ∷ [])
append_target_exists true true true false kind intended e = (refl, cc)
append_target_exists true true true true kind intended e = absurd cc
append_target_exists true true false too_many kind intended e = absurd cc
append_target_exists true false lawful too_many kind intended e = absurd cc
append_target_exists false exists lawful too_many kind intended e = absurd cc

-- COPY and MOVE
pub copy_target_exists : (in_range exists : Bool) (appends intended : List Kind) → ◌≡◌ {A = KindsResult} (if not in_range then Err NoSuchMessage else (if not exists then Err NoDestination else within_limits appends)) (Ok intended) → exists ≡ true
copy_target_exists true true appends intended e = refl
copy_target_exists true false appends intended e = absurd cc
copy_target_exists false exists appends intended e = absurd cc

pub move_target_exists : (in_range read_only exists : Bool) (kinds intended : List Kind) → ◌≡◌ {A = KindsResult} (if not in_range then Err NoSuchMessage else (if read_only then Err ReadOnly else (if not exists then Err NoDestination else within_limits kinds))) (Ok intended) → exists ≡ true
move_target_exists true false true kinds intended e = refl
move_target_exists true false false kinds intended e = absurd cc
move_target_exists true true exists kinds intended e = absurd cc
move_target_exists false read_only exists kinds intended e = absurd cc

-- what COPY and MOVE issue
pub copy_is : (in_range exists : Bool) (appends intended : List Kind) → ◌≡◌ {A = KindsResult} (if not in_range then Err NoSuchMessage else (if not exists then Err NoDestination else within_limits appends)) (Ok intended) → intended ≡ appends
copy_is true true appends intended e = within_is appends intended e
copy_is true false appends intended e = absurd cc
copy_is false exists appends intended e = absurd cc

pub move_is : (in_range read_only exists : Bool) (kinds intended : List Kind) → ◌≡◌ {A = KindsResult} (if not in_range then Err NoSuchMessage else (if read_only then Err ReadOnly else (if not exists then Err NoDestination else within_limits kinds))) (Ok intended) → intended ≡ kinds
move_is true false true kinds intended e = within_is kinds intended e
move_is true false false kinds intended e = absurd cc
move_is true true exists kinds intended e = absurd cc
move_is false read_only exists kinds intended e = absurd cc
