use Rattle.std.specs.Result.{is_err}
use Rattle.std.proofs.Common.{Result, Ok, Err, OnOk, OnErr, ◌≡◌, ◌↔◌, ◌⊎◌, inl, inr, ℕ, zero, suc, ◌+◌, ◌-◌, ◌<◌, ◌≤◌, Bool, true, false, cond, List, [], ◌∷◌, ◌++◌, Option, None, Some, length, get_or, refl, sym, ap, ◌∙◌, subst, arith}
use Rattle.tags_clocks.specs.declared.id.OpId.{OpId}
use Rattle.merge_laws.specs.Orders.{fold_of}
use Rattle.mailbox_rows.specs.declared.entry.ListingEntry.{ListingEntry}
use Rattle.mailbox_rows.specs.ListingEntries.{AreBelow, AreRising}
use Rattle.crdt_ops.specs.declared.op.Op.{Op}
use Rattle.crdt_ops.specs.Meanings.{IsVersion as IsVersionBySet}
use Rattle.crdt_ops.specs.Tags.{removed_ids}
use Rattle.folder_state.specs.Contents.{Contents, HasVersion, IsFolder, IsMadeBy, IsVersion, effect_of, no_contents, origin_in}
use Rattle.folder_state.specs.AfterOps.{contents_after}
use Rattle.folder_state.proofs.ContentsLemmas.{exists_by_set}
use Rattle.folder_state.proofs.VersionLemmas.{has_version_by_set, version_is}
use Rattle.folder_state.proofs.SetLemmas.{contents_made}
use Rattle.uid_projection.specs.declared.first_numbers.Counters.{Counters}
use Rattle.uid_projection.specs.Applied.{IsApplied}
use Rattle.uid_projection.specs.Chart.{AreVersions, IsChart}
use Rattle.uid_projection.specs.Incarnations.{folder_exists}
use Rattle.uid_projection.specs.UidsAndModSeqs.{kind_names_folder, has_version}
use Rattle.uid_projection.specs.EntryMoves.{AreApart, IsNext, added_origin, has_entry, loses, moved_entries, with_line}
use Rattle.uid_projection.proofs.MovedEntryLemmas.{advanced_none, advanced_some, apart_chart, apart_moved, moved_alike}
use Rattle.uid_projection.proofs.ExhaustionLemmas.{has_version_of_test, exists_of_test}
use Rattle.uid_projection.proofs.Numbers.{stays_added}
use Rattle.uid_projection.proofs.Tables.{is_chart_of_equal}

-- ---- results

pub on_ok : {T E : Type 0} {P Q : Type 0} (r : Result T E) → (P → Q) → OnOk r P → OnOk r Q
on_ok (Ok x) f h = f h
on_ok (Err e) f h = h

pub on_both : {T E : Type 0} {P Q R : Type 0} (r : Result T E) → (P → Q → R) → OnOk r P → OnOk r Q → OnOk r R
on_both (Ok x) f g h = f g h
on_both (Err e) f g h = g

pub given_ok : {T E : Type 0} {P : Type 0} (r : Result T E) → is_err r ≡ false → OnOk r P → P
given_ok (Ok x) e h = h
given_ok (Err f) e h = absurd (cc e)

pub given_err : {T E : Type 0} {P : Type 0} (r : Result T E) → is_err r ≡ true → OnErr r P → P
given_err (Ok x) e h = absurd (cc e)
given_err (Err f) e h = h

-- ---- contents and the list that led to them

pub fold_append : {V O : Type 0} (f : V → O → V) (v : V) (xs ys : List O) → fold_of f v (xs ++ ys) ≡ fold_of f (fold_of f v xs) ys
fold_append f v [] ys = refl
fold_append f v (x ∷ xs) ys = fold_append f (f v x) xs ys

pub made_after : (c : Contents) (list ops : List Op) → IsMadeBy c list → IsApplied (list ++ ops) → IsMadeBy (contents_after c ops) (list ++ ops)
made_after c list ops m a = record {
  sound = a.sound;
  causal = a.causal;
  made = ap (λ v. contents_after v ops) m.made ∙ sym (fold_append effect_of no_contents list ops);
}

-- the origins of versions that the contents give
pub versions_in_list : (c : Contents) (list : List Op) (folder : List ℕ) → IsMadeBy c list → AreVersions folder list (origin_in c folder)
versions_in_list c list folder m i g = subst (λ (w : Contents). IsVersion w folder g i ↔ IsVersionBySet list folder g i) (sym (contents_made c list m)) (version_is list folder g i)

pub folder_exists_is : (c : Contents) (list : List Op) (folder : List ℕ) (r : Bool) → IsMadeBy c list → (r ≡ true) ↔ IsFolder c folder → r ≡ folder_exists folder list
folder_exists_is c list folder r m h = exists_of_test folder list r (exists_by_set c list folder r m h)

pub has_version_is : (c : Contents) (list : List Op) (folder : List ℕ) (g : OpId) (r : Bool) → IsMadeBy c list → (r ≡ true) ↔ HasVersion c folder g → r ≡ has_version folder g list
has_version_is c list folder g r m h = let s = has_version_by_set c list folder g m in has_version_of_test folder list g r (λ t. s.0 (h.0 t), λ i. h.1 (s.1 i))

-- ---- an operation about a folder that exists after it

module _ (start : Counters) (folder : List ℕ) (ops : List Op) (o : Op) (a : IsApplied (ops ++ o ∷ [])) (present : folder_exists folder (ops ++ o ∷ []) ≡ true) (about : kind_names_folder folder o.kind ≡ true) (u h : ℕ) (es : List ListingEntry) (k : IsChart start folder ops u h es) (f : OpId → Option OpId) (l : AreVersions folder ops f) (lost : OpId → Bool) (is_lost : (g : OpId) → lost g ≡ loses f (removed_ids o.kind) g) (now : List ListingEntry) (is : AreApart es → now ≡ moved_entries lost (λ g. has_version folder g (ops ++ o ∷ [])) (h + 1) es) where
  abbrev stays : OpId → Bool
  stays g = has_version folder g (ops ++ o ∷ [])

  now_is : now ≡ moved_entries (loses f (removed_ids o.kind)) stays (h + 1) es
  now_is = is (apart_chart start folder ops u h es k) ∙ moved_alike lost (loses f (removed_ids o.kind)) stays (h + 1) es is_lost

  pub ahead_none : added_origin o ≡ None → IsChart start folder (ops ++ o ∷ []) u (h + 1) now
  ahead_none e = subst (IsChart start folder (ops ++ o ∷ []) u (h + 1)) (sym now_is) (advanced_none start folder ops o a present about u h es k f l e)

  pub ahead_some : (g : OpId) → added_origin o ≡ Some g → (v m : ℕ) (fs : List ListingEntry) → v ≡ cond (has_entry now g) u (u + 1) → m ≡ h + 1 → (AreApart now → fs ≡ with_line g u (h + 1) now) → IsChart start folder (ops ++ o ∷ []) v m fs
  ahead_some g e v m fs p q line =
      let apart : AreApart now = subst AreApart (sym now_is) (apart_moved (loses f (removed_ids o.kind)) stays (h + 1) es (apart_chart start folder ops u h es k)) in
      let x = advanced_some start folder ops o a present about u h es k f l g e (stays_added folder ops o a about g e) in
      is_chart_of_equal start folder (ops ++ o ∷ []) _ _ _ _ _ _
      (p ∙ ap (λ xs. cond (has_entry xs g) u (u + 1)) now_is) q
      (line apart ∙ ap (with_line g u (h + 1)) now_is) x

-- ---- a UID that can follow

below_from : (low uid k : ℕ) (es : List ListingEntry) → AreRising low es → length es ≡ suc k → ((e : ListingEntry) → (get_or es k e).uid < uid) → AreBelow uid es × (low + length es ≤ uid)
below_from low uid k [] r n b = absurd (omega (arith, n))
below_from low uid zero (e ∷ []) r n b = let f = r.0 in let l : e.uid < uid = b e in ((l, tt), omega (arith, l, f))
below_from low uid zero (e ∷ x ∷ es) r n b = absurd (omega (arith, n))
below_from low uid (suc k) (e ∷ es) r n b =
    let w = below_from (e.uid + 1) uid k es r.1 (omega (arith, n)) b in
    let m = w.1 in
    let f = r.0 in
    ((omega (arith, m), w.0), omega (arith, m, f))

below_at : (uid : ℕ) (es : List ListingEntry) (j : ℕ) (d : ListingEntry) → AreBelow uid es → j < length es → (get_or es j d).uid < uid
below_at uid [] j d h k = absurd (omega (arith, k))
below_at uid (e ∷ es) zero d h k = h.0
below_at uid (e ∷ es) (suc j) d h k = below_at uid es j d h.1 (omega (arith, k))

pub last_follows : (uid : ℕ) (es : List ListingEntry) → AreBelow uid es → (length es ≡ 0) ⊎ ((e : ListingEntry) → (get_or es (length es - 1) e).uid < uid)
last_follows uid [] h = inl refl
last_follows uid (e ∷ es) h = inr (λ d. below_at uid (e ∷ es) (length (e ∷ es) - 1) d h (omega arith))

pub follows_last : (uid : ℕ) (es : List ListingEntry) → AreRising 1 es → 1 ≤ uid → uid < 4294967295 → (length es ≡ 0) ⊎ ((e : ListingEntry) → (get_or es (length es - 1) e).uid < uid) → IsNext uid es × (uid < 4294967295)
follows_last uid [] r l m h = (record { first = l; beyond = tt; few = omega arith }, m)
follows_last uid (e ∷ es) r l m h = elim h [
  | inl z ↦ absurd (omega (arith, z))
  | inr b ↦
      let at : length (e ∷ es) - 1 ≡ length es = omega arith in
      let w = below_from 1 uid (length es) (e ∷ es) r refl (subst (λ j. (d : ListingEntry) → (get_or (e ∷ es) j d).uid < uid) at b) in
      let n = w.1 in
      (record { first = l; beyond = w.0; few = omega (arith, n, m) }, m)
]
