use Rattle.std.proofs.Common.{◌≡◌, inl, inr, ℕ, ◌+◌, ◌<◌, ◌≤◌, Bool, true, false, cond, not, ◌&&◌, List, [], ◌∷◌, ◌++◌, Option, Some, None, refl, sym, ap, ◌∙◌, subst, arith}
use Rattle.std.proofs.lemmas.Bool.{cases_Bool}
use Rattle.indexmap.specs.IndexMap.{spare}
use Rattle.imap_types.specs.Names.{inbox}
use Rattle.tags_clocks.specs.declared.id.OpId.{OpId}
use Rattle.mailbox_rows.specs.declared.entry.ListingEntry.{ListingEntry}
use Rattle.crdt_ops.specs.declared.op.Op.{Op}
use Rattle.crdt_ops.specs.Tags.{name_of, removed_ids}
use Rattle.folder_state.specs.Contents.{Contents}
use Rattle.uid_projection.specs.declared.chart.Chart.{Chart}
use Rattle.uid_projection.specs.declared.first_numbers.Counters.{Counters}
use Rattle.uid_projection.specs.Chart.{AreVersions, IsChart}
use Rattle.uid_projection.specs.Counting.{count_all}
use Rattle.uid_projection.specs.Incarnations.{begins_incarnation, folder_exists, k_of}
use Rattle.uid_projection.specs.UidsAndModSeqs.{has_version}
use Rattle.uid_projection.specs.EntryMoves.{AreApart, IsNext, added_origin, has_entry, loses, moved_entries, origins_with, with_line, origins_without}
use Rattle.uid_projection.specs.ChartTable.{Advances, IsNextAt, IsUpTo, modseqs_by, origin_at}
use Rattle.uid_projection.proofs.MovedEntryLemmas.{advanced_none, advanced_some, apart_chart, apart_moved, left_held, next_moved}
use Rattle.uid_projection.proofs.HistoryLemmas.{once, all-append}
use Rattle.uid_projection.proofs.Numbers.{k_begins, stays_added, uid_lasts}
use Rattle.uid_projection.proofs.Steps.{k_here, k_none}
use Rattle.uid_projection.proofs.Tables.{is_chart_of_equal}
use Rattle.uid_projection.proofs.TouchedLineLemmas.{origin_here, removed_here, versions_left, versions_of_append}

-- ---- an operation about a folder that exists after it

module _ (start : Counters) (folder : List ℕ) (value : Contents) (ops : List Op) (o : Op) (c : Chart) (r : Advances start folder value ops o c) where
  abbrev f : OpId → Option OpId
  f = origin_at c.versions.entries

  abbrev stays : OpId → Bool
  stays g = has_version folder g (ops ++ o ∷ [])

  pub all_apart : AreApart c.entries.entries
  all_apart = apart_chart start folder ops c.uidnext c.highest c.entries.entries r.shows

  module _ (ids : List OpId) (own : ids ≡ removed_ids o.kind) (now : List ListingEntry) (is : now ≡ moved_entries (loses f ids) stays (c.highest + 1) c.entries.entries) where
    now_is : now ≡ moved_entries (loses f (removed_ids o.kind)) stays (c.highest + 1) c.entries.entries
    now_is = is ∙ ap (λ xs. moved_entries (loses f xs) stays (c.highest + 1) c.entries.entries) own

    now_apart : AreApart now
    now_apart = subst AreApart (sym is) (apart_moved (loses f ids) stays (c.highest + 1) c.entries.entries all_apart)

    -- a UID remains for the added origin
    pub remaining_uid : (g : OpId) → added_origin o ≡ Some g → has_entry now g ≡ false → c.uidnext < 4294967295
    remaining_uid g e h =
        let held = left_held start folder ops o r.applied r.exists_now r.about c.uidnext c.highest c.entries.entries r.shows f r.versions g e (stays_added folder ops o r.applied r.about g e) in
        uid_lasts start folder ops o r.applied r.about r.not_exhausted c.uidnext c.entries.entries r.shows.are_entries r.shows.is_uidnext r.roomy.uidnext g e (sym held ∙ ap (λ xs. has_entry xs g) (sym now_is) ∙ h)

    pub uidnext_is_next : c.uidnext < 4294967295 → IsNext c.uidnext now
    uidnext_is_next l = subst (IsNext c.uidnext) (sym is) (next_moved start folder ops c.uidnext c.highest c.entries.entries (loses f ids) stays (c.highest + 1) r.first r.shows l)

    pub shows_none : added_origin o ≡ None → IsChart start folder (ops ++ o ∷ []) c.uidnext (c.highest + 1) now
    shows_none e = subst (IsChart start folder (ops ++ o ∷ []) c.uidnext (c.highest + 1)) (sym now_is) (advanced_none start folder ops o r.applied r.exists_now r.about c.uidnext c.highest c.entries.entries r.shows f r.versions e)

    pub shows_some : (g : OpId) → added_origin o ≡ Some g → (u h : ℕ) (es : List ListingEntry) → u ≡ cond (has_entry now g) c.uidnext (c.uidnext + 1) → h ≡ c.highest + 1 → (AreApart now → es ≡ with_line g c.uidnext (c.highest + 1) now) → IsChart start folder (ops ++ o ∷ []) u h es
    shows_some g e u h es p q line =
        let x = advanced_some start folder ops o r.applied r.exists_now r.about c.uidnext c.highest c.entries.entries r.shows f r.versions g e (stays_added folder ops o r.applied r.about g e) in
        is_chart_of_equal start folder (ops ++ o ∷ []) _ _ _ _ _ _
        (p ∙ ap (λ xs. cond (has_entry xs g) c.uidnext (c.uidnext + 1)) now_is) q
        (line now_apart ∙ ap (with_line g c.uidnext (c.highest + 1)) now_is) x

  module _ (ids : List OpId) (own : ids ≡ removed_ids o.kind) (left : OpId → Option OpId) (left_without : (i : OpId) → left i ≡ origins_without f ids i) where
    left_is : left ≡ origins_without f (removed_ids o.kind)
    left_is = λ k i. (left_without i ∙ ap (λ xs. origins_without f xs i) own) k

    pub versions_none : added_origin o ≡ None → AreVersions folder (ops ++ o ∷ []) left
    versions_none e =
        subst (AreVersions folder (ops ++ o ∷ [])) (sym left_is)
        (versions_left folder ops o r.applied (removed_ids o.kind) (removed_here folder o r.about) (added_origin o) (sym (origin_here folder o r.about)) f r.versions (origin_here folder o r.about ∙ e))

    pub versions_some : (g : OpId) → added_origin o ≡ Some g → (all : OpId → Option OpId) → ((i : OpId) → all i ≡ origins_with left o.id g i) → AreVersions folder (ops ++ o ∷ []) all
    versions_some g e all h =
        subst (AreVersions folder (ops ++ o ∷ [])) (sym ((λ k i. h i k) ∙ (λ k i. origins_with (left_is k) o.id g i)))
        (versions_of_append folder ops o r.applied (removed_ids o.kind) (removed_here folder o r.about) (added_origin o) (sym (origin_here folder o r.about)) f r.versions g (origin_here folder o r.about ∙ e))

-- ---- an operation about a folder, whether it exists afterwards or not

module _ (start : Counters) (k : ℕ) (value : Contents) (ops : List Op) (o : Op) (c : Chart) (r : IsNextAt start k value ops o c) where
  abbrev folder : List ℕ
  folder = name_of o.kind

  -- the folder doesn't exist afterwards
  pub k_absent : folder_exists folder (ops ++ o ∷ []) ≡ false → k ≡ start.k + count_all begins_incarnation (ops ++ o ∷ [])
  k_absent f =
      let m = all-append begins_incarnation ops o in
      let z : once (begins_incarnation ops o) ≡ 0 = ap (λ b. once (b && not (folder_exists folder ops))) f in
      let is = r.next.is_k in
      omega (arith, m, z, is)

  -- the folder exists afterwards
  module _ (t : folder_exists folder (ops ++ o ∷ []) ≡ true) where
    begins_is : begins_incarnation ops o ≡ not c.present
    begins_is = (λ j. t j && not (folder_exists folder ops)) ∙ ap not (sym r.up.present)

    pub k_present : (l : ℕ) → l ≡ cond c.present k (k + 1) → l ≡ start.k + count_all begins_incarnation (ops ++ o ∷ [])
    k_present l e =
        let m = all-append begins_incarnation ops o in
        let z : once (begins_incarnation ops o) ≡ once (not c.present) = ap once begins_is in
        let is = r.next.is_k in
        let p : cond c.present k (k + 1) ≡ k + once (not c.present) = plus c.present in
        omega (arith, m, z, is, e, p)
      where
        plus : (b : Bool) → cond b k (k + 1) ≡ k + once (not b)
        plus true = omega arith
        plus false = refl

    pub k_small : c.present ≡ false → k ≤ 65535
    k_small f = k_begins start ops o k r.next.not_exhausted r.next.is_k (begins_is ∙ ap not f)

    pub k_now : (l : ℕ) → l ≡ cond c.present c.k k → l ≡ k_of start folder (ops ++ o ∷ [])
    k_now l e = e ∙ elim (cases_Bool c.present) [
      | inl y ↦ (λ j. cond (y j) c.k k) ∙ r.up.is_k y ∙ sym (k_here start folder ops o t)
      | inr n ↦ (λ j. cond (n j) c.k k) ∙ r.next.is_k ∙ sym (k_none start folder ops (sym r.up.present ∙ n)) ∙ sym (k_here start folder ops o t)
    ]

    pub k_stays_small : (l : ℕ) → l ≡ cond c.present c.k k → (folder ≡ inbox → ⊥) → l ≤ 65535
    k_stays_small l e n = elim (cases_Bool c.present) [
      | inl y ↦ subst (λ m. m ≤ 65535) (sym (e ∙ ap (λ b. cond b c.k k) y)) (r.up.small y n)
      | inr f ↦ subst (λ m. m ≤ 65535) (sym (e ∙ ap (λ b. cond b c.k k) f)) (k_small f)
    ]

    -- the chart of the existing folder, before the operation
    pub advances : (n : List ℕ) (d : Chart) → n ≡ folder → d.uidnext ≡ c.uidnext → d.highest ≡ c.highest → d.entries ≡ c.entries → d.versions ≡ c.versions → Advances start n value ops o d
    advances n d e u h es vs =
        subst (λ (m : List ℕ). Advances start m value ops o d) (sym e) (record {
          first = r.next.first;
          applied = r.next.applied;
          made = r.next.made;
          about = r.about;
          exists_now = t;
          not_exhausted = r.next.not_exhausted;
          shows = is_chart_of_equal start folder ops _ _ _ _ _ _ u h (λ j. (es j).entries) r.up.shows;
          latest = subst (λ x. x.latest ≤ d.highest) (sym es) (subst (λ x. c.entries.latest ≤ x) (sym h) r.up.latest);
          versions = subst (λ v. AreVersions folder ops (origin_at v.entries)) (sym vs) r.up.versions;
          roomy =
              let q = r.roomy.highest in let w = r.roomy.uidnext in
              record {
                places = λ g j. subst (λ x. 1 ≤ x.room) (sym es) (r.roomy.places g j);
                version_places = λ g j. subst (λ x. 1 ≤ spare x) (sym vs) (r.roomy.version_places g j);
                modseq_places = subst (λ x. modseqs_by o ≤ x.modseq_room) (sym es) r.roomy.modseq_places;
                highest = subst (λ x. x + 1 ≤ 18446744073709551615) (sym h) q;
                uidnext = subst (λ x. x ≤ 4294967295) (sym u) w;
              };
        })

    pub up_now : (l : ℕ) (d : Chart) → l ≡ cond c.present c.k k → d.present ≡ true → d.k ≡ l → IsChart start folder (ops ++ o ∷ []) d.uidnext d.highest d.entries.entries → AreVersions folder (ops ++ o ∷ []) (origin_at d.versions.entries) → d.entries.latest ≤ d.highest → IsUpTo start folder (ops ++ o ∷ []) d
    up_now l d e y is s v latest = record {
      present = y ∙ sym t;
      shows = s;
      versions = v;
      is_k = λ q. is ∙ k_now l e;
      small = λ q n. subst (λ m. m ≤ 65535) (sym is) (k_stays_small l e n);
      latest = latest;
    }
