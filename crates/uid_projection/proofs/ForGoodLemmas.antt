use Rattle.std.specs.List.{filter_map}
use Rattle.std.specs.Option.{option_map, unwrap_or}
use Rattle.std.proofs.Common.{◌≡◌, ◌⊎◌, inl, inr, ℕ, ◌<◌, ◌≤◌, true, not, ◌&&◌, List, [], ◌∷◌, ◌++◌, Option, Some, refl, sym, ap, ◌∙◌, subst, append_assoc, append-nil, arith}
use Rattle.std.specs.List.{cons_option}
use Rattle.std.proofs.lemmas.Bool.{cases_Bool, false≢true}
use Rattle.tags_clocks.specs.declared.id.OpId.{OpId}
use Rattle.merge_laws.specs.Orders.{IsIn}
use Rattle.crdt_ops.specs.declared.op.Op.{Op}
use Rattle.crdt_ops.specs.Sets.{MessageTagData, DatedText, tag_data_from, dated_text_of, no_dated_text, tag_flags_of, versions_of}
use Rattle.crdt_ops.specs.Unions.{union_of}
use Rattle.crdt_ops.proofs.VersionLemmas.{versions_listed}
use Rattle.mailbox_rows.specs.ListedMessage.{ListedMessage}
use Rattle.uid_projection.specs.declared.first_numbers.Counters.{Counters}
use Rattle.uid_projection.specs.Applied.{IsApplied}
use Rattle.uid_projection.specs.ForGood.{AreForGood, AreUidsApart}
use Rattle.uid_projection.specs.Incarnations.{folder_exists}
use Rattle.uid_projection.specs.UidsAndModSeqs.{begins_line, begins_line_of_origin, changes_versions, names_folder, has_version, highest_modseq_of, modseq_of, uid_of, uidnext_of}
use Rattle.uid_projection.specs.Listing.{listed_message_of}
use Rattle.uid_projection.proofs.HistoryLemmas.{once}
use Rattle.uid_projection.proofs.CounterLemmas.{Stays, stays_by_uidvalidity}
use Rattle.uid_projection.proofs.SortedRowLemmas.{row_from, row_in}
use Rattle.uid_projection.proofs.Presence.{applied_front, message_folder_exists}
use Rattle.uid_projection.proofs.Steps.{by_last, highest_here, modseq_unchanged, modseq_new, uid_unchanged, uid_new, uidnext_here}
use Rattle.uid_projection.proofs.Versions.{starts_added, starts_changed, changed_about, first_some_more, dated_text_later, line_starts, origin_applied, present_carries, unchanged, version_in}

-- if an origin has a version, its folder exists
folder_exists_by : (folder : List ℕ) (ops : List Op) (g : OpId) → has_version folder g ops ≡ true → folder_exists folder ops ≡ true
folder_exists_by folder ops g h = let v = (version_in folder ops g).0 h in message_folder_exists folder ops v.0 v.1.0

same_some : (i j : OpId) → ◌≡◌ {A = Option OpId} (Some i) (Some j) → i ≡ j
same_some i j h = cc

-- ---- UIDs of messages

module _ (start : Counters) (folder : List ℕ) where
  -- the UIDs are distinct and below UIDNEXT
  pub record IsApart (ops : List Op) : Type 0 where
    pub below : (g : OpId) → has_version folder g ops ≡ true → uid_of start folder ops g < uidnext_of start folder ops
    pub one : (g h : OpId) → has_version folder g ops ≡ true → has_version folder h ops ≡ true → uid_of start folder ops g ≡ uid_of start folder ops h → g ≡ h

  module _ (ops : List Op) (o : Op) (a : IsApplied (ops ++ o ∷ [])) (k : IsApart ops) where
    -- the UID was assigned before, or is that of the line that begins
    uid_by : (g : OpId) → has_version folder g (ops ++ o ∷ []) ≡ true → ((has_version folder g ops ≡ true) × (uid_of start folder (ops ++ o ∷ []) g ≡ uid_of start folder ops g)) ⊎ ((begins_line_of_origin folder g ops o ≡ true) × (uid_of start folder (ops ++ o ∷ []) g ≡ uidnext_of start folder ops))
    uid_by g h =
        let t = folder_exists_by folder (ops ++ o ∷ []) g h in
        elim (cases_Bool (has_version folder g ops)) [
          | inl b ↦ inl (b, uid_unchanged start folder ops o g t (λ j. h j && not (b j)))
          | inr n ↦ let starts : begins_line_of_origin folder g ops o ≡ true = λ j. h j && not (n j) in inr (starts, uid_new start folder ops o g t starts)
        ]

    apart_step : IsApart (ops ++ o ∷ [])
    apart_step = record {
      below = λ g h.
          let n = uidnext_here start folder ops o (folder_exists_by folder (ops ++ o ∷ []) g h) in
          elim (uid_by g h) [
            | inl w ↦ let l = k.below g w.0 in let e = w.1 in omega (arith, n, l, e)
            | inr w ↦ let e = w.1 in let b : once (begins_line folder ops o) ≡ 1 = ap once (line_starts folder ops o a g w.0) in omega (arith, n, e, b)
          ];
      one = λ g h p q e.
          elim (uid_by g p) [
            | inl x ↦ elim (uid_by h q) [
              | inl y ↦ k.one g h x.0 y.0 (sym x.1 ∙ e ∙ y.1)
              | inr y ↦ let l = k.below g x.0 in let d = sym x.1 ∙ e ∙ y.1 in absurd (omega (arith, l, d))
            ]
            | inr x ↦ elim (uid_by h q) [
              | inl y ↦ let l = k.below h y.0 in let d = sym x.1 ∙ e ∙ y.1 in absurd (omega (arith, l, d))
              | inr y ↦ same_some g h (sym (starts_added folder ops o a g x.0) ∙ starts_added folder ops o a h y.0)
            ]
          ];
    }

  none_first : (g : OpId) → has_version folder g [] ≡ true → ⊥
  none_first g h = let v = (version_in folder [] g).0 h in false≢true v.1.0

  pub apart : (ops : List Op) → IsApplied ops → IsApart ops
  apart = by_last (λ (ops : List Op). IsApplied ops → IsApart ops)
      (λ a. record { below = λ g h. absurd (none_first g h); one = λ g h p q e. absurd (none_first g p) })
      (λ ops o ih a. apart_step ops o a (ih (applied_front ops (o ∷ []) a)))

pub uids_apart : (start : Counters) → AreUidsApart start
uids_apart start folder ops x y a i j =
    let k = apart start folder ops a in
    let p = row_in start folder ops x i in
    let q = row_in start folder ops y j in (
      subst (λ (r : ListedMessage). r.uid < uidnext_of start folder ops) p.2 (k.below p.0 p.1),
      λ e. sym p.2 ∙ ap (listed_message_of start folder ops) (k.one p.0 q.0 p.1 q.1 (ap (λ (r : ListedMessage). r.uid) p.2 ∙ e ∙ sym (ap (λ (r : ListedMessage). r.uid) q.2))) ∙ q.2,
    )

-- ---- an earlier list and a later one

module _ (start : Counters) (folder : List ℕ) (ops : List Op) where
  -- the message existed, with the same UID
  pub record IsOld (later : List Op) (g : OpId) : Type 0 where
    pub present : has_version folder g ops ≡ true
    pub uid : uid_of start folder later g ≡ uid_of start folder ops g
    pub modseq : ((versions_of ops folder g ≡ versions_of later folder g) × (modseq_of folder later g ≡ modseq_of folder ops g)) ⊎ (highest_modseq_of folder ops < modseq_of folder later g)

  -- the message is new in the later list
  abbrev pub IsNew : List Op → OpId → Type 0
  IsNew later g = (uidnext_of start folder ops ≤ uid_of start folder later g) × (highest_modseq_of folder ops < modseq_of folder later g)

  -- what holds of a later list while the folder exists
  pub record HasGrown (later : List Op) : Type 0 where
    pub uidnext : uidnext_of start folder ops ≤ uidnext_of start folder later
    pub highest : highest_modseq_of folder ops ≤ highest_modseq_of folder later
    pub messages : (g : OpId) → has_version folder g later ≡ true → IsOld later g ⊎ IsNew later g

  pub has_grown_first : HasGrown ops
  has_grown_first = record {
    uidnext = omega arith;
    highest = omega arith;
    messages = λ g h. inl (record { present = h; uid = refl; modseq = inl (refl, refl) });
  }

  module _ (later : List Op) (o : Op) (a : IsApplied (later ++ o ∷ [])) (t : folder_exists folder (later ++ o ∷ []) ≡ true) (k : HasGrown later) where
    -- a message that the operation changes has a new mod-sequence
    grown : (g : OpId) → changes_versions folder g later o ≡ true → highest_modseq_of folder ops < modseq_of folder (later ++ o ∷ []) g
    grown g c =
        let m = highest_here folder later o t in
        let w : once (names_folder folder later o) ≡ 1 = ap once (changed_about folder later o g a c) in
        let l = k.highest in
        let e = modseq_new folder g later o c in
        omega (arith, m, w, l, e)

    message_step : (g : OpId) → has_version folder g (later ++ o ∷ []) ≡ true → has_version folder g later ≡ true → IsOld (later ++ o ∷ []) g ⊎ IsNew (later ++ o ∷ []) g
    message_step g h b =
        let u = uid_unchanged start folder later o g t (λ j. h j && not (b j)) in
        elim (cases_Bool (changes_versions folder g later o)) [
          | inl c ↦
              let l = grown g c in
              elim (k.messages g b) [
                | inl old ↦ inl (record { present = old.present; uid = u ∙ old.uid; modseq = inr l })
                | inr new ↦ let n = new.0 in inr (omega (arith, u, n), l)
              ]
          | inr c ↦
              let m = modseq_unchanged folder g later o t c in
              elim (k.messages g b) [
                | inl old ↦ inl (record {
                  present = old.present;
                  uid = u ∙ old.uid;
                  modseq = elim old.modseq [ inl w ↦ inl (w.0 ∙ unchanged folder later o g c, m ∙ w.1) | inr l ↦ inr (omega (arith, m, l)) ];
                })
                | inr new ↦ let n = new.0 in let v = new.1 in inr (omega (arith, u, n), omega (arith, m, v))
              ]
        ]

    has_grown_step : HasGrown (later ++ o ∷ [])
    has_grown_step =
        let n = uidnext_here start folder later o t in
        let m = highest_here folder later o t in
        let u = k.uidnext in
        let h = k.highest in
        record {
          uidnext = omega (arith, n, u);
          highest = omega (arith, m, h);
          messages = λ g h. elim (cases_Bool (has_version folder g later)) [
            | inl b ↦ message_step g h b
            | inr f ↦
                let starts : begins_line_of_origin folder g later o ≡ true = λ j. h j && not (f j) in
                let e = uid_new start folder later o g t starts in
                let l = k.uidnext in
                inr (omega (arith, e, l), grown g (starts_changed folder later o g starts))
          ];
        }

  pub has_grown : (more later : List Op) → IsApplied (later ++ more) → Stays start folder later more → HasGrown later → HasGrown (later ++ more)
  has_grown [] later a s k = subst HasGrown (sym (append-nil later)) k
  has_grown (o ∷ more) later a s k =
      let whole : (later ++ o ∷ []) ++ more ≡ later ++ o ∷ more = append_assoc later (o ∷ []) more in
      let b : IsApplied ((later ++ o ∷ []) ++ more) = subst IsApplied (sym whole) a in
      subst HasGrown whole (has_grown more (later ++ o ∷ []) b s.1 (has_grown_step later o (applied_front (later ++ o ∷ []) more b) (stays_now more (later ++ o ∷ []) s.1) k))
    where
      stays_now : (more later : List Op) → Stays start folder later more → folder_exists folder later ≡ true
      stays_now [] later s = s
      stays_now (p ∷ more) later s = s.0

filter_map_ext : {X Y : Type 0} (f g : X → Option Y) (xs : List X) → ((x : X) → IsIn x xs → f x ≡ g x) → filter_map f xs ≡ filter_map g xs
filter_map_ext f g [] h = refl
filter_map_ext f g (x ∷ xs) h = λ k. cons_option (h x (inl refl) k) (filter_map_ext f g xs (λ y t. h y (inr t)) k)

-- versions have the same flags later
pub flags_later : (folder : List ℕ) (ops more : List Op) (g : OpId) → filter_map (tag_flags_of ops folder) (versions_of ops folder g) ≡ filter_map (tag_flags_of (ops ++ more) folder) (versions_of ops folder g)
flags_later folder ops more g =
    filter_map_ext (tag_flags_of ops folder) (tag_flags_of (ops ++ more) folder) (versions_of ops folder g) (λ i t.
    let b = present_carries folder ops i (((versions_listed ops folder g).1 i).0 t).0 in
    ap (option_map (λ (x : MessageTagData). x.flags)) (b.1 ∙ sym (first_some_more (tag_data_from folder i) ops more b.0 b.1)))

-- UIDs and mod-sequences are for good
pub for_good : (start : Counters) → AreForGood start
for_good start folder ops more v a h j =
    let whole : List Op = ops ++ more in
    let early : IsApplied ops = applied_front ops more a in
    let k = has_grown start folder ops more ops a (stays_by_uidvalidity start folder ops more v a h j) (has_grown_first start folder ops) in
    let d = apart start folder ops early in
    record {
      uidnext = k.uidnext;
      highest = k.highest;
      dated = λ x y i l e.
          let p = row_in start folder ops x i in
          let q = row_in start folder whole y l in
          let ux : uid_of start folder ops p.0 ≡ x.uid = ap (λ (r : ListedMessage). r.uid) p.2 in
          let uy : uid_of start folder whole q.0 ≡ y.uid = ap (λ (r : ListedMessage). r.uid) q.2 in
          elim (k.messages q.0 q.1) [
            | inl old ↦
                let one : p.0 ≡ q.0 = d.one p.0 q.0 p.1 old.present (ux ∙ e ∙ sym uy ∙ old.uid) in
                let m : dated_text_of ops p.0 ≡ dated_text_of whole q.0 = sym (dated_text_later p.0 ops more a (origin_applied folder ops p.0 early p.1)) ∙ ap (dated_text_of whole) one in (
                  sym (ap (λ (r : ListedMessage). r.origin) p.2) ∙ one ∙ ap (λ (r : ListedMessage). r.origin) q.2,
                  sym (ap (λ (r : ListedMessage). r.date) p.2) ∙ ap (λ (n : Option DatedText). (unwrap_or n no_dated_text).date) m ∙ ap (λ (r : ListedMessage). r.date) q.2,
                  sym (ap (λ (r : ListedMessage). r.text) p.2) ∙ ap (λ (n : Option DatedText). (unwrap_or n no_dated_text).text) m ∙ ap (λ (r : ListedMessage). r.text) q.2,
                )
            | inr new ↦ let b = d.below p.0 p.1 in let z = new.0 in absurd (omega (arith, ux, uy, e, b, z))
          ];
      fresh = λ y l none.
          let q = row_in start folder whole y l in
          let uy : uid_of start folder whole q.0 ≡ y.uid = ap (λ (r : ListedMessage). r.uid) q.2 in
          let my : modseq_of folder whole q.0 ≡ y.modseq = ap (λ (r : ListedMessage). r.modseq) q.2 in
          elim (k.messages q.0 q.1) [
            | inl old ↦ absurd (none (listed_message_of start folder ops q.0) (row_from start folder ops q.0 old.present) (sym old.uid ∙ uy))
            | inr new ↦ let z = new.0 in let w = new.1 in (omega (arith, uy, z), omega (arith, my, w))
          ];
      changed = λ x y i l e differ.
          let p = row_in start folder ops x i in
          let q = row_in start folder whole y l in
          let ux : uid_of start folder ops p.0 ≡ x.uid = ap (λ (r : ListedMessage). r.uid) p.2 in
          let uy : uid_of start folder whole q.0 ≡ y.uid = ap (λ (r : ListedMessage). r.uid) q.2 in
          let my : modseq_of folder whole q.0 ≡ y.modseq = ap (λ (r : ListedMessage). r.modseq) q.2 in
          elim (k.messages q.0 q.1) [
            | inl old ↦ elim old.modseq [
              | inl w ↦
                  let one : p.0 ≡ q.0 = d.one p.0 q.0 p.1 old.present (ux ∙ e ∙ sym uy ∙ old.uid) in
                  let s = ap union_of (ap (λ (g : OpId). filter_map (tag_flags_of ops folder) (versions_of ops folder g)) one ∙ flags_later folder ops more q.0 ∙ ap (filter_map (tag_flags_of whole folder)) w.0) in
                  absurd (differ (sym (ap (λ (r : ListedMessage). r.flags) p.2) ∙ s ∙ ap (λ (r : ListedMessage). r.flags) q.2))
              | inr z ↦ omega (arith, my, z)
            ]
            | inr new ↦ let w = new.1 in omega (arith, my, w)
          ];
    }
