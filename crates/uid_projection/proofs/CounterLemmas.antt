use Rattle.std.specs.Str.{bytes_eq}
use Rattle.std.proofs.Common.{◌≡◌, ◌⊎◌, inl, inr, ℕ, ◌+◌, ◌*◌, ◌<◌, Bool, true, false, cond, not, ◌&&◌, List, [], ◌∷◌, ◌++◌, Some, None, refl, sym, ap, ◌∙◌, subst, append_assoc, append-nil, arith}
use Rattle.std.proofs.lemmas.Bool.{cases_Bool, false≢true}
use Rattle.std.proofs.lemmas.Slice.Eq.{bytes_eq-Decides}
use Rattle.imap_types.specs.Names.{inbox}
use Rattle.crdt_ops.specs.declared.kind.Kind.{Kind}
use Rattle.crdt_ops.specs.declared.kind.Kind.TheVariants.{Create, Delete, Append, Expunge, Store, Subscribe, Unsubscribe}
use Rattle.crdt_ops.specs.declared.op.Op.{Op}
use Rattle.crdt_ops.specs.Tags.{name_of}
use Rattle.uid_projection.specs.declared.first_numbers.Counters.{Counters}
use Rattle.uid_projection.specs.Applied.{IsApplied}
use Rattle.uid_projection.specs.Counting.{count_since}
use Rattle.uid_projection.specs.Incarnations.{begins_incarnation, folder_exists, k_of, uidvalidity_of}
use Rattle.uid_projection.specs.UidsAndModSeqs.{kind_names_folder}
use Rattle.uid_projection.proofs.HistoryLemmas.{once, all-append, counted-here, split_counts}
use Rattle.uid_projection.proofs.Presence.{applied_front, inbox_exists, other_exists, exists_tags}
use Rattle.uid_projection.proofs.Steps.{by_last, k_here, k_none}

-- the folder of an operation that is about it
pub about_name : (folder : List ℕ) (kind : Kind) → kind_names_folder folder kind ≡ true → folder ≡ name_of kind
about_name folder (Create name) h = (bytes_eq-Decides folder name).0 h
about_name folder (Delete name seen) h = (bytes_eq-Decides folder name).0 h
about_name folder (Append name flags date text) h = (bytes_eq-Decides folder name).0 h
about_name folder (Expunge name old_ids) h = (bytes_eq-Decides folder name).0 h
about_name folder (Store name flags old_ids origin) h = (bytes_eq-Decides folder name).0 h
about_name folder (Subscribe name) h = absurd (false≢true h)
about_name folder (Unsubscribe name seen) h = absurd (false≢true h)

module _ (start : Counters) (folder : List ℕ) where
  -- only an operation about a folder makes it exist
  pub starts : (ops : List Op) (o : Op) → IsApplied (ops ++ o ∷ []) → folder_exists folder ops ≡ false → folder_exists folder (ops ++ o ∷ []) ≡ true → begins_incarnation ops o ≡ true
  starts ops o a f t =
      elim (cases_Bool (kind_names_folder folder o.kind)) [
        | inl about ↦ subst (λ (n : List ℕ). (folder_exists n (ops ++ o ∷ []) && not (folder_exists n ops)) ≡ true) (about_name folder o.kind about) ((λ k. t k && not (f k)))
        | inr other ↦ absurd (false≢true (sym f ∙ sym (other_exists folder ops o a other) ∙ t))
      ]

  -- a folder other than INBOX has existed since some operation of the list
  own_begin : (ops : List Op) → IsApplied ops → (folder ≡ inbox → ⊥) → folder_exists folder ops ≡ true → 0 < count_since (folder_exists folder) begins_incarnation ops
  own_begin = by_last (λ (ops : List Op). IsApplied ops → (folder ≡ inbox → ⊥) → folder_exists folder ops ≡ true → 0 < count_since (folder_exists folder) begins_incarnation ops)
      (λ a n t. elim ((exists_tags folder []).0 t) [ inl e ↦ absurd (n e) | inr w ↦ elim w.1 [ inl e ↦ absurd (false≢true e) | inr e ↦ absurd (false≢true e) ] ])
      (λ ops o ih a n t.
      let e = counted-here (folder_exists folder) begins_incarnation ops o t in
      elim (cases_Bool (folder_exists folder ops)) [
        | inl u ↦ let h = ih (applied_front ops (o ∷ []) a) n u in omega (arith, e, h)
        | inr f ↦ let b : once (begins_incarnation ops o) ≡ 1 = ap once (starts ops o a f t) in omega (arith, e, b)
      ])

  -- the folder exists after these operations, and after each of the further ones
  abbrev pub Stays : List Op → List Op → Type 0
  Stays ops [] = folder_exists folder ops ≡ true
  Stays ops (o ∷ more) = (folder_exists folder ops ≡ true) × Stays (ops ++ o ∷ []) more

  k_grows : (ops : List Op) (o : Op) (k : ℕ) → k < k_of start folder ops → k < k_of start folder (ops ++ o ∷ [])
  k_grows ops o k l =
      let s = split_counts (folder_exists folder) begins_incarnation ops in
      let m = all-append begins_incarnation ops o in
      elim (cases_Bool (folder_exists folder (ops ++ o ∷ []))) [
        | inl u ↦ let e = k_here start folder ops o u in omega (arith, e, l)
        | inr f ↦ let e = k_none start folder (ops ++ o ∷ []) f in omega (arith, e, l, s, m)
      ]

  k_grown : (more ops : List Op) (k : ℕ) → k < k_of start folder ops → k < k_of start folder (ops ++ more)
  k_grown [] ops k l = subst (λ (xs : List Op). k < k_of start folder xs) (sym (append-nil ops)) l
  k_grown (o ∷ more) ops k l = subst (λ (xs : List Op). k < k_of start folder xs) (append_assoc ops (o ∷ []) more) (k_grown more (ops ++ o ∷ []) k (k_grows ops o k l))

  -- either the incarnation continues, or k has grown
  stays_or_grows : (more ops : List Op) → IsApplied (ops ++ more) → (folder ≡ inbox → ⊥) → folder_exists folder ops ≡ true → Stays ops more ⊎ (k_of start folder ops < k_of start folder (ops ++ more))
  stays_or_grows [] ops a n t = inl t
  stays_or_grows (o ∷ more) ops a n t =
      let whole : (ops ++ o ∷ []) ++ more ≡ ops ++ o ∷ more = append_assoc ops (o ∷ []) more in
      let a2 : IsApplied ((ops ++ o ∷ []) ++ more) = subst IsApplied (sym whole) a in
      let a1 : IsApplied (ops ++ o ∷ []) = applied_front (ops ++ o ∷ []) more a2 in
      let a0 : IsApplied ops = applied_front ops (o ∷ []) a1 in
      elim (cases_Bool (folder_exists folder (ops ++ o ∷ []))) [
        | inl u ↦
            let e = k_here start folder ops o u in
            elim (stays_or_grows more (ops ++ o ∷ []) a2 n u) [
              | inl w ↦ inl (t, w)
              | inr l ↦ inr (subst (λ (j : ℕ). j < k_of start folder (ops ++ o ∷ more)) e (subst (λ (xs : List Op). k_of start folder (ops ++ o ∷ []) < k_of start folder xs) whole l))
            ]
        | inr f ↦
            let e = k_none start folder (ops ++ o ∷ []) f in
            let g = own_begin ops a0 n t in
            let s = split_counts (folder_exists folder) begins_incarnation ops in
            let m = all-append begins_incarnation ops o in
            let l : k_of start folder ops < k_of start folder (ops ++ o ∷ []) = omega (arith, e, g, s, m) in
            inr (subst (λ (xs : List Op). k_of start folder ops < k_of start folder xs) whole (k_grown more (ops ++ o ∷ []) (k_of start folder ops) l))
      ]

  inbox_stays : (more ops : List Op) → folder ≡ inbox → Stays ops more
  inbox_stays [] ops e = subst (λ (n : List ℕ). folder_exists n ops ≡ true) (sym e) (inbox_exists ops)
  inbox_stays (o ∷ more) ops e = (subst (λ (n : List ℕ). folder_exists n ops ≡ true) (sym e) (inbox_exists ops), inbox_stays more (ops ++ o ∷ []) e)

  uidvalidity_parts : (b present : Bool) (r k v : ℕ) → cond b (Some r) (cond present (Some (65536 * k + r)) None) ≡ Some v → (b ≡ true) ⊎ ((b ≡ false) × (present ≡ true) × (65536 * k + r ≡ v))
  uidvalidity_parts true present r k v h = inl refl
  uidvalidity_parts false true r k v h = inr (refl, refl, cc)
  uidvalidity_parts false false r k v h = absurd cc

  -- if the UIDVALIDITY is the same, the folder existed all the time
  pub stays_by_uidvalidity : (ops more : List Op) (v : ℕ) → IsApplied (ops ++ more) → uidvalidity_of start folder ops ≡ Some v → uidvalidity_of start folder (ops ++ more) ≡ Some v → Stays ops more
  stays_by_uidvalidity ops more v a h j =
      elim (uidvalidity_parts (bytes_eq folder inbox) (folder_exists folder ops) start.replica (k_of start folder ops) v h) [
        | inl b ↦ inbox_stays more ops ((bytes_eq-Decides folder inbox).0 b)
        | inr w ↦ elim (uidvalidity_parts (bytes_eq folder inbox) (folder_exists folder (ops ++ more)) start.replica (k_of start folder (ops ++ more)) v j) [
          | inl b ↦ absurd (false≢true (sym w.0 ∙ b))
          | inr z ↦ elim (stays_or_grows more ops a (λ e. false≢true (sym w.0 ∙ (bytes_eq-Decides folder inbox).1 e)) w.1) [
            | inl s ↦ s
            | inr l ↦ let p = w.2 in let q = z.2 in absurd (omega (arith, l, p, q))
          ]
        ]
      ]
