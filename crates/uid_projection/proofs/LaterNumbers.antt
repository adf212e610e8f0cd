use Rattle.std.specs.Global.{Vec}
use Rattle.std.proofs.Common.{◌≡◌, Option, None, Some, inl, inr, ℕ, ◌+◌, ◌≤◌, Bool, true, false, cond, List, [], ◌∷◌, ◌++◌, length, refl, sym, ap, ◌∙◌, subst, append_assoc, append-nil, arith}
use Rattle.std.specs.List.{list_any}
use Rattle.std.proofs.lemmas.Bool.{cases_Bool, cases_eq, cases_lt, false≢true, or_parts}
use Rattle.imap_types.specs.Names.{inbox}
use Rattle.tags_clocks.specs.declared.id.OpId.{OpId}
use Rattle.crdt_ops.specs.declared.op.Op.{Op}
use Rattle.crdt_ops.specs.Tags.{name_of}
use Rattle.crdt_ops.proofs.Members.{any_in}
use Rattle.uid_projection.specs.declared.chart.Chart.{Chart}
use Rattle.uid_projection.specs.declared.charts.Charts.{Charts}
use Rattle.uid_projection.specs.declared.first_numbers.Counters.{Counters}
use Rattle.uid_projection.specs.Applied.{IsApplied}
use Rattle.uid_projection.specs.Exhaustion.{Exhausts, IsExhausted}
use Rattle.uid_projection.specs.Following.{Follows, IsReadyFor}
use Rattle.uid_projection.specs.Counting.{count_all}
use Rattle.uid_projection.specs.Incarnations.{begins_incarnation, folder_exists, k_of}
use Rattle.uid_projection.specs.UidsAndModSeqs.{begins_line, kind_names_folder, first_uid, highest_modseq_of, uidnext_of}
use Rattle.uid_projection.specs.EntryMoves.{added_origin}
use Rattle.uid_projection.specs.ChartTable.{HasRooms, HasRoomsIn, IsRoomy, IsTable, chart_at, modseqs_of}
use Rattle.uid_projection.proofs.ExhaustionLemmas.{append_next}
use Rattle.uid_projection.proofs.HistoryLemmas.{once, all-append}
use Rattle.uid_projection.proofs.CounterLemmas.{about_name, starts}
use Rattle.uid_projection.proofs.Presence.{applied_front}
use Rattle.uid_projection.proofs.Steps.{highest_absent, highest_here, k_here, k_none, uidnext_absent, uidnext_here}
use Rattle.uid_projection.proofs.TouchedLineLemmas.{line_about}

-- ---- if no counter lacks a number for the operations, none does for the others after the first

first_lasts : (start : Counters) (list rest : List Op) (o : Op) → (Exhausts start list (o ∷ rest) → ⊥) → IsExhausted start list o → ⊥
first_lasts start list rest o not_exhausted h = not_exhausted ([], o, rest, refl, subst (λ (xs : List Op). IsExhausted start xs o) (sym (append-nil list)) h)

others_last : (start : Counters) (list rest : List Op) (o : Op) → (Exhausts start list (o ∷ rest) → ⊥) → Exhausts start (list ++ o ∷ []) rest → ⊥
others_last start list rest o not_exhausted (front, p, back, k, h) =
    not_exhausted (o ∷ front, p, back, ap (λ xs. o ∷ xs) k, subst (λ (xs : List Op). IsExhausted start xs p) (append_assoc list (o ∷ []) front) h)

others_applied : (list rest : List Op) (o : Op) → IsApplied (list ++ o ∷ rest) → IsApplied ((list ++ o ∷ []) ++ rest)
others_applied list rest o a = subst IsApplied (sym (append_assoc list (o ∷ []) rest)) a

-- ---- UIDNEXT

once_most : (b : Bool) → once b ≤ 1
once_most true = omega arith
once_most false = omega arith

-- a line takes the next UID, which isn't the last number
line_within : (start : Counters) (folder : List ℕ) (list : List Op) (o : Op) → uidnext_of start folder list ≤ 4294967295 → (IsExhausted start list o → ⊥) → uidnext_of start folder list + once (begins_line folder list o) ≤ 4294967295
line_within start folder list o l not_exhausted =
    elim (cases_Bool (begins_line folder list o)) [
      | inl t ↦
          let own : folder ≡ name_of o.kind = about_name folder o.kind (line_about folder list o t) in
          let e : once (begins_line folder list o) ≡ 1 = ap once t in
          elim (cases_eq (uidnext_of start folder list) 4294967295) [
            | inl k ↦ absurd (not_exhausted (inl (subst (λ n. begins_line n list o ≡ true) own t, ap (λ n. uidnext_of start n list) (sym own) ∙ k)))
            | inr n ↦ omega (arith, e, l, n)
          ]
      | inr f ↦ let e : once (begins_line folder list o) ≡ 0 = ap once f in omega (arith, e, l)
    ]

pub uidnext_within : (start : Counters) (folder : List ℕ) (ops list : List Op) → uidnext_of start folder list ≤ 4294967295 → first_uid start folder ≤ 4294967295 → (Exhausts start list ops → ⊥) → uidnext_of start folder (list ++ ops) ≤ 4294967295
uidnext_within start folder [] list u f not_exhausted = let e = ap (uidnext_of start folder) (append-nil list) in omega (arith, u, e)
uidnext_within start folder (o ∷ ops) list u f not_exhausted =
    let e = ap (uidnext_of start folder) (append_assoc list (o ∷ []) ops) in
    let step : uidnext_of start folder (list ++ o ∷ []) ≤ 4294967295 = elim (cases_Bool (folder_exists folder (list ++ o ∷ []))) [
      | inl t ↦
          let h = uidnext_here start folder list o t in
          let w = line_within start folder list o u (first_lasts start list ops o not_exhausted) in
          omega (arith, h, w)
      | inr g ↦ let h = uidnext_absent start folder list o g in omega (arith, h, f)
    ] in
    let r = uidnext_within start folder ops (list ++ o ∷ []) step f (others_last start list ops o not_exhausted) in
    omega (arith, r, e)

-- ---- UIDVALIDITY

pub k_of_is : (start : Counters) (folder : List ℕ) (list front through : List Op) (o : Op) (present : Bool) (k next r : ℕ) → through ≡ front ++ o ∷ [] → present ≡ folder_exists folder (list ++ through) → k ≡ k_of start folder (list ++ front) → next ≡ start.k + count_all begins_incarnation (list ++ through) → r ≡ cond present k next → r ≡ k_of start folder (list ++ through)
k_of_is start folder list front through o present k next r e x y z h =
    let w = append_next list front through o e in
    h ∙ elim (cases_Bool present) [
      | inl t ↦ (λ i. cond (t i) k next) ∙ y ∙ sym (k_here start folder (list ++ front) o (sym (ap (folder_exists folder) w) ∙ sym x ∙ t)) ∙ sym (ap (k_of start folder) w)
      | inr f ↦ (λ i. cond (f i) k next) ∙ z ∙ sym (k_none start folder (list ++ through) (sym x ∙ f))
    ]

module _ (start : Counters) (folder : List ℕ) (other : folder ≡ inbox → ⊥) where
  -- the k of an incarnation is small
  pub k_within_after : (ops list : List Op) → IsApplied (list ++ ops) → (folder_exists folder list ≡ true → k_of start folder list ≤ 65535) → (Exhausts start list ops → ⊥) → folder_exists folder (list ++ ops) ≡ true → k_of start folder (list ++ ops) ≤ 65535
  k_within_after [] list a h not_exhausted t =
      let e = ap (k_of start folder) (append-nil list) in
      let l = h (sym (ap (folder_exists folder) (append-nil list)) ∙ t) in
      omega (arith, e, l)
  k_within_after (o ∷ ops) list a h not_exhausted t =
      let b = others_applied list ops o a in
      let e = ap (k_of start folder) (append_assoc list (o ∷ []) ops) in
      let step : folder_exists folder (list ++ o ∷ []) ≡ true → k_of start folder (list ++ o ∷ []) ≤ 65535 = λ q.
      let same = k_here start folder list o q in
      elim (cases_Bool (folder_exists folder list)) [
        | inl was ↦ let l = h was in omega (arith, same, l)
        | inr f ↦
            let one = starts start folder list o (applied_front (list ++ o ∷ []) ops b) f q in
            let n = k_none start folder list f in
            elim (cases_lt 65535 (start.k + count_all begins_incarnation list)) [
              | inl l ↦ absurd (first_lasts start list ops o not_exhausted (inr (one, l)))
              | inr l ↦ omega (arith, same, n, l)
            ]
      ]
      in
      let r = k_within_after ops (list ++ o ∷ []) b step (others_last start list ops o not_exhausted) (ap (folder_exists folder) (append_assoc list (o ∷ []) ops) ∙ t) in
      omega (arith, r, e)

  pub k_within_table : (list : List Op) (k : ℕ) (charts : List (Vec ℕ × Chart)) → IsTable start list k charts → folder_exists folder list ≡ true → k_of start folder list ≤ 65535
  k_within_table list k charts t present = by (chart_at folder charts) refl
    where
      by : (x : Option Chart) → chart_at folder charts ≡ x → k_of start folder list ≤ 65535
      by None e = absurd (false≢true (sym (t.covers folder e) ∙ present))
      by (Some c) e =
          let up = t.shows folder c e in
          let q : c.present ≡ true = up.present ∙ present in
          subst (λ n. n ≤ 65535) (up.is_k q) (up.small q other)

-- ---- HIGHESTMODSEQ

pub highest_is : (folder : List ℕ) (list front through : List Op) (o : Op) (present about : Bool) (h r : ℕ) → through ≡ front ++ o ∷ [] → present ≡ folder_exists folder (list ++ through) → about ≡ kind_names_folder folder o.kind → h ≡ highest_modseq_of folder (list ++ front) → r ≡ cond present (cond about (h + 1) h) 1 → r ≡ highest_modseq_of folder (list ++ through)
highest_is folder list front through o present about h r e x y u k =
    let w = append_next list front through o e in
    let is = x ∙ ap (folder_exists folder) w in
    k ∙ elim (cases_Bool present) [
      | inl t ↦
          let m = highest_here folder (list ++ front) o (sym is ∙ t) in
          (λ i. cond (t i) (cond about (h + 1) h) 1) ∙ plus about h ∙ (λ i. u i + once (y i)) ∙ sym m ∙ sym (ap (highest_modseq_of folder) w)
      | inr g ↦ (λ i. cond (g i) (cond about (h + 1) h) 1) ∙ sym (highest_absent folder (list ++ front) o (sym is ∙ g)) ∙ sym (ap (highest_modseq_of folder) w)
    ]
  where
    plus : (b : Bool) (n : ℕ) → cond b (n + 1) n ≡ n + once b
    plus true n = refl
    plus false n = omega arith

-- n operations raise it by at most n
highest_bound : (folder : List ℕ) (ops list : List Op) (n : ℕ) → highest_modseq_of folder list ≤ n → 1 ≤ n → highest_modseq_of folder (list ++ ops) ≤ n + length ops
highest_bound folder [] list n u l = let e = ap (highest_modseq_of folder) (append-nil list) in omega (arith, u, e)
highest_bound folder (o ∷ ops) list n u l =
    let e = ap (highest_modseq_of folder) (append_assoc list (o ∷ []) ops) in
    let step : highest_modseq_of folder (list ++ o ∷ []) ≤ n + 1 = elim (cases_Bool (folder_exists folder (list ++ o ∷ []))) [
      | inl t ↦ let h = highest_here folder list o t in let b = once_most (kind_names_folder folder o.kind) in omega (arith, h, b, u)
      | inr g ↦ let h = highest_absent folder list o g in omega (arith, h, l)
    ] in
    let r = highest_bound folder ops (list ++ o ∷ []) (n + 1) step (omega arith) in
    omega (arith, r, e)

-- if none is about the folder, it isn't raised
highest_still : (folder : List ℕ) (ops list : List Op) (n : ℕ) → IsApplied (list ++ ops) → list_any (λ (o : Op). kind_names_folder folder o.kind) ops ≡ false → highest_modseq_of folder list ≤ n → 1 ≤ n → highest_modseq_of folder (list ++ ops) ≤ n
highest_still folder [] list n a none u l = let e = ap (highest_modseq_of folder) (append-nil list) in omega (arith, u, e)
highest_still folder (o ∷ ops) list n a none u l =
    let p = or_parts (kind_names_folder folder o.kind) (list_any (λ (x : Op). kind_names_folder folder x.kind) ops) none in
    let b = others_applied list ops o a in
    let e = ap (highest_modseq_of folder) (append_assoc list (o ∷ []) ops) in
    let step : highest_modseq_of folder (list ++ o ∷ []) ≤ n = elim (cases_Bool (folder_exists folder (list ++ o ∷ []))) [
      | inl t ↦ let h = highest_here folder list o t in let z : once (kind_names_folder folder o.kind) ≡ 0 = ap once p.0 in omega (arith, h, z, u)
      | inr g ↦ let h = highest_absent folder list o g in omega (arith, h, l)
    ] in
    let r = highest_still folder ops (list ++ o ∷ []) n b p.1 step l in
    omega (arith, r, e)

-- a folder with room has a chart
charted_roomy : (origin : Option OpId) (n k : ℕ) (folder : List ℕ) (charts : List (Vec ℕ × Chart)) → HasRooms origin n k folder charts → (c : Chart) × (chart_at folder charts ≡ Some c) × IsRoomy origin n k c
charted_roomy origin n k folder charts r = by (chart_at folder charts) refl r
  where
    by : (x : Option Chart) → chart_at folder charts ≡ x → HasRoomsIn origin n k x → (c : Chart) × (chart_at folder charts ≡ Some c) × IsRoomy origin n k c
    by None e h = absurd h
    by (Some c) e h = (c, e, h)

-- charts that are ready for the operations have numbers left for HIGHESTMODSEQ
pub highest_within : (x : Charts) (list ops : List Op) (folder : List ℕ) → Follows x list → IsReadyFor x list ops → highest_modseq_of folder list ≤ 18446744073709551615 → highest_modseq_of folder (list ++ ops) ≤ 18446744073709551615
highest_within x list ops folder f r u =
    elim (cases_Bool (list_any (λ (o : Op). kind_names_folder folder o.kind) ops)) [
      | inl t ↦
          let w = (any_in (λ (o : Op). kind_names_folder folder o.kind) ops).0 t in
          let own : folder ≡ name_of w.0.kind = about_name folder w.0.kind w.2 in
          let roomy = charted_roomy (added_origin w.0) (length ops) (modseqs_of ops) (name_of w.0.kind) x.charts.entries (r.rooms w.0 w.1 (subst (λ (n : List ℕ). kind_names_folder n w.0.kind ≡ true) own w.2)) in
          let is : roomy.0.highest ≡ highest_modseq_of folder list = (f.table.shows (name_of w.0.kind) roomy.0 roomy.1).shows.is_highest ∙ ap (λ n. highest_modseq_of n list) (sym own) in
          let least : 1 ≤ highest_modseq_of folder list = omega arith in
          let b = highest_bound folder ops list (highest_modseq_of folder list) (omega arith) least in
          let h = roomy.2.highest in
          omega (arith, b, h, is)
      | inr none ↦ highest_still folder ops list 18446744073709551615 r.applied none u (omega arith)
    ]

-- ---- the k of the incarnation that begins next

once_as : (b : Bool) (k : ℕ) → cond b (k + 1) k ≡ k + once b
once_as true k = refl
once_as false k = omega arith

-- the k of the incarnation that begins next
pub next_k_is : (start : Counters) (list front through : List Op) (o : Op) (b : Bool) (k r : ℕ) → through ≡ front ++ o ∷ [] → b ≡ begins_incarnation (list ++ front) o → k ≡ start.k + count_all begins_incarnation (list ++ front) → r ≡ cond b (k + 1) k → r ≡ start.k + count_all begins_incarnation (list ++ through)
next_k_is start list front through o b k r e x y z =
    let m = all-append begins_incarnation (list ++ front) o in
    let w : count_all begins_incarnation (list ++ through) ≡ count_all begins_incarnation ((list ++ front) ++ o ∷ []) = ap (count_all begins_incarnation) (append_next list front through o e) in
    let v : once b ≡ once (begins_incarnation (list ++ front) o) = ap once x in
    let u = once_as b k in
    omega (arith, m, w, v, u, y, z)
