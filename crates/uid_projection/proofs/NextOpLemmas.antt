use Rattle.std.specs.Map.{KeepsOthers}
use Rattle.std.specs.Str.{bytes_eq}
use Rattle.std.proofs.Common.{◌≡◌, inl, inr, ℕ, ◌+◌, ◌*◌, ◌≤◌, true, false, cond, List, [], ◌∷◌, ◌++◌, Option, Some, None, length, refl, sym, ap, ◌∙◌, subst, append_assoc, append-nil, arith}
use Rattle.std.proofs.lemmas.Bool.{cases_Bool, false≢true, false_from_ne_true}
use Rattle.std.proofs.lemmas.Slice.Eq.{bytes_eq-Decides}
use Rattle.imap_types.specs.Names.{inbox}
use Rattle.merge_laws.specs.Orders.{AreSound, IsCausal, fold_of}
use Rattle.merge_laws.proofs.Lists.{in_parts}
use Rattle.tags_clocks.specs.declared.id.OpId.{OpId}
use Rattle.crdt_ops.specs.declared.op.Op.{Op}
use Rattle.crdt_ops.specs.Sound.{IsSound}
use Rattle.crdt_ops.specs.Tags.{name_of}
use Rattle.folder_state.specs.Contents.{Contents, IsMadeBy, effect_of, no_contents}
use Rattle.uid_projection.specs.declared.chart.Chart.{Chart}
use Rattle.uid_projection.specs.declared.charts.Charts.{Charts}
use Rattle.uid_projection.specs.declared.first_numbers.Counters.{Counters}
use Rattle.uid_projection.specs.Applied.{IsApplied}
use Rattle.uid_projection.specs.Chart.{AreVersions}
use Rattle.uid_projection.specs.Exhaustion.{IsExhausted}
use Rattle.uid_projection.specs.Following.{Follows, IsReadyFor}
use Rattle.uid_projection.specs.Incarnations.{folder_exists, k_of, uidvalidity_of}
use Rattle.uid_projection.specs.UidsAndModSeqs.{kind_names_folder}
use Rattle.uid_projection.specs.EntryMoves.{added_origin}
use Rattle.uid_projection.specs.Readiness.{less_room}
use Rattle.uid_projection.specs.ChartTable.{HasRooms, IsNextOn, IsTable, IsUpTo, chart_at, modseqs_by, modseqs_of, origin_at}
use Rattle.uid_projection.proofs.ChartOf.{chart_first}
use Rattle.uid_projection.proofs.CounterLemmas.{about_name}
use Rattle.uid_projection.proofs.Presence.{inbox_exists, exists_tags}
use Rattle.uid_projection.proofs.Tables.{Named, is_chart_of_equal, has_name, no_chart, others_at, own_chart, own_chart_exists, same_key, table_unmoved}
use Rattle.uid_projection.proofs.TouchedLineLemmas.{no_origin}
use Rattle.crdt_ops.specs.Ops.{clock_of, id_of}

pub both_applied : (list ops : List Op) → IsApplied list → AreSound IsSound ops → IsCausal id_of clock_of (list ++ ops) → IsApplied (list ++ ops)
both_applied list ops a s d = record {
  sound = λ o i. elim (in_parts o list ops i) [ inl t ↦ a.sound o t | inr t ↦ s o t ];
  causal = d;
}

pub made_by : (c : Contents) (list : List Op) → IsApplied list → c ≡ fold_of effect_of no_contents list → IsMadeBy c list
made_by c list a m = record { sound = a.sound; causal = a.causal; made = m }

-- the next operation is one for which the charts were made ready
pub next_on : (x : Charts) (value : Contents) (list : List Op) (o p : Op) → p ≡ o → Follows x list → IsReadyFor x list (o ∷ []) → IsMadeBy value (list ++ o ∷ []) → IsNextOn x.start x.next_k x.charts.entries value list p
next_on x value list o p e f r m =
    let r2 : IsReadyFor x list (p ∷ []) = subst (λ (q : Op). IsReadyFor x list (q ∷ [])) (sym e) r in
    record {
      next = record {
        first = f.first;
        applied = r2.applied;
        made = subst (λ (q : Op). IsMadeBy value (list ++ q ∷ [])) (sym e) m;
        is_k = f.table.is_k;
        not_exhausted = λ h. r2.not_exhausted ([], p, [], refl, subst (λ (xs : List Op). IsExhausted x.start xs p) (sym (append-nil list)) h);
      };
      table = f.table;
    }

-- its folder's chart has room for it
pub next_rooms : (x : Charts) (list : List Op) (o p : Op) → p ≡ o → IsReadyFor x list (o ∷ []) → kind_names_folder (name_of p.kind) p.kind ≡ true → HasRooms (added_origin p) 1 (modseqs_by p) (name_of p.kind) x.charts.entries
next_rooms x list o p e r about =
    let r2 : IsReadyFor x list (p ∷ []) = subst (λ (q : Op). IsReadyFor x list (q ∷ [])) (sym e) r in
    less_room (added_origin p) 1 (length (p ∷ [])) (modseqs_by p) (modseqs_of (p ∷ [])) (name_of p.kind) x.charts.entries (omega arith) (omega arith) (r2.rooms p (inl refl) about)

-- the charts stay ready for the others
pub others_ready : (x y : Charts) (list : List Op) (o : Op) (rest : List Op) → y.start ≡ x.start → ((origin : Option OpId) (n k : ℕ) (folder : List ℕ) → HasRooms origin (n + 1) (k + modseqs_by o) folder x.charts.entries → HasRooms origin n k folder y.charts.entries) → IsReadyFor x list (o ∷ rest) → IsReadyFor y (list ++ o ∷ []) rest
others_ready x y list o rest same rooms r = record {
  applied = subst IsApplied (sym (append_assoc list (o ∷ []) rest)) r.applied;
  not_exhausted = λ e.
      let (front, p, back, k, h) = e in
      let h2 : IsExhausted x.start (list ++ o ∷ front) p = subst (λ (xs : List Op). IsExhausted x.start xs p) (append_assoc list (o ∷ []) front) (subst (λ (s : Counters). IsExhausted s ((list ++ o ∷ []) ++ front) p) same h) in
      r.not_exhausted (o ∷ front, p, back, ap (λ xs. o ∷ xs) k, h2);
  rooms = λ p i about. rooms (added_origin p) (length rest) (modseqs_of rest) (name_of p.kind) (less_room (added_origin p) (length rest + 1) (length (o ∷ rest)) (modseqs_of rest + modseqs_by o) (modseqs_of (o ∷ rest)) (name_of p.kind) x.charts.entries (omega arith) (omega arith) (r.rooms p (inr i) about));
}

-- an operation that is about no folder
pub names_no_folder : (o : Op) → kind_names_folder (name_of o.kind) o.kind ≡ false → (folder : List ℕ) → kind_names_folder folder o.kind ≡ false
names_no_folder o f folder = false_from_ne_true (kind_names_folder folder o.kind) (λ t. false≢true (sym f ∙ subst (λ (n : List ℕ). kind_names_folder n o.kind ≡ true) (about_name folder o.kind t) t))

pub unmoved : (x : Charts) (list : List Op) (o : Op) → kind_names_folder (name_of o.kind) o.kind ≡ false → Follows x list → IsReadyFor x list (o ∷ []) → Follows x (list ++ o ∷ [])
unmoved x list o f w r = record {
  first = w.first;
  applied = r.applied;
  table = table_unmoved x.start list o r.applied x.charts.entries x.next_k (names_no_folder o f) w.table;
  nothing = w.nothing;
}

-- the charts of an empty list
first_up : (start : Counters) (c : Chart) → c.present ≡ true → c.k ≡ start.k → c.uidnext ≡ start.uid → c.highest ≡ 1 → c.entries.entries ≡ [] → c.versions.entries ≡ [] → c.entries.latest ≡ 0 → IsUpTo start inbox [] c
first_up start c t k u h es vs l =
    let first : start.k ≡ k_of start inbox [] = omega arith in
    record {
      present = t ∙ sym (inbox_exists []);
      shows = is_chart_of_equal start inbox [] _ _ _ _ _ _ u h es (chart_first start inbox);
      versions = subst (λ v. AreVersions inbox [] (origin_at v)) (sym vs) (λ i g. (λ e. absurd (no_origin g e), λ v. absurd (false≢true v.0)));
      is_k = λ q. k ∙ first;
      small = λ q n. absurd (n refl);
      latest = omega (arith, l);
    }

pub first_table : (start : Counters) (name : List ℕ) (old charts : List Named) (c : Chart) → old ≡ [] → KeepsOthers same_key (has_name name) old charts → chart_at name charts ≡ Some c → name ≡ inbox → c.present ≡ true → c.k ≡ start.k → c.uidnext ≡ start.uid → c.highest ≡ 1 → c.entries.entries ≡ [] → c.versions.entries ≡ [] → c.entries.latest ≡ 0 → IsTable start [] start.k charts
first_table start name old charts c none keeps is own t k u h es vs l =
    let first : IsUpTo start name [] c = subst (λ n. IsUpTo start n [] c) (sym own) (first_up start c t k u h es vs l) in
    record {
      is_k = omega arith;
      shows = λ folder d e. elim (cases_Bool (bytes_eq folder name)) [
        | inl y ↦ subst (IsUpTo start folder []) (own_chart name old charts c keeps is folder d y e) (subst (λ n. IsUpTo start n [] c) (sym ((bytes_eq-Decides folder name).0 y)) first)
        | inr f ↦ absurd (no_chart d (sym e ∙ others_at name old charts keeps folder f ∙ ap (chart_at folder) none))
      ];
      covers = λ folder e. elim (cases_Bool (bytes_eq folder name)) [
        | inl y ↦ absurd (own_chart_exists name old charts c keeps is folder y e)
        | inr f ↦ false_from_ne_true (folder_exists folder []) (λ h. elim ((exists_tags folder []).0 h) [
          | inl q ↦ false≢true (sym f ∙ (bytes_eq-Decides folder name).1 (q ∙ sym own))
          | inr w ↦ elim w.1 [ inl x ↦ false≢true x | inr x ↦ false≢true x ]
        ])
      ];
    }

-- the UIDVALIDITY that the chart gives
pub validity_at : (start : Counters) (list : List Op) (k : ℕ) (charts : List Named) (name : List ℕ) (t : IsTable start list k charts) (c : Chart) (r : Option ℕ) → chart_at name charts ≡ Some c → bytes_eq name inbox ≡ false → (c.present ≡ false → r ≡ None) → (c.present ≡ true → c.k ≤ 65535 → r ≡ Some (65536 * c.k + start.replica)) → r ≡ uidvalidity_of start name list
validity_at start list k charts name t c r is other if_absent present =
    let up = t.shows name c is in
    let was : c.present ≡ folder_exists name list = up.present in
    elim (cases_Bool c.present) [
      | inl q ↦
          let small = up.small q (λ e. false≢true (sym other ∙ (bytes_eq-Decides name inbox).1 e)) in
          present q small ∙ (λ i. Some (65536 * up.is_k q i + start.replica))
          ∙ (λ i. cond (sym other i) (Some start.replica) (cond ((sym q ∙ was) i) (Some (65536 * k_of start name list + start.replica)) None))
      | inr f ↦ if_absent f ∙ (λ i. cond (sym other i) (Some start.replica) (cond ((sym f ∙ was) i) (Some (65536 * k_of start name list + start.replica)) None))
    ]

pub validity_none : (start : Counters) (list : List Op) (name : List ℕ) → bytes_eq name inbox ≡ false → folder_exists name list ≡ false → ◌≡◌ {A = Option ℕ} None (uidvalidity_of start name list)
validity_none start list name other absent = (λ i. cond (sym other i) (Some start.replica) (cond (sym absent i) (Some (65536 * k_of start name list + start.replica)) None))

pub validity_present : (start : Counters) (list : List Op) (name : List ℕ) → bytes_eq name inbox ≡ false → folder_exists name list ≡ true → (k : ℕ) → k ≡ k_of start name list → ◌≡◌ {A = Option ℕ} (Some (65536 * k + start.replica)) (uidvalidity_of start name list)
validity_present start list name other present k is =
    (λ i. Some (65536 * is i + start.replica))
    ∙ (λ i. cond (sym other i) (Some start.replica) (cond (sym present i) (Some (65536 * k_of start name list + start.replica)) None))

pub validity_inbox : (start : Counters) (list : List Op) (name : List ℕ) → bytes_eq name inbox ≡ true → ◌≡◌ {A = Option ℕ} (Some start.replica) (uidvalidity_of start name list)
validity_inbox start list name own = (λ i. cond (sym own i) (Some start.replica) (cond (folder_exists name list) (Some (65536 * k_of start name list + start.replica)) None))
