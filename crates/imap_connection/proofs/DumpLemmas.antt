use Rattle.std.proofs.Common.{◌≡◌, inl, inr, ℕ, ◌+◌, ◌<◌, ◌≤◌, ◌==◌, Bool, List, [], ◌∷◌, ◌++◌, refl, ap, sym, ◌∙◌, subst, arith, if◌then◌else◌, codes}
use Rattle.std.proofs.lemmas.Bool.{cases_lt}
use Rattle.std.proofs.lemmas.Bool.Decides.{eqb_tells}
use Rattle.std.proofs.lemmas.Grind.{flat_map-append}
use Rattle.std.specs.Fmt.{decimal}
use Rattle.std.specs.List.{filter, flat_map}
use Rattle.causal_inbox.specs.Inbox.{AreAscending, IsClockOf, IsLess}
use Rattle.crdt_ops.specs.declared.op.Op.{Op}
use Rattle.crdt_ops.specs.Sound.{HasOwnEntry, IsSound}
use Rattle.merge_laws.specs.Orders.{AreSound, HaveSameElements, IsCausal, IsIn}
use Rattle.merge_laws.proofs.Lists.{id_of_element, in_back, in_front, in_parts}
use Rattle.merge_laws.proofs.Causal.{IsCausalAfter, causal_after, is_new}
use Rattle.tags_clocks.specs.declared.id.OpId.{OpId}
use Rattle.tags_clocks.specs.Clock.{IsAscendingFrom, IsClock, count_of}
use Rattle.crdt_ops.specs.DumpLines.{op_line, state_text}
use Rattle.imap_connection.specs.Dumps.{IsDump, op_lines_by, own_line}

abbrev id_of : Op → OpId
id_of op = op.id

abbrev clock_of : Op → List (ℕ × ℕ)
clock_of op = op.clock

-- one replica's operations in a list
abbrev own_ops : ℕ → List Op → List Op
own_ops replica ops = filter (λ (o : Op). o.id.replica == replica) ops

-- the operations of the clock's replicas, replica by replica
abbrev listed_by : List Op → List (ℕ × ℕ) → List Op
listed_by ops clock = flat_map (λ (e : ℕ × ℕ). own_ops e.0 ops) clock

-- the lines
own_lines : (r : ℕ) (ops : List Op) → flat_map (own_line r) ops ≡ flat_map op_line (own_ops r ops)
own_lines r [] = refl
own_lines r (o ∷ ops) =
    elim (eqb_tells o.id.replica r) [
      | inl t ↦ rw t.0 (ap (λ (line : List ℕ). op_line o ++ line) (own_lines r ops))
      | inr f ↦ rw f.0 (own_lines r ops)
    ]

lines_listed : (ops : List Op) (clock : List (ℕ × ℕ)) → flat_map (op_lines_by ops) clock ≡ flat_map op_line (listed_by ops clock)
lines_listed ops [] = refl
lines_listed ops (e ∷ es) =
    ap (λ (line : List ℕ). line ++ flat_map (op_lines_by ops) es) (own_lines e.0 ops)
    ∙ ap (λ (line : List ℕ). flat_map op_line (own_ops e.0 ops) ++ line) (lines_listed ops es)
    ∙ sym (flat_map-append op_line (own_ops e.0 ops) (listed_by ops es))

-- the elements
own_in : (r : ℕ) (ops : List Op) (o : Op) → IsIn o (own_ops r ops) → IsIn o ops × (o.id.replica ≡ r)
own_in r [] o h = absurd h
own_in r (p ∷ ops) o h =
    elim (eqb_tells p.id.replica r) [
      | inl t ↦
          let k : IsIn o (p ∷ own_ops r ops) = subst (λ (b : Bool). IsIn o (if b then p ∷ own_ops r ops else own_ops r ops)) t.0 h in
          elim k [
            | inl e ↦ (inl e, ap (λ (q : Op). q.id.replica) (sym e) ∙ t.1)
            | inr u ↦ let i = own_in r ops o u in (inr i.0, i.1)
          ]
      | inr f ↦
          let i = own_in r ops o (subst (λ (b : Bool). IsIn o (if b then p ∷ own_ops r ops else own_ops r ops)) f.0 h) in
          (inr i.0, i.1)
    ]

in_own : (r : ℕ) (ops : List Op) (o : Op) → IsIn o ops → o.id.replica ≡ r → IsIn o (own_ops r ops)
in_own r [] o h k = absurd h
in_own r (p ∷ ops) o h k =
    elim (eqb_tells p.id.replica r) [
      | inl t ↦
          subst (λ (b : Bool). IsIn o (if b then p ∷ own_ops r ops else own_ops r ops)) (sym t.0)
          (elim h [ inl e ↦ inl e | inr u ↦ inr (in_own r ops o u k) ])
      | inr f ↦
          subst (λ (b : Bool). IsIn o (if b then p ∷ own_ops r ops else own_ops r ops)) (sym f.0)
          (elim h [ inl e ↦ absurd (f.1 (ap (λ (q : Op). q.id.replica) e ∙ k)) | inr u ↦ in_own r ops o u k ])
    ]

listed_in : (ops : List Op) (clock : List (ℕ × ℕ)) (o : Op) → IsIn o (listed_by ops clock) → IsIn o ops
listed_in ops [] o h = absurd h
listed_in ops (e ∷ es) o h =
    elim (in_parts o (own_ops e.0 ops) (listed_by ops es) h) [
      | inl t ↦ (own_in e.0 ops o t).0
      | inr t ↦ listed_in ops es o t
    ]

in_listed : (ops : List Op) (clock : List (ℕ × ℕ)) (o : Op) → IsIn o ops → 0 < count_of clock o.id.replica → IsIn o (listed_by ops clock)
in_listed ops [] o h k = absurd (omega arith)
in_listed ops (e ∷ es) o h k =
    elim (eqb_tells e.0 o.id.replica) [
      | inl t ↦ in_front o (own_ops e.0 ops) (listed_by ops es) (in_own e.0 ops o h (sym t.1))
      | inr f ↦
          in_back o (own_ops e.0 ops) (listed_by ops es)
          (in_listed ops es o h (subst (λ (b : Bool). 0 < (if b then e.1 else count_of es o.id.replica)) f.0 k))
    ]

listed_from : (ops : List Op) (low : ℕ) (clock : List (ℕ × ℕ)) (o : Op) → IsAscendingFrom low clock → IsIn o (listed_by ops clock) → low ≤ o.id.replica
listed_from ops low [] o a h = absurd h
listed_from ops low (e ∷ es) o a h =
    let first : low ≤ e.0 = a.0 in
    elim (in_parts o (own_ops e.0 ops) (listed_by ops es) h) [
      | inl t ↦ let same : o.id.replica ≡ e.0 = (own_in e.0 ops o t).1 in omega arith
      | inr t ↦ let is_above : e.0 + 1 ≤ o.id.replica = listed_from ops (e.0 + 1) es o a.2 t in omega arith
    ]

-- in a causal list, the later of two operations of one replica has the greater number
later_is_greater : (earlier os : List Op) (o p : Op) → IsCausalAfter id_of clock_of earlier (o ∷ os) → HasOwnEntry o → HasOwnEntry p → IsIn p os → o.id.replica ≡ p.id.replica → o.id.number < p.id.number
later_is_greater earlier os o p c own owned h same =
    elim (cases_lt o.id.number p.id.number) [
      | inl l ↦ l
      | inr m ↦ elim (cases_lt p.id.number o.id.number) [
        | inl l ↦
            let counted : count_of o.clock p.id.replica + 1 ≡ o.id.number = subst (λ (r : ℕ). count_of o.clock r + 1 ≡ o.id.number) same own in
            let positive : 0 < p.id.number = omega (arith, owned) in
            let within : p.id.number ≤ count_of o.clock p.id.replica = omega arith in
            absurd (is_new id_of clock_of (o ∷ earlier) os p c.1 h (inr (c.0.0 p.id (positive, within))))
        | inr n ↦
            let number : o.id.number ≡ p.id.number = omega arith in
            absurd (is_new id_of clock_of (o ∷ earlier) os p c.1 h (inl (λ t. record { replica = same t; number = number t })))
      ]
    ]

own_ascending : (earlier os : List Op) (r : ℕ) → IsCausalAfter id_of clock_of earlier os → AreSound IsSound os → AreAscending id_of (own_ops r os)
own_ascending earlier [] r c s = tt
own_ascending earlier (o ∷ os) r c s =
    let rest : AreAscending id_of (own_ops r os) = own_ascending (o ∷ earlier) os r c.1 (λ p h. s p (inr h)) in
    elim (eqb_tells o.id.replica r) [
      | inl t ↦
          subst (λ (b : Bool). AreAscending id_of (if b then o ∷ own_ops r os else own_ops r os)) (sym t.0) (
            λ p k.
                let i = own_in r os p k in
                let same : o.id.replica ≡ p.id.replica = t.1 ∙ sym i.1 in
                inr (same, later_is_greater earlier os o p c (s o (inl refl)).own (s p (inr i.0)).own i.0 same),
            rest,
          )
      | inr f ↦ subst (λ (b : Bool). AreAscending id_of (if b then o ∷ own_ops r os else own_ops r os)) (sym f.0) rest
    ]

ascending_append : (xs ys : List Op) → AreAscending id_of xs → AreAscending id_of ys → ((x y : Op) → IsIn x xs → IsIn y ys → IsLess x.id y.id) → AreAscending id_of (xs ++ ys)
ascending_append [] ys a b h = b
ascending_append (x ∷ xs) ys a b h = (
  λ p k. elim (in_parts p xs ys k) [ inl t ↦ a.0 p t | inr t ↦ h x p (inl refl) t ],
  ascending_append xs ys a.1 b (λ y z t u. h y z (inr t) u),
)

listed_ascending : (ops : List Op) (low : ℕ) (clock : List (ℕ × ℕ)) → IsAscendingFrom low clock → ((r : ℕ) → AreAscending id_of (own_ops r ops)) → AreAscending id_of (listed_by ops clock)
listed_ascending ops low [] a own = tt
listed_ascending ops low (e ∷ es) a own =
    ascending_append (own_ops e.0 ops) (listed_by ops es) (own e.0) (listed_ascending ops (e.0 + 1) es a.2 own) (λ x y h k.
    let first : x.id.replica ≡ e.0 = (own_in e.0 ops x h).1 in
    let is_above : e.0 + 1 ≤ y.id.replica = listed_from ops (e.0 + 1) es y a.2 k in
    inl (omega arith))

-- the operations of the clock's replicas ascend, and are those applied
listed_whole : (ops : List Op) (clock : List (ℕ × ℕ)) → IsCausal id_of clock_of ops → AreSound IsSound ops → IsClock clock → IsClockOf id_of ops clock → AreAscending id_of (listed_by ops clock) × HaveSameElements (listed_by ops clock) ops
listed_whole ops clock causal sound is_clock counts = (
  listed_ascending ops 1 clock is_clock (λ r. own_ascending [] ops r (causal_after id_of clock_of ops causal) sound),
  λ o. (
    listed_in ops clock o,
    λ h.
        let cause = (counts o.id).1 (id_of_element id_of o ops h) in
        let positive : 0 < o.id.number = cause.0 in
        let within : o.id.number ≤ count_of clock o.id.replica = cause.1 in
        in_listed ops clock o h (omega arith),
  ),
)

-- the text written is a dump of the replica, if the operations are those applied and the entries
-- are those of their clock
pub lists_applied : (replica : ℕ) (applied ops : List Op) (clock entries : List (ℕ × ℕ)) (text : List ℕ) → IsCausal id_of clock_of applied → AreSound IsSound applied → IsClock clock → IsClockOf id_of applied clock → ops ≡ applied → entries ≡ clock → text ≡ codes "dump " ++ decimal replica ++ 10 ∷ [] ++ flat_map (op_lines_by ops) entries ++ state_text applied ++ codes "end" ++ 10 ∷ [] → IsDump replica applied text
lists_applied replica applied ops clock entries text causal sound is_clock counts same shown written =
    let listed = listed_whole applied clock causal sound is_clock counts in
    let lines : flat_map (op_lines_by ops) entries ≡ flat_map op_line (listed_by applied clock) =
    ap (λ (os : List Op). flat_map (op_lines_by os) entries) same ∙ ap (flat_map (op_lines_by applied)) shown ∙ lines_listed applied clock in (
      listed_by applied clock,
      listed.0,
      listed.1,
      written ∙ ap (λ (ls : List ℕ). codes "dump " ++ decimal replica ++ 10 ∷ [] ++ ls ++ state_text applied ++ codes "end" ++ 10 ∷ []) lines,
    )

-- at most one of two ids is less than the other
less_both : (i j : OpId) → IsLess i j → IsLess j i → ⊥
less_both i j h k =
    elim h [
      | inl l ↦ elim k [ inl m ↦ omega arith | inr q ↦ let e = q.0 in omega arith ]
      | inr p ↦ let e = p.0 in let a = p.1 in elim k [ inl m ↦ omega arith | inr q ↦ let b = q.1 in omega arith ]
    ]

-- equal elements have only one ascending list
one_listing : (xs ys : List Op) → AreAscending id_of xs → AreAscending id_of ys → HaveSameElements xs ys → xs ≡ ys
one_listing [] [] a b h = refl
one_listing [] (y ∷ ys) a b h = absurd ((h y).1 (inl refl))
one_listing (x ∷ xs) [] a b h = absurd ((h x).0 (inl refl))
one_listing (x ∷ xs) (y ∷ ys) a b h =
    let first : x ≡ y =
    elim ((h x).0 (inl refl)) [
      | inl e ↦ sym e
      | inr t ↦ elim ((h y).1 (inl refl)) [ inl e ↦ e | inr u ↦ absurd (less_both x.id y.id (a.0 y u) (b.0 x t)) ]
    ] in
    let rest : HaveSameElements xs ys = λ z. (
      λ t. elim ((h z).0 (inr t)) [
        | inl e ↦ absurd (less_both x.id x.id (subst (λ (w : Op). IsLess x.id w.id) (sym (first ∙ e)) (a.0 z t)) (subst (λ (w : Op). IsLess x.id w.id) (sym (first ∙ e)) (a.0 z t)))
        | inr u ↦ u
      ],
      λ t. elim ((h z).1 (inr t)) [
        | inl e ↦ absurd (less_both y.id y.id (subst (λ (w : Op). IsLess y.id w.id) (sym (sym first ∙ e)) (b.0 z t)) (subst (λ (w : Op). IsLess y.id w.id) (sym (sym first ∙ e)) (b.0 z t)))
        | inr u ↦ u
      ],
    ) in
    ap (λ (w : Op). w ∷ xs) first ∙ ap (λ (ws : List Op). y ∷ ws) (one_listing xs ys a.1 b.1 rest)

-- a replica has one dump
pub one_dump : (replica : ℕ) (applied : List Op) (s t : List ℕ) → IsDump replica applied s → IsDump replica applied t → s ≡ t
one_dump replica applied s t d f =
    d.3 ∙ ap (λ (os : List Op). codes "dump " ++ decimal replica ++ 10 ∷ [] ++ flat_map op_line os ++ state_text applied ++ codes "end" ++ 10 ∷ [])
    (one_listing d.0 f.0 d.1 f.1 (λ o. (λ h. (f.2 o).1 ((d.2 o).0 h), λ h. (d.2 o).1 ((f.2 o).0 h))))
    ∙ sym f.3
