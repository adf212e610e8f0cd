use Rattle.std.proofs.Common.{◌≡◌, ◌⊎◌, inl, inr, ℕ, zero, suc, ◌+◌, ◌<◌, List, [], ◌∷◌, ◌++◌, length, take, get_or, Some, None, refl, sym, ap, ◌∙◌, subst, arith}
use Rattle.std.proofs.lemmas.List.{length-take, take_more}
use Rattle.crdt_ops.specs.Ops.{clock_of, id_of}
use Rattle.crdt_ops.specs.declared.op.Op.{Op}
use Rattle.imap_node.specs.Nodes.{NodeState, joined_node}
use Rattle.merge_laws.specs.Orders.{IsCausal, IsRipe}
use Rattle.op_log.specs.Entries.{ops_of}
use Rattle.op_log.specs.declared.entry.Entry.{Entry}
use Rattle.op_log.specs.declared.entry.Entry.TheVariants.{Apply, Begin, Commit}
use Rattle.log_dump.specs.EntryOrder.{AreInTurn, FollowsEntries, StopsAfter}

-- A list with an element at its end is cut either there or within the rest.
cut_last : {X : Type 0} (xs front back : List X) (last x : X) → xs ++ last ∷ [] ≡ front ++ x ∷ back → ((xs ≡ front) × (last ≡ x)) ⊎ ((rest : List X) × (xs ≡ front ++ x ∷ rest))
cut_last [] [] back last x k = inl (refl, cc)
cut_last [] (a ∷ []) back last x k = absurd cc
cut_last [] (a ∷ b ∷ front) back last x k = absurd cc
cut_last (b ∷ xs) [] back last x k = let e : b ≡ x = cc in inr (xs, ap (λ y. y ∷ xs) e)
cut_last {X} (b ∷ xs) (a ∷ front) back last x k =
    let e : b ≡ a = cc in
    let rest : xs ++ last ∷ [] ≡ front ++ x ∷ back = cc in
    elim (cut_last xs front back last x rest) [
      | inl s ↦ inl (λ i. e i ∷ s.0 i, s.1)
      | inr s ↦ inr (s.0, λ i. e i ∷ s.1 i)
    ]

-- ---- entries in turn

pub in_turn_none : (replica : ℕ) → AreInTurn replica []
in_turn_none replica [] entry back h = absurd cc
in_turn_none replica (x ∷ front) entry back h = absurd cc

pub in_turn_more : (replica : ℕ) (front : List Entry) (entry : Entry) → AreInTurn replica front → FollowsEntries replica front entry → AreInTurn replica (front ++ entry ∷ [])
in_turn_more replica front entry h follows = λ before x back e.
    elim (cut_last front before back entry x e) [
      | inl s ↦ subst (λ (ys : List Entry). FollowsEntries replica ys x) s.0 (subst (λ (y : Entry). FollowsEntries replica front y) s.1 follows)
      | inr s ↦ h before x s.0 s.1
    ]

-- ---- their operations are causal

-- an operation among those of entries is that of one of them
cut_ops : (entries : List Entry) (before : List Op) (op : Op) (after : List Op) → ops_of entries ≡ before ++ op ∷ after → (front : List Entry) × (back : List Entry) × (entries ≡ front ++ Apply op ∷ back) × (ops_of front ≡ before)
cut_ops [] [] op after e = absurd cc
cut_ops [] (x ∷ before) op after e = absurd cc
cut_ops (Begin replica ∷ entries) before op after e = let c = cut_ops entries before op after e in (Begin replica ∷ c.0, c.1, ap (λ (xs : List Entry). Begin replica ∷ xs) c.2, c.3)
cut_ops (Commit synced ∷ entries) before op after e = let c = cut_ops entries before op after e in (Commit synced ∷ c.0, c.1, ap (λ (xs : List Entry). Commit synced ∷ xs) c.2, c.3)
cut_ops (Apply first ∷ entries) [] op after e = let same : first ≡ op = cc in ([], entries, ap (λ (x : Op). Apply x ∷ entries) same, refl)
cut_ops (Apply first ∷ entries) (x ∷ before) op after e =
    let same : first ≡ x = cc in
    let rest : ops_of entries ≡ before ++ op ∷ after = cc in
    let c = cut_ops entries before op after rest in
    (Apply first ∷ c.0, c.1, ap (λ (xs : List Entry). Apply first ∷ xs) c.2, λ i. same i ∷ c.3 i)

pub causal_ops : (replica : ℕ) (entries : List Entry) → AreInTurn replica entries → IsCausal id_of clock_of (ops_of entries)
causal_ops replica entries h = λ before op after e.
    let c = cut_ops entries before op after e in
    subst (λ (os : List Op). IsRipe id_of clock_of os op) c.3 (h c.0 (Apply op) c.1 c.2).0

-- ---- the first entries of a list

take_next : (entries : List Entry) (i : ℕ) (entry : Entry) → i < length entries → entry ≡ get_or entries i entry → take (i + 1) entries ≡ take i entries ++ entry ∷ []
take_next entries i entry l is = take_more entries i entry l ∙ ap (λ (x : Entry). take i entries ++ x ∷ []) (sym is)

cut_at_place : (entries : List Entry) (i : ℕ) (entry : Entry) → i < length entries → entry ≡ get_or entries i entry → (back : List Entry) × (entries ≡ take i entries ++ entry ∷ back)
cut_at_place [] i entry l is = absurd (omega (arith, l))
cut_at_place (x ∷ entries) zero entry l is = (entries, ap (λ (y : Entry). y ∷ entries) (sym is))
cut_at_place (x ∷ entries) (suc i) entry l is = let r = cut_at_place entries i entry (omega (arith, l)) is in (r.0, ap (λ (ys : List Entry). x ∷ ys) r.1)

-- These entries were applied to the node of a replica.
pub record AreApplied (replica : ℕ) (front : List Entry) (node : NodeState) : Type 0 where
  pub in_turn : AreInTurn replica front
  pub is : node ≡ joined_node replica (ops_of front)

pub applied_none : (replica : ℕ) (node : NodeState) → node ≡ joined_node replica [] → AreApplied replica [] node
applied_none replica node e = record { in_turn = in_turn_none replica; is = e }

module _ (replica : ℕ) (entries : List Entry) (i : ℕ) (entry : Entry) (l : i < length entries) (at : entry ≡ get_or entries i entry) (old : NodeState) (s : AreApplied replica (take i entries) old) where
  pub applied_next : (new : NodeState) → FollowsEntries replica (take i entries) entry → new ≡ joined_node replica (ops_of (take i entries ++ entry ∷ [])) → AreApplied replica (take (i + 1) entries) new
  applied_next new follows e =
      let next = take_next entries i entry l at in
      record {
        in_turn = subst (AreInTurn replica) (sym next) (in_turn_more replica (take i entries) entry s.in_turn follows);
        is = e ∙ ap (λ (xs : List Entry). joined_node replica (ops_of xs)) (sym next);
      }

  pub stops_here : ¬ FollowsEntries replica (take i entries) entry → (front : List Entry) × StopsAfter replica entries front × (i ≡ length front)
  stops_here misplaced =
      let c = cut_at_place entries i entry l at in
      let n = length-take i entries in (
        take i entries,
        record { entry = entry; back = c.0; cut = c.1; in_turn = s.in_turn; misplaced = misplaced },
        omega (arith, n, l),
      )
