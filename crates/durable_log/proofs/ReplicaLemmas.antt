use Rattle.std.proofs.Common.{◌≡◌, inl, inr, ℕ, Bool, true, false, cond, eqb, List, [], ◌∷◌, ◌++◌, Option, Some, None, refl, sym, ◌∙◌}
use Rattle.std.proofs.lemmas.Bool.{cases_Bool}
use Rattle.crdt_ops.specs.declared.op.Op.{Op}
use Rattle.op_log.specs.declared.entry.Entry.{Entry}
use Rattle.op_log.specs.declared.entry.Entry.TheVariants.{Apply, Begin, Commit}
use Rattle.durable_log.specs.Logs.{batch_entries}
use Rattle.durable_log.specs.Replicas.{has_first_line, other_replica}

-- ---- one entry before others

pub other_replica_none : (replica : ℕ) (entry : Entry) (entries : List Entry) → other_replica replica (entry ∷ []) ≡ None → other_replica replica (entry ∷ entries) ≡ other_replica replica entries
other_replica_none replica (Begin name) entries h =
    elim (cases_Bool (eqb name replica)) [
      | inl t ↦ rw t refl
      | inr f ↦ absurd (let e : ◌≡◌ {A = Option ℕ} (Some name) None = sym (some_name f) ∙ h in cc)
    ]
  where
    some_name : eqb name replica ≡ false → other_replica replica (Begin name ∷ []) ≡ Some name
    some_name f = rw f refl
other_replica_none replica (Apply op) entries h = refl
other_replica_none replica (Commit synced) entries h = refl

pub other_replica_some : (replica name : ℕ) (entry : Entry) (entries : List Entry) → other_replica replica (entry ∷ []) ≡ Some name → other_replica replica (entry ∷ entries) ≡ Some name
other_replica_some replica name (Begin first) entries h =
    elim (cases_Bool (eqb first replica)) [
      | inl t ↦ absurd (let e : ◌≡◌ {A = Option ℕ} None (Some name) = sym (no_name t) ∙ h in cc)
      | inr f ↦ some_name f ∙ sym (one_name f) ∙ h
    ]
  where
    no_name : eqb first replica ≡ true → other_replica replica (Begin first ∷ []) ≡ None
    no_name t = rw t refl

    one_name : eqb first replica ≡ false → other_replica replica (Begin first ∷ []) ≡ Some first
    one_name f = rw f refl

    some_name : eqb first replica ≡ false → other_replica replica (Begin first ∷ entries) ≡ Some first
    some_name f = rw f refl
other_replica_some replica name (Apply op) entries h = absurd cc
other_replica_some replica name (Commit synced) entries h = absurd cc

-- ---- entries before others

pub other_replica_append : (replica : ℕ) (front back : List Entry) → other_replica replica front ≡ None → other_replica replica back ≡ None → other_replica replica (front ++ back) ≡ None
other_replica_append replica [] back h k = k
other_replica_append replica (Begin name ∷ front) back h k = by_name (eqb name replica) (other_replica replica front) (other_replica replica (front ++ back)) h (λ e. other_replica_append replica front back e k)
  where
    by_name : (b : Bool) (one two : Option ℕ) → cond b one (Some name) ≡ None → (one ≡ None → two ≡ None) → cond b two (Some name) ≡ None
    by_name true one two h f = f h
    by_name false one two h f = absurd cc
other_replica_append replica (Apply op ∷ front) back h k = other_replica_append replica front back h k
other_replica_append replica (Commit synced ∷ front) back h k = other_replica_append replica front back h k

pub other_replica_front : (replica : ℕ) (front back : List Entry) → other_replica replica (front ++ back) ≡ None → other_replica replica front ≡ None
other_replica_front replica [] back h = refl
other_replica_front replica (Begin name ∷ front) back h = by_name (eqb name replica) (other_replica replica (front ++ back)) (other_replica replica front) h (λ e. other_replica_front replica front back e)
  where
    by_name : (b : Bool) (one two : Option ℕ) → cond b one (Some name) ≡ None → (one ≡ None → two ≡ None) → cond b two (Some name) ≡ None
    by_name true one two h f = f h
    by_name false one two h f = absurd cc
other_replica_front replica (Apply op ∷ front) back h = other_replica_front replica front back h
other_replica_front replica (Commit synced ∷ front) back h = other_replica_front replica front back h

pub other_replica_batch : (replica : ℕ) (ops : List Op) (synced : ℕ) → other_replica replica (batch_entries ops synced) ≡ None
other_replica_batch replica [] synced = refl
other_replica_batch replica (op ∷ ops) synced = other_replica_batch replica ops synced

pub first_line_append : (front back : List Entry) → has_first_line front ≡ true → has_first_line (front ++ back) ≡ true
first_line_append [] back h = absurd cc
first_line_append (Begin name ∷ front) back h = refl
first_line_append (Apply op ∷ front) back h = absurd cc
first_line_append (Commit synced ∷ front) back h = absurd cc
