use Rattle.std.proofs.Common.{◌≡◌, ◌⊎◌, inl, inr, ℕ, ◌+◌, ◌≤◌, List, [], ◌∷◌, ◌++◌, length, map, append_assoc, append-nil, arith, refl, sym, ap, ◌∙◌, subst}
use Rattle.std.proofs.Common.{max, if◌then◌else◌}
use Rattle.std.proofs.Math.Dec.{eqb}
use Rattle.std.proofs.lemmas.Bool.{cases_lt}
use Rattle.std.proofs.lemmas.Bool.Decides.{eqb_tells}
use Rattle.crdt_ops.specs.Sound.{AreCovered, CoversReferenced, IsSound}
use Rattle.crdt_ops.specs.declared.kind.Kind.{Kind}
use Rattle.crdt_ops.specs.declared.kind.Kind.TheVariants.{Append, Create, Delete, Expunge, Store, Subscribe, Unsubscribe}
use Rattle.crdt_ops.specs.declared.op.Op.{Op}
use Rattle.causal_inbox.specs.Inbox.{AreIssued, IsClockOf}
use Rattle.merge_laws.specs.Orders.{AreSound, IsCausal, IsIn, IsRipe}
use Rattle.merge_laws.proofs.Causal.{causal_append}
use Rattle.merge_laws.proofs.Lists.{id_in_front}
use Rattle.causal_inbox.proofs.Clocks.{clock_step}
use Rattle.tags_clocks.specs.Clock.{IsCause, IsRaised, count_of}
use Rattle.tags_clocks.specs.declared.id.OpId.{OpId}
use Rattle.imap_node.specs.Operations.{AreNext, CanIssue, CanIssueAll, CanIssueBy, IsNext}
use Rattle.uid_projection.specs.Applied.{IsApplied}
use Rattle.crdt_ops.specs.Ops.{clock_of, id_of}

-- an operation that comes next is ripe
pub next_ripe : (replica : ℕ) (applied : List Op) (op : Op) → IsNext replica applied op → IsRipe id_of clock_of applied op
next_ripe replica applied op n = (
  λ i cause. (n.clock i).0 cause,
  λ has.
      let cause = (n.clock op.id).1 has in
      let bound : op.id.number ≤ count_of op.clock replica = subst (λ (r : ℕ). op.id.number ≤ count_of op.clock r) n.own cause.1 in
      absurd (omega (arith, bound, n.number)),
)

-- operations that come next are issued, in the inbox's terms
pub next_issued : (replica : ℕ) (applied : List Op) (kinds : List Kind) (ops : List Op) → AreNext replica applied kinds ops → AreIssued id_of clock_of applied ops
next_issued replica applied kinds ops h = λ front o back e.
    let n = h.next front o back e in
    (n.clock, ap (λ (r : ℕ). count_of o.clock r + 1) n.own ∙ sym n.number)

-- the applied operations, followed by those that come next, are causal
pub next_causal : (replica : ℕ) (applied : List Op) (kinds : List Kind) (ops : List Op) → IsCausal id_of clock_of applied → AreNext replica applied kinds ops
    → IsCausal id_of clock_of (applied ++ ops)
next_causal replica applied kinds ops causal h = causal_append id_of clock_of applied ops causal (λ front o back e. next_ripe replica (applied ++ front) o (h.next front o back e))

in_both : (xs ys : List Op) (o : Op) → IsIn o (xs ++ ys) → IsIn o xs ⊎ IsIn o ys
in_both [] ys o i = inr i
in_both (x ∷ xs) ys o i = elim i [ inl e ↦ inl (inl e) | inr t ↦ elim (in_both xs ys o t) [ inl u ↦ inl (inr u) | inr u ↦ inr u ] ]

-- the applied operations, followed by those that come next, are an applied list
pub next_applied : (replica : ℕ) (applied : List Op) (kinds : List Kind) (ops : List Op) → AreSound IsSound applied → IsCausal id_of clock_of applied
    → AreSound IsSound ops → AreNext replica applied kinds ops → IsApplied (applied ++ ops)
next_applied replica applied kinds ops sound causal more h = record {
  sound = λ o i. elim (in_both applied ops o i) [ inl t ↦ sound o t | inr t ↦ more o t ];
  causal = next_causal replica applied kinds ops causal h;
}

-- ---- one further operation

-- a cut of a list with an element appended is at that element, or before it
pub last_cut : (xs front back : List Op) (x o : Op) → xs ++ x ∷ [] ≡ front ++ o ∷ back → ((xs ≡ front) × (x ≡ o)) ⊎ ((rest : List Op) × (xs ≡ front ++ o ∷ rest))
last_cut [] [] back x o e = inl (refl, cc)
last_cut [] (y ∷ []) back x o e = absurd cc
last_cut [] (y ∷ z ∷ front) back x o e = absurd cc
last_cut (y ∷ xs) [] back x o e = let k : y ≡ o = cc in inr (xs, (λ i. k i ∷ xs))
last_cut (y ∷ xs) (z ∷ front) back x o e =
    let r : xs ++ x ∷ [] ≡ front ++ o ∷ back = cc in
    let k : y ≡ z = cc in
    elim (last_cut xs front back x o r) [
      | inl t ↦ inl ((λ i. k i ∷ t.0 i), t.1)
      | inr t ↦ inr (t.0, (λ i. k i ∷ t.1 i))
    ]

-- operations that come next, followed by one that comes next after them
pub next_append : (replica : ℕ) (applied ops : List Op) (op : Op)
    → ((front : List Op) (o : Op) (back : List Op) → ops ≡ front ++ o ∷ back → IsNext replica (applied ++ front) o)
    → IsNext replica (applied ++ ops) op
    → (front : List Op) (o : Op) (back : List Op) → ops ++ op ∷ [] ≡ front ++ o ∷ back → IsNext replica (applied ++ front) o
next_append replica applied ops op h n front o back e =
    elim (last_cut ops front back op o e) [
      | inl t ↦ subst (λ (p : Op). IsNext replica (applied ++ front) p) t.1 (subst (λ (xs : List Op). IsNext replica (applied ++ xs) op) t.0 n)
      | inr t ↦ h front o t.0 t.1
    ]

are_covered_weaker : (clock more : List (ℕ × ℕ)) (ids : List OpId) → ((i : OpId) → IsCause clock i → IsCause more i) → AreCovered clock ids → AreCovered more ids
are_covered_weaker clock more [] w h = tt
are_covered_weaker clock more (i ∷ ids) w h = (w i h.0, are_covered_weaker clock more ids w h.1)

-- a clock that counts more covers more
pub covers_referenced_weaker : (clock more : List (ℕ × ℕ)) (kind : Kind) → ((i : OpId) → IsCause clock i → IsCause more i) → CoversReferenced clock kind → CoversReferenced more kind
covers_referenced_weaker clock more (Create folder) w h = tt
covers_referenced_weaker clock more (Delete folder seen) w h = are_covered_weaker clock more seen w h
covers_referenced_weaker clock more (Append folder flags date text) w h = tt
covers_referenced_weaker clock more (Expunge folder old_ids) w h = are_covered_weaker clock more old_ids w h
covers_referenced_weaker clock more (Store folder flags old_ids origin) w h = (are_covered_weaker clock more old_ids w h.0, w origin h.1)
covers_referenced_weaker clock more (Subscribe name) w h = tt
covers_referenced_weaker clock more (Unsubscribe name seen) w h = are_covered_weaker clock more seen w h

-- an operation that may be issued after a list may be issued after a longer one
pub can_issue_by_clock : (applied more : List Op) (kind : Kind) (before after : List (ℕ × ℕ)) → CanIssue applied kind → IsClockOf id_of applied before → IsClockOf id_of (applied ++ more) after
    → CanIssueBy after kind
can_issue_by_clock applied more kind before after can b a = record {
  lawful = can.lawful;
  covered = covers_referenced_weaker before after kind (λ i c. (a i).1 (id_in_front id_of i applied more ((b i).0 c))) (can.covered before b);
}

-- two clocks of one list have the same counts
pub counts_within : (ops : List Op) (c d : List (ℕ × ℕ)) → IsClockOf id_of ops c → IsClockOf id_of ops d → (r : ℕ) → count_of c r ≤ count_of d r
counts_within ops c d hc hd r =
    elim (cases_lt 0 (count_of c r)) [
      | inl l ↦
          let i : OpId = record { replica = r; number = count_of c r } in
          let least : count_of c r ≤ count_of c r = omega arith in
          ((hd i).1 ((hc i).0 (l, least))).1
      | inr z ↦ omega arith
    ]

-- ---- operations that are made one after another

-- Operations of these kinds, which come next one after another; the kinds in `rest` are left, and
-- the clock counts what was applied and these operations.
pub record IsMade (replica : ℕ) (applied : List Op) (given rest : List Kind) (ops : List Op) (clock : List (ℕ × ℕ)) : Type 0 where
  pub split : map (λ (o : Op). o.kind) ops ++ rest ≡ given
  pub next : (front : List Op) (op : Op) (back : List Op) → ops ≡ front ++ op ∷ back → IsNext replica (applied ++ front) op
  pub sound : AreSound IsSound ops
  pub counts : IsClockOf id_of (applied ++ ops) clock
  pub fits_numbers : count_of clock replica + length rest ≤ 4294967295

pub no_cut : (front : List Op) (op : Op) (back : List Op) → [] ≡ front ++ op ∷ back → ⊥
no_cut [] op back e = absurd cc
no_cut (o ∷ front) op back e = absurd cc

pub made_none : (replica : ℕ) (applied : List Op) (given rest : List Kind) (ops : List Op) (clock now : List (ℕ × ℕ)) → rest ≡ given → ops ≡ [] → clock ≡ now
    → IsClockOf id_of applied now → count_of now replica + length given ≤ 4294967295 → IsMade replica applied given rest ops clock
made_none replica applied given rest ops clock now r o k counts fits_numbers =
    subst (λ (xs : List Kind). IsMade replica applied given xs ops clock) (sym r)
    (subst (λ (os : List Op). IsMade replica applied given given os clock) (sym o)
    (subst (IsMade replica applied given given []) (sym k)
    (record {
      split = refl;
      next = λ front op back e. absurd (no_cut front op back e);
      sound = λ op i. absurd i;
      counts = subst (λ (os : List Op). IsClockOf id_of os now) (sym (append-nil applied)) counts;
      fits_numbers = fits_numbers;
    })))

kinds_append : (ops : List Op) (op : Op) (rest : List Kind) → map (λ (o : Op). o.kind) (ops ++ op ∷ []) ++ rest ≡ map (λ (o : Op). o.kind) ops ++ op.kind ∷ rest
kinds_append [] op rest = refl
kinds_append (o ∷ ops) op rest = ap (λ (ks : List Kind). o.kind ∷ ks) (kinds_append ops op rest)

raised_own : (old : List (ℕ × ℕ)) (replica number : ℕ) (new : List (ℕ × ℕ)) → IsRaised old replica number new → count_of new replica ≡ max (count_of old replica) number
raised_own old replica number new h =
    let at : count_of new replica ≡ (if eqb replica replica then max (count_of old replica) number else count_of old replica) = h replica in
    elim (eqb_tells replica replica) [
      | inl t ↦ rw t.0 at at
      | inr f ↦ absurd (f.1 refl)
    ]

pub made_append : (replica : ℕ) (applied : List Op) (given : List Kind) (kind : Kind) (rest : List Kind) (ops : List Op) (clock : List (ℕ × ℕ)) (op : Op) (new : List (ℕ × ℕ))
    → IsMade replica applied given (kind ∷ rest) ops clock → op.kind ≡ kind → op.clock ≡ clock → op.id.replica ≡ replica → op.id.number ≡ count_of clock replica + 1 → IsSound op
    → IsRaised clock replica op.id.number new → IsMade replica applied given rest (ops ++ op ∷ []) new
made_append replica applied given kind rest ops clock op new h k c r n sound raised =
    let is_next : IsNext replica (applied ++ ops) op = record {
      own = r;
      clock = subst (IsClockOf id_of (applied ++ ops)) (sym c) h.counts;
      number = n ∙ ap (λ (x : List (ℕ × ℕ)). count_of x replica + 1) (sym c);
    } in
    let own : count_of op.clock op.id.replica + 1 ≡ op.id.number = ap (λ (x : ℕ). count_of op.clock x + 1) r ∙ sym is_next.number in
    let here : IsRaised clock op.id.replica op.id.number new = subst (λ (x : ℕ). IsRaised clock x op.id.number new) (sym r) raised in
    let now : count_of new replica ≡ max (count_of clock replica) op.id.number = raised_own clock replica op.id.number new raised in
    let left : count_of clock replica + length (kind ∷ rest) ≤ 4294967295 = h.fits_numbers in
    record {
      split = kinds_append ops op rest ∙ ap (λ (x : Kind). map (λ (o : Op). o.kind) ops ++ x ∷ rest) k ∙ h.split;
      next = next_append replica applied ops op h.next is_next;
      sound = λ o i. elim (in_both ops (op ∷ []) o i) [ inl t ↦ h.sound o t | inr t ↦ elim t [ inl e ↦ subst IsSound e sound | inr f ↦ absurd f ] ];
      counts = subst (λ (os : List Op). IsClockOf id_of os new) (append_assoc applied ops (op ∷ []))
          (clock_step id_of clock_of (applied ++ ops) clock new op h.counts (next_ripe replica (applied ++ ops) op is_next) own here);
      fits_numbers = omega (arith, now, left, n);
    }

kind_among : (xs : List Kind) (kind : Kind) (rest : List Kind) → IsIn kind (xs ++ kind ∷ rest)
kind_among [] kind rest = inl refl
kind_among (x ∷ xs) kind rest = inr (kind_among xs kind rest)

pub made_can : (replica : ℕ) (applied : List Op) (given : List Kind) (kind : Kind) (rest : List Kind) (ops : List Op) (clock before : List (ℕ × ℕ))
    → IsMade replica applied given (kind ∷ rest) ops clock → CanIssueAll applied given → IsClockOf id_of applied before → CanIssueBy clock kind
made_can replica applied given kind rest ops clock before h can counts =
    can_issue_by_clock applied ops kind before clock (can kind (subst (IsIn kind) h.split (kind_among (map (λ (o : Op). o.kind) ops) kind rest))) counts h.counts

pub made_all : (replica : ℕ) (applied : List Op) (given : List Kind) (ops : List Op) (clock : List (ℕ × ℕ)) → IsMade replica applied given [] ops clock → AreNext replica applied given ops
made_all replica applied given ops clock h = record { of_kinds = sym (append-nil (map (λ (o : Op). o.kind) ops)) ∙ h.split; next = h.next }
