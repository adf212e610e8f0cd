use Rattle.std.proofs.Common.{◌≡◌, ◌↔◌, inl, inr, ℕ, zero, suc, ◌+◌, ◌<◌, ◌⊎◌, List, [], ◌∷◌, ◌++◌, length, get_or, take, Result, Ok, Err, IfOk, sym, ap, ◌∙◌, subst, codes, arith}
use Rattle.std.proofs.lemmas.Cmp.{tied_itself}
use Rattle.std.proofs.lemmas.List.{take_more}
use Rattle.std.specs.List.{flat_map}
use Rattle.std.specs.declared.cmp.Ordering.TheVariants.{Less, Equal}
use Rattle.causal_inbox.specs.Inbox.{IsClockOf, IsReceived, ReceivedOps}
use Rattle.crdt_ops.proofs.OrderLemmas.{id_order_total}
use Rattle.crdt_ops.specs.declared.op.Op.{Op}
use Rattle.crdt_ops.specs.Meanings.{MeansTheSame}
use Rattle.crdt_ops.specs.SortedSets.{id_order}
use Rattle.crdt_ops.specs.Sound.{IsSound}
use Rattle.crdt_ops.specs.Text.{ids_text, name_text}
use Rattle.folder_state.specs.Contents.{Contents, IsMadeBy, effect_of, no_contents}
use Rattle.merge_laws.proofs.Lists.{element_of_id, id_in_front, id_of_element, in_parts, split_at}
use Rattle.merge_laws.proofs.Pairs.{fold_pair}
use Rattle.merge_laws.specs.Orders.{AreSound, HasId, HaveSameElements, IdsDetermine, IsCausal, IsIn, fold_of}
use Rattle.subs_state.specs.Subscriptions.{Subscriptions, IsMadeBy as AreMadeBy, effect_of as subscribed_by, no_subscriptions}
use Rattle.tags_clocks.specs.Clock.{IsCause}
use Rattle.tags_clocks.specs.declared.id.OpId.{OpId}
use Rattle.mail_audit.specs.DumpLines.{HasReceivedOnly, IsExpected, IsExpectedOf, IsAboveLast}
use Rattle.crdt_ops.specs.DumpLines.{message_line, state_text}
use Rattle.mail_audit.specs.Dumps.{AreOrdered, HasCauses}
use Rattle.mail_audit.specs.declared.expected_lines.Expected.{Expected}
use Rattle.mail_audit.specs.declared.expected_lines.Expected.TheVariants.{Lines, WrongOp}

abbrev pub id_of : Op → OpId
id_of op = op.id

abbrev pub clock_of : Op → List (ℕ × ℕ)
clock_of op = op.clock

-- ---- ascending operations

-- ascending operations still ascend with one more that is above the last
pub ordered_append : (ops : List Op) (op : Op) → IsAboveLast ops op.id → AreOrdered ops → AreOrdered (ops ++ op ∷ [])
ordered_append [] op s a = (tt, tt)
ordered_append (x ∷ []) op s a = (s, (tt, tt))
ordered_append (x ∷ y ∷ ops) op s a = (a.0, ordered_append (y ∷ ops) op s a.1)

-- an id is above that of the last operation exactly when `IsAboveLast` says so
pub above_last : (ops : List Op) (id : OpId) (op : Op) (n : ℕ) → length ops ≡ n + 1 → op ≡ get_or ops n op → (id_order op.id id ≡ Less) ↔ IsAboveLast ops id
above_last [] id op n l e = absurd (omega (arith, l))
above_last (x ∷ []) id op zero l e = (λ t. subst (λ (o : Op). id_order o.id id ≡ Less) e t, λ t. subst (λ (o : Op). id_order o.id id ≡ Less) (sym e) t)
above_last (x ∷ []) id op (suc n) l e = absurd (omega (arith, l))
above_last (x ∷ y ∷ ops) id op zero l e = absurd (omega (arith, l))
above_last (x ∷ y ∷ ops) id op (suc n) l e = above_last (y ∷ ops) id op n (omega (arith, l)) e

-- the first operation is below all others
first_before : (x o : Op) (ops : List Op) → AreOrdered (x ∷ ops) → IsIn o ops → id_order x.id o.id ≡ Less
first_before x o [] a h = absurd h
first_before x o (y ∷ ops) a h =
    elim h [
      | inl e ↦ subst (λ (p : Op). id_order x.id p.id ≡ Less) e a.0
      | inr t ↦ id_order_total.trans x.id y.id o.id a.0 (first_before y o ops a.1 t)
    ]

not_before_itself : (i j : OpId) → id_order i j ≡ Less → i ≡ j → ⊥
not_before_itself i j e s =
    let l : id_order i i ≡ Less = subst (λ (k : OpId). id_order i k ≡ Less) (sym s) e in
    let k : Less ≡ Equal = sym l ∙ tied_itself id_order_total i in
    cc

pub ordered_determine : (ops : List Op) → AreOrdered ops → IdsDetermine id_of ops
ordered_determine [] a o p h k s = absurd h
ordered_determine (x ∷ ops) a o p h k s =
    elim h [
      | inl e ↦ elim k [
        | inl f ↦ sym e ∙ f
        | inr u ↦ absurd (not_before_itself x.id p.id (first_before x p ops a u) (ap id_of e ∙ s))
      ]
      | inr t ↦ elim k [
        | inl f ↦ absurd (not_before_itself x.id o.id (first_before x o ops a t) (ap id_of f ∙ sym s))
        | inr u ↦ ordered_determine ops a.1 o p t u s
      ]
    ]

-- what holds of the first `i` and of the next holds of the first `i + 1`
pub all_take_next : {X : Type 0} (P : X → Type 0) (xs : List X) (i : ℕ) (x : X) → i < length xs → x ≡ get_or xs i x → ((y : X) → IsIn y (take i xs) → P y) → P x → (y : X) → IsIn y (take (i + 1) xs) → P y
all_take_next P xs i x l is before here y h =
    let next : take (i + 1) xs ≡ take i xs ++ x ∷ [] = take_more xs i x l ∙ ap (λ z. take i xs ++ z ∷ []) (sym is) in
    elim (in_parts y (take i xs) (x ∷ []) (subst (IsIn y) next h)) [
      | inl t ↦ before y t
      | inr t ↦ elim t [ inl k ↦ subst P k here | inr n ↦ absurd n ]
    ]

in_at : {X : Type 0} (xs : List X) (i : ℕ) (x : X) → i < length xs → x ≡ get_or xs i x → IsIn x xs
in_at [] i x l e = absurd (omega (arith, l))
in_at (y ∷ xs) zero x l e = inl (sym e)
in_at (y ∷ xs) (suc i) x l e = inr (in_at xs i x (omega (arith, l)) e)

-- an inbox that has received only these operations still has after receiving one of them
pub received_only_grown : {S : Type 0} (ops : List Op) (old new : ReceivedOps S Op) (op : Op) (i : ℕ) → i < length ops → op ≡ get_or ops i op → HasReceivedOnly ops old → ((o : Op) → IsReceived new o → IsReceived old o ⊎ (o ≡ op)) → HasReceivedOnly ops new
received_only_grown ops old new op i l is h grown o r =
    elim (grown o r) [
      | inl t ↦ h o t
      | inr e ↦ subst (λ (p : Op). IsIn p ops) (sym e) (in_at ops i op l is)
    ]

-- the contents and the subscriptions after the applied operations
pub made_both : (contents : Contents) (subscriptions : Subscriptions) (applied : List Op) → ◌≡◌ {A = Contents × Subscriptions} (contents, subscriptions) (fold_of {V = Contents × Subscriptions} (λ v o. (effect_of v.0 o, subscribed_by v.1 o)) (no_contents, no_subscriptions) applied) → AreSound IsSound applied → IsCausal id_of clock_of applied → IsMadeBy contents applied × AreMadeBy subscriptions applied
made_both contents subscriptions applied e sound causal =
    let both = e ∙ fold_pair effect_of subscribed_by no_contents no_subscriptions applied in (
      record { sound = sound; causal = causal; made = ap (λ (v : Contents × Subscriptions). v.0) both },
      record { sound = sound; causal = causal; made = ap (λ (v : Contents × Subscriptions). v.1) both },
    )

-- ---- the meaning of a set

same_state : (xs ys : List Op) → MeansTheSame xs ys → state_text xs ≡ state_text ys
same_state xs ys m = λ i.
    flat_map (λ (folder : List ℕ). (codes "folder " ++ (name_text folder ++ 32 ∷ (ids_text (m.folder_tags folder i) ++ 10 ∷ []))) ++ flat_map message_line (m.messages folder i)) (m.folders i)
    ++ flat_map (λ (name : List ℕ). codes "subscribed " ++ (name_text name ++ 32 ∷ (ids_text (m.subscription_tags name i) ++ 10 ∷ []))) (m.subscribed i)

-- exactly the operations of the list were applied
all_applied : {S : Type 0} (ops : List Op) (received : ReceivedOps S Op) (clock : List (ℕ × ℕ)) → AreOrdered ops → HasReceivedOnly ops received → IsClockOf id_of received.applied clock → ((o : Op) → IsIn o ops → IsCause clock o.id) → HaveSameElements ops received.applied
all_applied ops received clock a only counts all o = (
  λ h.
      let element = element_of_id id_of o.id received.applied ((counts o.id).0 (all o h)) in
      subst (λ (p : Op). IsIn p received.applied) (ordered_determine ops a element.0 o (only element.0 (inl element.1)) h element.2) element.1,
  λ h. only o (inl h),
)

-- an applied operation's causes were applied
has_causes : (ops applied : List Op) → HaveSameElements ops applied → IsCausal id_of clock_of applied → HasCauses ops
has_causes ops applied same causal op h cause c =
    let s = split_at op applied ((same op).0 h) in
    let ripe = causal s.0 op s.1 s.2 in
    let has_id : HasId id_of applied cause = subst (λ (os : List Op). HasId id_of os cause) (sym s.2) (id_in_front id_of cause s.0 (op ∷ s.1) (ripe.0 cause c)) in
    let element = element_of_id id_of cause applied has_id in
    subst (HasId id_of ops) element.2 (id_of_element id_of element.0 ops ((same element.0).1 element.1))

-- if all were applied, the lines that must follow are those that the set defines
pub expected_of : {S : Type 0} (one_set : (xs ys : List Op) → HaveSameElements xs ys → IdsDetermine id_of xs → MeansTheSame xs ys) {E : Type 0} (ops : List Op) (received : ReceivedOps S Op) (clock : List (ℕ × ℕ)) (result : Result Expected E) → AreOrdered ops → HasReceivedOnly ops received → IsClockOf id_of received.applied clock → ((o : Op) → IsIn o ops → IsCause clock o.id) → IfOk result (IsExpectedOf received.applied) → IfOk result (IsExpected ops)
expected_of one_set ops received clock (Err e) a only counts all h = tt
expected_of one_set ops received clock (Ok (WrongOp place)) a only counts all h = absurd h
expected_of one_set ops received clock (Ok (Lines lines)) a only counts all h =
    let same = all_applied ops received clock a only counts all in (
      has_causes ops received.applied same h.1,
      λ o k. h.0 o ((same o).0 k),
      h.2 ∙ ap (λ (t : List ℕ). t ++ (codes "end" ++ 10 ∷ [])) (sym (same_state ops received.applied (one_set ops received.applied same (ordered_determine ops a)))),
    )
