-- Counts of what operations add.
use Rattle.std.proofs.Common.{Result, Ok, Err, OnOk, ◌≡◌, ℕ, zero, suc, ◌+◌, ◌≤◌, ◌<◌, arith, Bool, true, false, cond, Option, None, Some, List, [], ◌∷◌, ◌++◌, drop, get_or, length, refl, sym, ap, subst, ◌∙◌}
use Rattle.std.specs.Global.{Vec}
use Rattle.std.specs.Option.{unwrap_or}
use Rattle.std.specs.Vec.{vec_capacity}
use Rattle.std.proofs.lemmas.List.{append-nil, append_assoc, drop_all, drop_more}
use Rattle.tags_clocks.specs.declared.id.OpId.{OpId}
use Rattle.crdt_ops.specs.declared.op.Op.{Op}
use Rattle.crdt_ops.specs.SortedSets.{is_some_id}
use Rattle.imap_types.specs.declared.version.Version.{Version}
use Rattle.folder_state.specs.OpRoom.{HaveLists, is_named, origin_of_op, added_tag_count, target, added_version_count, counts_of}

pub on_ok_by : {A E : Type 0} {P Q : Type 0} (r : Result A E) → (P → Q) → OnOk r P → OnOk r Q
on_ok_by (Ok v) f h = f h
on_ok_by (Err e) f h = h

pub counted_more : (b : Bool) (count x : ℕ) → (b ≡ true → x ≡ count) → cond b (count + 1) x ≡ cond b 1 0 + x
counted_more true count x h = let e = h refl in omega (arith, e)
counted_more false count x h = omega arith

pub cond_counted : (b : Bool) (count : ℕ) (x : Option ℕ) → unwrap_or (cond b (Some count) x) 0 ≡ cond b count (unwrap_or x 0)
cond_counted true count x = refl
cond_counted false count x = refl

module _ (ops : List Op) (i : ℕ) (o : Op) (l : i < length ops) (e : o ≡ get_or ops i o) where
  here : drop i ops ≡ o ∷ drop (i + 1) ops
  here = drop_more ops i o l ∙ ap (λ x. x ∷ drop (i + 1) ops) (sym e)

  pub added_tag_count_step : (name : List ℕ) → added_tag_count (drop i ops) name ≡ cond (is_named name (target o.kind)) 1 0 + added_tag_count (drop (i + 1) ops) name
  added_tag_count_step name = ap (λ os. added_tag_count os name) here

  pub added_version_count_step : (origin : OpId) → added_version_count (drop i ops) origin ≡ cond (is_some_id origin (origin_of_op o.id o.kind)) 1 0 + added_version_count (drop (i + 1) ops) origin
  added_version_count_step origin = ap (λ os. added_version_count os origin) here

pub tags_done : (ops : List Op) (i n : ℕ) (name : List ℕ) → length ops ≤ i → n + added_tag_count (drop i ops) name ≡ added_tag_count ops name → n ≡ added_tag_count ops name
tags_done ops i n name l h = let none : added_tag_count (drop i ops) name ≡ 0 = ap (λ os. added_tag_count os name) (drop_all i ops l) in omega (arith, h, none)

pub versions_done : (ops : List Op) (i n : ℕ) (origin : OpId) → length ops ≤ i → n + added_version_count (drop i ops) origin ≡ added_version_count ops origin → n ≡ added_version_count ops origin
versions_done ops i n origin l h = let none : added_version_count (drop i ops) origin ≡ 0 = ap (λ os. added_version_count os origin) (drop_all i ops l) in omega (arith, h, none)

-- ---- a list for each operation

pub added_version_count_drop : (ops : List Op) (i : ℕ) (origin : OpId) → added_version_count (drop i ops) origin ≤ added_version_count ops origin
added_version_count_drop ops zero origin = omega arith
added_version_count_drop [] (suc i) origin = omega arith
added_version_count_drop (o ∷ ops) (suc i) origin = let rest = added_version_count_drop ops i origin in omega (arith, rest)

pub counts_mono : (low high : OpId → ℕ) → ((o : OpId) → low o ≤ high o) → (x : Option OpId) → counts_of low x ≤ counts_of high x
counts_mono low high h None = omega arith
counts_mono low high h (Some o) = h o

pub lists_one : (ops : List Op) (i : ℕ) (o : Op) (l : i < length ops) (e : o ≡ get_or ops i o) (lists new : List (Vec Version)) (list : Vec Version)
    → new ≡ lists ++ list ∷ [] → list.items ≡ [] → counts_of (added_version_count ops) (origin_of_op o.id o.kind) ≤ vec_capacity list
    → ((more : List (Vec Version)) → HaveLists (drop i ops) more → HaveLists ops (lists ++ more))
    → (more : List (Vec Version)) → HaveLists (drop (i + 1) ops) more → HaveLists ops (new ++ more)
lists_one ops i o l e lists new list n none room h more m =
    let cut = here ops i o l e in
    let less = subst (λ os. counts_of (added_version_count os) (origin_of_op o.id o.kind) ≤ counts_of (added_version_count ops) (origin_of_op o.id o.kind)) cut (counts_mono (added_version_count (drop i ops)) (added_version_count ops) (added_version_count_drop ops i) (origin_of_op o.id o.kind)) in
    subst (HaveLists ops) (sym (ap (λ ls. ls ++ more) n ∙ append_assoc lists (list ∷ []) more))
    (h (list ∷ more) (subst (λ os. HaveLists os (list ∷ more)) (sym cut) (none, omega (arith, less, room), m)))

pub lists_all : (ops : List Op) (i : ℕ) (lists : List (Vec Version)) → length ops ≤ i → ((more : List (Vec Version)) → HaveLists (drop i ops) more → HaveLists ops (lists ++ more)) → HaveLists ops lists
lists_all ops i lists l h = subst (HaveLists ops) (append-nil lists) (h [] (subst (λ os. HaveLists os []) (sym (drop_all i ops l)) tt))
