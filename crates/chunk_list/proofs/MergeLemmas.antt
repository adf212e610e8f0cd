-- A chunk that has taken over the items of the next one.
use Rattle.std.proofs.Common.{◌≡◌, ℕ, suc, ◌+◌, ◌<◌, ◌≤◌, List, [], ◌∷◌, ◌++◌, Global, Result, Ok, Err, IsOk, is_ok, if◌then◌else◌, length, get_or, take, drop, set, remove, vec_len, vec_capacity, ap, sym, subst, ◌∙◌, arith, length-append}
use Rattle.std.specs.Prelude.{Vec}
use Rattle.std.proofs.Math.Numerals.{add-one}
use Rattle.std.proofs.lemmas.List.{get_or_default}
use Rattle.std.proofs.lemmas.List.Edits.{get_or-remove_below}
use Rattle.chunk_list.specs.declared.chunks.Chunk.{Chunk}
use Rattle.chunk_list.specs.declared.chunks.TheConstants.{CHUNK}
use Rattle.chunk_list.specs.Chunks.{AreChunks, AreDense, FillOneChunk, items_of}
use Rattle.chunk_list.specs.Room.{IsSpare}
use Rattle.chunk_list.proofs.DensityLemmas.{dense_joined, dense_with_fewer_free}
use Rattle.chunk_list.proofs.EditLemmas.{both_chunks, both_items, set_removed}
use Rattle.chunk_list.proofs.FreePlaceLemmas.{free_below_chunk}
use Rattle.chunk_list.proofs.SplitLemmas.{chunk_is, chunks_before_place}

-- The result if nothing failed.
pub on_ok : {X U E : Type 0} (r : Result U E) (xs here there : List X) → IsOk r → xs ≡ (if is_ok r then here else there) → xs ≡ here
on_ok (Ok u) xs here there ok e = e
on_ok (Err f) xs here there ok e = absurd (cc ok)

pub record IsMerged {T U E : Type 0} (cs left : List (Chunk T)) (at : ℕ) (first second : Chunk T) (both rest : Vec T Global) (r : Result U E) : Type 0 where
  pub valid : AreChunks 0 cs
  pub inside : at + 1 < length cs
  pub gone : left ≡ remove cs (at + 1)
  pub here : first ≡ get_or left at first
  pub next : second ≡ get_or cs (at + 1) second
  pub full : FillOneChunk cs at
  pub succeeds : vec_len first.items + vec_len second.items ≤ vec_capacity first.items → IsOk r
  pub items : both.items ≡ (if is_ok r then first.items.items ++ second.items.items else first.items.items)
  pub room : vec_capacity first.items ≤ vec_capacity both
  pub none : rest.items ≡ (if is_ok r then [] else second.items.items)
  pub spare : vec_capacity rest ≡ vec_capacity second.items

module _ {T U E : Type 0} (cs left : List (Chunk T)) (at : ℕ) (first second : Chunk T) (both rest : Vec T Global) (r : Result U E) (m : IsMerged cs left at first second both rest r) where
  inside : suc at < length cs
  inside = omega (arith, m.inside)

  first_is : first ≡ get_or cs at first
  first_is = m.here ∙ ap (λ xs. get_or xs at first) m.gone ∙ get_or-remove_below cs (at + 1) first at (omega arith) m.inside

  second_is : second ≡ get_or cs (at + 1) first
  second_is = m.next ∙ get_or_default cs (at + 1) second first m.inside

  ok : IsOk r
  ok = m.succeeds (omega (arith, first.items.ok.0, second.items.ok.0, m.full.full first, ap (λ (c : Chunk T). length c.items.items) first_is, ap (λ (c : Chunk T). length c.items.items) second_is, ap (λ (c : Chunk T). vec_capacity c.items) first_is, (chunk_is cs at first (omega (arith, m.inside)) m.valid).room))

  whole : both.items ≡ (get_or cs at first).items.items ++ (get_or cs (suc at) first).items.items
  whole = on_ok r both.items _ _ ok m.items ∙ ap (λ (c : Chunk T). c.items.items ++ second.items.items) first_is ∙ ap (λ (c : Chunk T). (get_or cs at first).items.items ++ c.items.items) (second_is ∙ ap (λ k. get_or cs k first) (add-one at))

  list : set left at (record { start = first.start; items = both }) ≡ take at cs ++ record { start = first.start; items = both } ∷ drop (suc (suc at)) cs
  list = ap (λ xs. set xs at (record { start = first.start; items = both })) (m.gone ∙ ap (λ k. remove cs k) (add-one at)) ∙ set_removed cs at (record { start = first.start; items = both }) inside

  pub merged_items : items_of (set left at (record { start = first.start; items = both })) ≡ items_of cs
  merged_items = ap (λ xs. items_of xs) list ∙ both_items cs at first (record { start = first.start; items = both }) m.valid inside whole

  pub merged_chunks : AreChunks 0 (set left at (record { start = first.start; items = both }))
  merged_chunks =
      let many = subst (λ k. length (get_or cs at first).items.items + length (get_or cs k first).items.items ≤ CHUNK) (add-one at) (omega (arith, m.full.full first)) in
      let held : vec_capacity (get_or cs at first).items ≤ vec_capacity both = subst (λ (c : Chunk T). vec_capacity c.items ≤ vec_capacity both) first_is m.room in
      subst (AreChunks 0) (sym list) (both_chunks cs at first (record { start = first.start; items = both }) m.valid inside whole (ap (λ (c : Chunk T). c.start) first_is) held many)

  pub merged_dense : AreDense 0 (set left at (record { start = first.start; items = both }))
  merged_dense =
      let many : length both.items ≡ CHUNK = ap (λ xs. length xs) whole ∙ length-append (get_or cs at first).items.items (get_or cs (suc at) first).items.items ∙ ap (λ k. length (get_or cs at first).items.items + length (get_or cs k first).items.items) (sym (add-one at)) ∙ m.full.full first in
      let free = free_below_chunk 0 0 (take at cs) (omega arith) (chunks_before_place cs at (omega (arith, inside)) m.valid) in
      let far : at + 2 ≡ suc (suc at) = omega arith in
      subst (AreDense 0) (sym list) (dense_joined 0 (take at cs) (record { start = first.start; items = both } ∷ drop (suc (suc at)) cs) m.full.front (omega (arith, many, free), dense_with_fewer_free _ 0 (drop (suc (suc at)) cs) (omega (arith, many)) (subst (λ j. AreDense 0 (drop j cs)) far m.full.tail)))

  pub merged_spare : IsSpare rest
  merged_spare = record {
    none = on_ok r rest.items _ _ ok m.none;
    room = omega (arith, m.spare, ap (λ (c : Chunk T). vec_capacity c.items) second_is, (chunk_is cs (at + 1) first m.inside m.valid).room);
  }
