-- References to the items of a chunk.
use Rattle.std.proofs.Common.{◌≡◌, ℕ, ◌+◌, ◌-◌, ◌<◌, ◌≤◌, List, Option, Some, None, IfSome, length, get_or, slice_get, subst, ◌∙◌, arith, Bor}
use Rattle.std.proofs.lemmas.List.{get_or_default}
use Rattle.std.specs.Slice.{IsItemAt}
use Rattle.chunk_list.specs.declared.chunks.Chunk.{Chunk}
use Rattle.chunk_list.specs.Chunks.{AreChunks, IsInChunk, items_of}
use Rattle.chunk_list.proofs.EditLemmas.{get_or_in}
use Rattle.chunk_list.proofs.PlaceLemmas.{slice_get_some}
use Rattle.chunk_list.proofs.SplitLemmas.{chunk_end}

-- The item to which a chunk gives a reference is the one of the list.
module _ {T : Type 0} (cs : List (Chunk T)) (at index : ℕ) (k : Chunk T) (h : AreChunks 0 cs) (inside : at < length cs) (is : k ≡ get_or cs at k) (start : k.start ≤ index) where
  same : (d : Chunk T) → k ≡ get_or cs at d
  same d = is ∙ get_or_default cs at k d inside

  in_chunk : index - k.start < length k.items.items → IsInChunk cs index at
  in_chunk end = record {
    within = inside;
    start = λ d. subst (λ c. c.start ≤ index) (same d) start;
    end = λ d. subst (λ c. index < c.start + length c.items.items) (same d) (omega (arith, start, end));
  }

  lent_item : (x : T) → index - k.start < length k.items.items → x ≡ get_or k.items.items (index - k.start) x → Some x ≡ slice_get (items_of cs) index
  lent_item x end e = slice_get_some (items_of cs) index x (omega (arith, chunk_end cs at k h inside is, start, end)) (get_or_in cs index at k h (in_chunk end) x (subst (λ c. x ≡ get_or c.items.items (index - c.start) x) is e))

  pub lent_result : (xs : List T) (r : Option (Bor T)) → xs ≡ k.items.items → IsItemAt xs (index - k.start) r → IfSome r (λ x. Some x.now ≡ slice_get (items_of cs) index)
  lent_result xs None e is_item = tt
  lent_result xs (Some x) e is_item = lent_item x.now (subst (λ ys. index - k.start < length ys) e is_item.3.0) (subst (λ ys. x.now ≡ get_or ys (index - k.start) x.now) e is_item.1)
