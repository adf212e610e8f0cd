use Rattle.std.proofs.Common.{◌≡◌, ℕ, zero, suc, ◌+◌, ◌-◌, ◌≤◌, ◌<◌, List, [], ◌∷◌, ◌++◌, length, drop, length-drop, drop_of_length-le, append_assoc, refl, sym, ap, ◌∙◌, arith}
use Rattle.std.specs.List.{slice_get}
use lib.Seq.{drop-append-add}
use Rattle.replica_lock.specs.JournalState.{entries_of}
use Rattle.replica_lock.specs.declared.book.JournalEntry.{JournalEntry}
use Rattle.replica_lock.specs.declared.journal.Block.{Block}

-- ---- the entry at a place of two lists

slice_get_left : (xs ys : List JournalEntry) (k : ℕ) → k < length xs → slice_get (xs ++ ys) k ≡ slice_get xs k
slice_get_left [] ys k l = absurd (omega (arith, l))
slice_get_left (x ∷ xs) ys zero l = refl
slice_get_left (x ∷ xs) ys (suc k) l = slice_get_left xs ys k (omega (arith, l))

slice_get_right : (xs ys : List JournalEntry) (k : ℕ) → length xs ≤ k → slice_get (xs ++ ys) k ≡ slice_get ys (k - length xs)
slice_get_right [] ys k l = ap (slice_get ys) (all k)
  where
    all : (k : ℕ) → k ≡ k - 0
    all k = omega arith
slice_get_right (x ∷ xs) ys zero l = absurd (omega (arith, l))
slice_get_right (x ∷ xs) ys (suc k) l = slice_get_right xs ys k (omega (arith, l)) ∙ ap (slice_get ys) (less k (length xs))
  where
    less : (k n : ℕ) → k - n ≡ suc k - suc n
    less k n = omega arith

-- an entry of the first block, and one after it
pub entry_in_block : (block : Block) (others : List Block) (newest : List JournalEntry) (k : ℕ) → k < length block.entries.items
    → slice_get (entries_of (block ∷ others) ++ newest) k ≡ slice_get block.entries.items k
entry_in_block block others newest k l =
    ap (λ (es : List JournalEntry). slice_get es k) (append_assoc block.entries.items (entries_of others) newest)
    ∙ slice_get_left block.entries.items (entries_of others ++ newest) k l

pub entry_after_block : (block : Block) (others : List Block) (newest : List JournalEntry) (k : ℕ) → length block.entries.items ≤ k
    → slice_get (entries_of (block ∷ others) ++ newest) k ≡ slice_get (entries_of others ++ newest) (k - length block.entries.items)
entry_after_block block others newest k l =
    ap (λ (es : List JournalEntry). slice_get es k) (append_assoc block.entries.items (entries_of others) newest)
    ∙ slice_get_right block.entries.items (entries_of others ++ newest) k l

-- ---- entries that are forgotten

-- the first block is among them
pub drop_block : (block : Block) (others : List Block) (newest : List JournalEntry) (n : ℕ) → length block.entries.items ≤ n
    → drop (n - length block.entries.items) (entries_of others ++ newest) ≡ drop n (entries_of (block ∷ others) ++ newest)
drop_block block others newest n l =
    let at : length block.entries.items + (n - length block.entries.items) ≡ n = omega (arith, l) in
    sym (drop-append-add block.entries.items (entries_of others ++ newest) (n - length block.entries.items))
    ∙ ap (λ (k : ℕ). drop k (block.entries.items ++ (entries_of others ++ newest))) at
    ∙ ap (λ (es : List JournalEntry). drop n es) (sym (append_assoc block.entries.items (entries_of others) newest))

-- no entry is left
pub drop_from_none : (es : List JournalEntry) (i n : ℕ) → drop i es ≡ [] → i ≤ n → [] ≡ drop n es
drop_from_none es i n e l =
    let short : length es - i ≡ 0 = sym (length-drop i es) ∙ ap length e in
    sym (drop_of_length-le es {i = n} (omega arith))
