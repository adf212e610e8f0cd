use Rattle.std.proofs.Common.{◌≡◌, ℕ, suc, ◌+◌, ◌-◌, ◌<◌, ◌≤◌, List, [], ◌∷◌, ◌++◌, length, take, slice_index_or, ap, ◌∙◌, arith}
use Rattle.std.proofs.lemmas.List.{length-append, take_more}
use Rattle.std.proofs.lemmas.List.FromFn.{length-range_with_len}
use Rattle.std.proofs.lemmas.Grind.{flat_map-append}
use Rattle.imap_types.specs.Numbers.{AreRisingFrom, greatest, numbers_in, numbers_of}
use Rattle.imap_types.specs.declared.number_set.Run.{Run}

-- the greatest of ascending numbers from low is at least low plus their count, less 1
rising_from : (low n : ℕ) (ns : List ℕ) → AreRisingFrom low (n ∷ ns) → length (n ∷ ns) + low ≤ greatest (n ∷ ns) + 1
rising_from low n [] h = omega (arith, h.0)
rising_from low n (m ∷ ms) h = omega (arith, h.0, rising_from (n + 1) m ms h.1)

pub rising_fits : (ns : List ℕ) → AreRisingFrom 1 ns → length ns ≤ greatest ns
rising_fits [] h = omega arith
rising_fits (n ∷ ns) h = omega (arith, rising_from 1 n ns h)

-- the count of numbers in the first runs and one further run
pub count_through_next_run : (runs : List Run) (i : ℕ) (d : Run) → i < length runs → length (numbers_in (take (i + 1) runs)) ≡ length (numbers_in (take i runs)) + suc ((slice_index_or runs i d).last - (slice_index_or runs i d).first)
count_through_next_run runs i d l =
    let run = slice_index_or runs i d in
    let whole : take (i + 1) runs ≡ take i runs ++ run ∷ [] = take_more runs i d l in
    let size : length (numbers_of run) ≡ suc (run.last - run.first) = length-range_with_len run.first (suc (run.last - run.first)) in
    let last : length (numbers_of run ++ []) ≡ length (numbers_of run) + 0 = length-append (numbers_of run) [] in
    let both : length (numbers_of run ++ []) ≡ suc (run.last - run.first) = omega (arith, size, last) in
    ap (λ (rs : List Run). length (numbers_in rs)) whole
    ∙ ap length (flat_map-append numbers_of (take i runs) (run ∷ []))
    ∙ length-append (numbers_in (take i runs)) (numbers_of run ++ [])
    ∙ ap (λ k. length (numbers_in (take i runs)) + k) both
