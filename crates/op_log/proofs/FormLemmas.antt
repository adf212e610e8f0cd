use Rattle.std.proofs.Common.{◌≡◌, ℕ, ◌+◌, ◌≤◌, ◌==◌, Bool, true, false, not, ltb, ◌&&◌, List, [], ◌∷◌, length, refl}
use Rattle.std.proofs.lemmas.Bool.{and_from, and_parts, false≢true}
use Rattle.std.specs.List.{list_all}
use Rattle.imap_types.specs.Keywords.{is_atom_octet, is_lawful_keyword}
use Rattle.tags_clocks.specs.Clock.{IsAscendingFrom}
use Rattle.crdt_ops.specs.Form.{Each, IsEntry, IsReplica, is_word}

-- entries of a clock count from 1
pub entries_count : (low : ℕ) (clock : List (ℕ × ℕ)) → IsAscendingFrom low clock → Each (λ (entry : ℕ × ℕ). IsReplica entry.0 × (entry.1 ≤ 4294967295)) clock → Each IsEntry clock
entries_count low [] a h = tt
entries_count low (e ∷ es) a h = ((h.0.0, (a.1, h.0.1)), entries_count (e.0 + 1) es a.2 h.1)

without_middle : (a b c : Bool) → (a && b && c) ≡ true → (a && c) ≡ true
without_middle true true c h = h
without_middle true false c h = absurd (false≢true h)
without_middle false b c h = absurd (false≢true h)

-- lawful keywords are words
pub words_lawful : (words : List (List ℕ)) → list_all is_lawful_keyword words ≡ true → list_all is_word words ≡ true
words_lawful [] h = refl
words_lawful (word ∷ words) h =
    let p = and_parts (is_lawful_keyword word) (list_all is_lawful_keyword words) h in
    and_from (is_word word) (list_all is_word words) (without_middle (not (length word == 0)) (not (ltb 64 (length word))) (list_all is_atom_octet word) p.0) (words_lawful words p.1)
