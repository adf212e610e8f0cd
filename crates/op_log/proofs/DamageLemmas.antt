use Rattle.std.proofs.Common.{◌≡◌, ◌≢◌, inl, inr, ℕ, ◌<◌, ◌≤◌, Bool, true, false, ◌||◌, eqb, List, [], ◌∷◌, ◌++◌, Option, Some, None, take, drop, refl, sym, ap, ◌∙◌, subst, arith, append_assoc, codes}
use Rattle.std.proofs.lemmas.Bool.{cases_Bool, false_from_ne_true, lt-ltb, or_right}
use Rattle.std.proofs.lemmas.List.{take-append-drop}
use Rattle.std.proofs.lemmas.Slice.Eq.{bytes_eq-Decides}
use Rattle.std.specs.List.{onto_first}
use Rattle.std.specs.Str.{bytes_eq}
use Rattle.crdt_ops.specs.Reading.{cut_at, parts_at}
use Rattle.crdt_ops.proofs.PartLemmas.{first_part, parts_last, parts_of_cut, some_part}
use Rattle.text_fields.proofs.FieldLemmas.{bound, number_complete}
use Rattle.text_fields.specs.FieldReading.{◌>>=◌, number_at}
use Rattle.op_log.specs.Damage.{line_synced, commit_synced, has_commit_beyond}
use Rattle.op_log.specs.Formats.{is_above}
use Rattle.op_log.specs.Entries.{entry_text}
use Rattle.op_log.specs.Lines.{line_of, checksum_field, line_text}
use Rattle.op_log.specs.declared.entry.Entry.TheVariants.{Commit}
use Rattle.op_log.proofs.EntryLemmas.{entry_is_text}
use Rattle.op_log.proofs.LineLemmas.{checked_is_text, line_text_of_line}

-- ---- the loop

beyond_parts : (octets : ℕ) (line : List ℕ) (parts : List (List ℕ)) → (parts ≡ [] → ⊥) → has_commit_beyond octets (line ∷ parts) ≡ (is_above octets (line_synced line) || has_commit_beyond octets parts)
beyond_parts octets line [] some = absurd (some refl)
beyond_parts octets line (next ∷ parts) some = refl

pub beyond_cut : (octets : ℕ) (rest line next : List ℕ) → cut_at 10 rest ≡ Some (line, next) → has_commit_beyond octets (parts_at 10 rest) ≡ (is_above octets (line_synced line) || has_commit_beyond octets (parts_at 10 next))
beyond_cut octets rest line next h = ap (has_commit_beyond octets) (parts_of_cut 10 rest line next h) ∙ beyond_parts octets line (parts_at 10 next) (some_part 10 next)

pub beyond_uncut : (octets : ℕ) (rest : List ℕ) → cut_at 10 rest ≡ None → has_commit_beyond octets (parts_at 10 rest) ≡ false
beyond_uncut octets rest h = ap (has_commit_beyond octets) (parts_last 10 rest h)

pub beyond_cut_false : (octets : ℕ) (rest line next : List ℕ) → cut_at 10 rest ≡ Some (line, next) → is_above octets (line_synced line) ≡ false → has_commit_beyond octets (parts_at 10 next) ≡ has_commit_beyond octets (parts_at 10 rest)
beyond_cut_false octets rest line next h f = sym (beyond_cut octets rest line next h ∙ ap (λ (b : Bool). b || has_commit_beyond octets (parts_at 10 next)) f)

pub beyond_cut_true : (octets : ℕ) (rest line next : List ℕ) → cut_at 10 rest ≡ Some (line, next) → is_above octets (line_synced line) ≡ true → has_commit_beyond octets (parts_at 10 rest) ≡ true
beyond_cut_true octets rest line next h t = beyond_cut octets rest line next h ∙ ap (λ (b : Bool). b || has_commit_beyond octets (parts_at 10 next)) t

-- ---- damage is found

pub commit_synced_of_commit : (synced : ℕ) → synced ≤ 18446744073709551615 → commit_synced (entry_text (Commit synced)) ≡ Some synced
unfolding commit_synced
commit_synced_of_commit synced h =
    number_complete 18446744073709551615 synced (omega arith) h

-- by what follows the word
pub synced_after : (text field : List ℕ) → text ≡ codes "commit " ++ field → number_at 18446744073709551615 field ≡ commit_synced text
unfolding commit_synced
synced_after text field e = sym (ap commit_synced e)

pub synced_without : (text : List ℕ) → ((field : List ℕ) → text ≢ codes "commit " ++ field) → None ≡ commit_synced text
unfolding commit_synced
synced_without text h =
    let f : bytes_eq (take 7 text) (codes "commit ") ≡ false =
    false_from_ne_true (bytes_eq (take 7 text) (codes "commit ")) (λ t.
    h (drop 7 text) (sym (take-append-drop 7 text) ∙ ap (λ (xs : List ℕ). xs ++ drop 7 text) ((bytes_eq-Decides (take 7 text) (codes "commit ")).0 t))) in
    sym (rw f refl)

pub line_by_text : (line : List ℕ) (o : Option (List ℕ)) → o ≡ line_text line → (o >>= commit_synced) ≡ line_synced line
unfolding line_synced
line_by_text line o e = ap (λ (x : Option (List ℕ)). x >>= commit_synced) e

sealed_synced : (synced : ℕ) → synced ≤ 18446744073709551615 → line_synced (checksum_field (entry_text (Commit synced)) ++ entry_text (Commit synced)) ≡ Some synced
unfolding line_synced
sealed_synced synced h =
    let text = entry_text (Commit synced) in
    bound (line_text (checksum_field text ++ text)) commit_synced text (line_text_of_line text) ∙ commit_synced_of_commit synced h

pub beyond_first_commit : (octets synced : ℕ) (back : List ℕ) → synced ≤ 18446744073709551615 → octets < synced → has_commit_beyond octets (parts_at 10 (line_of (entry_text (Commit synced)) ++ back)) ≡ true
beyond_first_commit octets synced back h l =
    let text = entry_text (Commit synced) in
    let line = checksum_field text ++ text in
    let parts : parts_at 10 (line_of text ++ back) ≡ line ∷ parts_at 10 back =
    ap (parts_at 10) (append_assoc line (10 ∷ []) back) ∙ first_part 10 line back (checked_is_text text (entry_is_text (Commit synced) h)) in
    let more : is_above octets (line_synced line) ≡ true = ap (is_above octets) (sealed_synced synced h) ∙ lt-ltb octets synced l in
    ap (has_commit_beyond octets) parts ∙ beyond_parts octets line (parts_at 10 back) (some_part 10 back) ∙ ap (λ (b : Bool). b || has_commit_beyond octets (parts_at 10 back)) more

-- octets before a part change only this part
beyond_onto : (octets octet : ℕ) (part next : List ℕ) (parts : List (List ℕ)) → has_commit_beyond octets (next ∷ parts) ≡ true → has_commit_beyond octets (onto_first octet (part ∷ next ∷ parts)) ≡ true
beyond_onto octets octet part next parts h = or_right (is_above octets (line_synced (octet ∷ part))) (has_commit_beyond octets (next ∷ parts)) h

-- there is a line end, and a commit after it says that more had been synced
record IsBeyondAfterCut (octets : ℕ) (parts : List (List ℕ)) : Type 0 where
  first : List ℕ
  second : List ℕ
  others : List (List ℕ)
  are : parts ≡ first ∷ second ∷ others
  tells : has_commit_beyond octets (second ∷ others) ≡ true

at_end : (octets : ℕ) (rest : List ℕ) (parts : List (List ℕ)) → parts ≡ parts_at 10 rest → has_commit_beyond octets (parts_at 10 rest) ≡ true → IsBeyondAfterCut octets ([] ∷ parts)
at_end octets rest [] e h = absurd (some_part 10 rest (sym e))
at_end octets rest (next ∷ parts) e h = record { first = []; second = next; others = parts; are = refl; tells = ap (has_commit_beyond octets) e ∙ h }

beyond_after_cut : (octets : ℕ) (front rest : List ℕ) → has_commit_beyond octets (parts_at 10 rest) ≡ true → IsBeyondAfterCut octets (parts_at 10 (front ++ 10 ∷ rest))
beyond_after_cut octets [] rest h = at_end octets rest (parts_at 10 rest) refl h
beyond_after_cut octets (octet ∷ front) rest h =
    let t = beyond_after_cut octets front rest h in
    elim (cases_Bool (eqb octet 10)) [
      | inl e ↦ subst (IsBeyondAfterCut octets) (sym (cut_here e)) (record {
        first = [];
        second = t.first;
        others = t.second ∷ t.others;
        are = ap (λ (parts : List (List ℕ)). [] ∷ parts) t.are;
        tells = or_right (is_above octets (line_synced t.first)) (has_commit_beyond octets (t.second ∷ t.others)) t.tells;
      })
      | inr f ↦ subst (IsBeyondAfterCut octets) (sym (goes_on f)) (record {
        first = octet ∷ t.first;
        second = t.second;
        others = t.others;
        are = ap (onto_first octet) t.are;
        tells = t.tells;
      })
    ]
  where
    cut_here : eqb octet 10 ≡ true → parts_at 10 (octet ∷ (front ++ 10 ∷ rest)) ≡ [] ∷ parts_at 10 (front ++ 10 ∷ rest)
    cut_here e = rw e refl

    goes_on : eqb octet 10 ≡ false → parts_at 10 (octet ∷ (front ++ 10 ∷ rest)) ≡ onto_first octet (parts_at 10 (front ++ 10 ∷ rest))
    goes_on f = rw f refl

pub beyond_later_commit : (octets synced : ℕ) (front back : List ℕ) → synced ≤ 18446744073709551615 → octets < synced → has_commit_beyond octets (parts_at 10 (front ++ 10 ∷ (line_of (entry_text (Commit synced)) ++ back))) ≡ true
beyond_later_commit octets synced front back h l =
    let t = beyond_after_cut octets front (line_of (entry_text (Commit synced)) ++ back) (beyond_first_commit octets synced back h l) in
    ap (has_commit_beyond octets) t.are ∙ or_right (is_above octets (line_synced t.first)) (has_commit_beyond octets (t.second ∷ t.others)) t.tells
