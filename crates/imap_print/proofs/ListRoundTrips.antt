use Rattle.std.proofs.Common.{◌≡◌, ℕ, zero, suc, ◌+◌, ◌<◌, ◌≤◌, Bool, true, false, ◌&&◌, eqb, cond, List, [], ◌∷◌, ◌++◌, length, codes, Option, None, Some, refl, ap, sym, subst, inl, inr, ◌∙◌, append_assoc, arith}
use Rattle.std.proofs.lemmas.Bool.{and_from, cases_Bool, eqb-true, ne_eqb, false≢true}
use Rattle.std.proofs.lemmas.List.{length-append}
use Rattle.std.specs.Fmt.{decimal}
use Rattle.std.specs.List.{list_all}
use Rattle.imap_types.specs.Flags.{flag_texts, text_if_set}
use Rattle.imap_types.specs.Keywords.{are_keywords, is_atom_octet}
use Rattle.imap_types.specs.declared.flags.Flags.{Flags}
use Rattle.imap_types.proofs.KeywordLemmas.{test_from_keywords}
use Rattle.imap_print.specs.Appending.{has_none, spaced}
use Rattle.imap_answers.specs.Printable.{AreFlags, Each, IsAtom, IsWide, IfPresent}
use Rattle.imap_answers.specs.AnswerText.{flags_text, permanent_text}
use Rattle.imap_print.specs.Reading.{◌>>=◌, ListReading, after, flag_at, flag_after, value_with_rest, is_in, item_at, item_after, lead, number_from, span, with_prefix, words_at, words_after}
use Rattle.imap_print.specs.ReadingAnswers.{flags_at, flags_from, permanent_at, permanent_from, permanent_or}
use Rattle.imap_answers.specs.Strings.{item, separated_by}
use Rattle.imap_print.specs.declared.scanner.ScanClass.TheVariants.{Atom}
use Rattle.imap_print.proofs.ListsLemmas.{has_none-append, spaced-append}
use Rattle.imap_print.proofs.RoundTrips.{after-round_trip, apart, none_after_lead, number-round_trip, span-round_trip, spaced-front, word_parts}

pub lead-round_trip : (f : Bool) (t rest : List ℕ) → after (lead f t) (lead f t ++ rest) ≡ Some rest
lead-round_trip true t rest = after-round_trip t rest
lead-round_trip false t rest = after-round_trip (32 ∷ t) rest

pub lead-parts : (f : Bool) (a b rest : List ℕ) → lead f (a ++ b) ++ rest ≡ lead f a ++ (b ++ rest)
lead-parts true a b rest = append_assoc a b rest
lead-parts false a b rest = ap (λ (xs : List ℕ). 32 ∷ xs) (append_assoc a b rest)

pub not_first : (f : Bool) → (f && false) ≡ false
not_first true = refl
not_first false = refl

pub still_first : (f : Bool) → (f && true) ≡ f
still_first true = refl
still_first false = refl

-- a flag on a list
pub flag-round_trip : (f b : Bool) (text : List ℕ) (ts : List (List ℕ)) (end : List ℕ) → list_all (apart text) ts ≡ true → after (lead f text) end ≡ None → flag_at f text (spaced f (text_if_set b text ++ ts) ++ end) ≡ (b, f && has_none (text_if_set b text), spaced (f && has_none (text_if_set b text)) ts ++ end)
flag-round_trip f true text ts end a n =
    ap (λ (x : List ℕ). flag_at f text x) (spaced-front f text ts end)
    ∙ ap (λ o. flag_after f o (lead f text ++ (spaced false ts ++ end))) (lead-round_trip f text (spaced false ts ++ end))
    ∙ (λ k. (true, sym (not_first f) k, spaced (sym (not_first f) k) ts ++ end))
flag-round_trip f false text ts end a n =
    ap (λ o. flag_after f o (spaced f ts ++ end)) (none_after_lead f text ts end a n)
    ∙ (λ k. (false, sym (still_first f) k, spaced (sym (still_first f) k) ts ++ end))

-- a number ends at the end of a list or at its next text
EndsNumber : List ℕ → Type 0
EndsNumber rest = (n : ℕ) → number_from n rest ≡ (n, rest)

next_ends : (ts : List (List ℕ)) (end : List ℕ) → EndsNumber end → EndsNumber (spaced false ts ++ end)
unfolding EndsNumber
next_ends [] end h = h
next_ends (t ∷ ts) end h = λ n. refl

-- a number on a list
pub item-round_trip : (f : Bool) (label : List ℕ) (number : Option ℕ) (ts : List (List ℕ)) (end : List ℕ) → IfPresent IsWide number → list_all (apart label) ts ≡ true → after (lead f label) end ≡ None → ((n : ℕ) → number_from n end ≡ (n, end)) → item_at f label (spaced f (item label number ++ ts) ++ end) ≡ (number, f && has_none (item label number), spaced (f && has_none (item label number)) ts ++ end)
unfolding EndsNumber
item-round_trip f label None ts end w a n e =
    ap (λ o. item_after f o (spaced f ts ++ end)) (none_after_lead f label ts end a n)
    ∙ (λ k. (None, sym (still_first f) k, spaced (sym (still_first f) k) ts ++ end))
item-round_trip f label (Some number) ts end w a n e =
    let rest = spaced false ts ++ end in
    let front : spaced f ((label ++ decimal number) ∷ ts) ++ end ≡ lead f label ++ (decimal number ++ rest) =
    spaced-front f (label ++ decimal number) ts end ∙ lead-parts f label (decimal number) rest in
    ap (λ (x : List ℕ). item_at f label x) front
    ∙ ap (λ o. item_after f o (lead f label ++ (decimal number ++ rest))) (lead-round_trip f label (decimal number ++ rest))
    ∙ ap (λ (x : ℕ × List ℕ). (Some x.0, false, x.1)) (number-round_trip number rest w ∙ next_ends ts end e number)
    ∙ (λ k. (Some number, sym (not_first f) k, spaced (sym (not_first f) k) ts ++ end))

-- words on a list, up to octets that aren't a word
abbrev pub WordsReader : Type 0
WordsReader = List ℕ → Option (List (List ℕ) × List ℕ)

next_stops : (ts : List (List ℕ)) (end : List ℕ) → span (is_in Atom) end ≡ ([], end) → span (is_in Atom) (spaced false ts ++ end) ≡ ([], spaced false ts ++ end)
next_stops [] end h = h
next_stops (t ∷ ts) end h = refl

pub lead-open : (f : Bool) (t rest : List ℕ) → after (lead f []) (lead f t ++ rest) ≡ Some (t ++ rest)
lead-open true t rest = refl
lead-open false t rest = refl

filled_length : (word : List ℕ) → IsAtom word → eqb (length word) 0 ≡ false
filled_length [] h = cc
filled_length (c ∷ cs) h = ne_eqb (suc (length cs)) 0 (λ e. absurd (omega arith))

pub words-round_trip : (fuel : ℕ) (f : Bool) (ks : List (List ℕ)) (end : List ℕ) → Each IsAtom ks → length ks < fuel → span (is_in Atom) end ≡ ([], end) → ((reader : WordsReader) → words_after (after (lead (f && has_none ks) []) end) end reader ≡ Some ([], end)) → words_at fuel f (spaced f ks ++ end) ≡ Some (ks, end)
words-round_trip zero f ks end w l s stop = absurd (omega arith)
words-round_trip (suc fuel) true [] end w l s stop = stop (words_at fuel false)
words-round_trip (suc fuel) false [] end w l s stop = stop (words_at fuel false)
words-round_trip (suc fuel) f (k ∷ ks) end w l s stop =
    let rest = spaced false ks ++ end in
    let parts = word_parts is_atom_octet k w.0 in
    let read : span (is_in Atom) (k ++ rest) ≡ (k, rest) = span-round_trip Atom k rest parts.4 (next_stops ks end s) in
    let stop' : (reader : WordsReader) → words_after (after (lead false []) end) end reader ≡ Some ([], end) =
    λ reader. subst (λ (b : Bool). words_after (after (lead b []) end) end reader ≡ Some ([], end)) (not_first f) (stop reader) in
    ap (words_at (suc fuel) f) (spaced-front f k ks end)
    ∙ ap (λ o. words_after o (lead f k ++ rest) (words_at fuel false)) (lead-open f k rest)
    ∙ ap (λ (x : List ℕ × List ℕ). cond (eqb (length x.0) 0) (Some ([], lead f k ++ rest)) (with_prefix (x.0 ∷ []) (words_at fuel false x.1))) read
    ∙ ap (λ b. cond b (Some ([], lead f k ++ rest)) (with_prefix (k ∷ []) (words_at fuel false rest))) (filled_length k w.0)
    ∙ ap (with_prefix (k ∷ [])) (words-round_trip fuel false ks end w.1 (omega arith) s stop')

lead_filled : (f : Bool) (k rest : List ℕ) → IsAtom k → suc (length rest) ≤ length (lead f k ++ rest)
lead_filled f [] rest w = cc
lead_filled true (c ∷ cs) rest w = omega (arith, length-append cs rest)
lead_filled false (c ∷ cs) rest w = omega (arith, length-append cs rest)

pub words_fit : (f : Bool) (ks : List (List ℕ)) (end : List ℕ) → Each IsAtom ks → length ks ≤ length (spaced f ks ++ end)
words_fit f [] end w = omega arith
words_fit f (k ∷ ks) end w =
    let front : length (spaced f (k ∷ ks) ++ end) ≡ length (lead f k ++ (spaced false ks ++ end)) = ap length (spaced-front f k ks end) in
    omega (arith, front, lead_filled f k (spaced false ks ++ end) w.0, words_fit false ks end w.1)

-- texts that differ from a label before either ends
apart_if_set : (l : List ℕ) (b : Bool) (t : List ℕ) (ts : List (List ℕ)) → apart l t ≡ true → list_all (apart l) ts ≡ true → list_all (apart l) (text_if_set b t ++ ts) ≡ true
apart_if_set l true t ts h a = and_from (apart l t) (list_all (apart l) ts) h a
apart_if_set l false t ts h a = a

not_atom : (k c : ℕ) → is_atom_octet k ≡ false → is_atom_octet c ≡ true → eqb c k ≡ false
not_atom k c f t = elim (cases_Bool (eqb c k)) [
  | inl e ↦ absurd (false≢true (sym f ∙ ap is_atom_octet (sym (eqb-true c k e)) ∙ t))
  | inr g ↦ g
]

apart_atom : (k : ℕ) (l word : List ℕ) → is_atom_octet k ≡ false → IsAtom word → apart (k ∷ l) word ≡ true
apart_atom k l word f w =
    let p = word_parts is_atom_octet word w in
    ap (apart (k ∷ l)) p.2 ∙ ap (λ b. cond b (apart l p.1) true) (not_atom k p.0 f p.3)

pub apart_atoms : (k : ℕ) (l : List ℕ) (ks : List (List ℕ)) → is_atom_octet k ≡ false → Each IsAtom ks → list_all (apart (k ∷ l)) ks ≡ true
apart_atoms k l [] f w = refl
apart_atoms k l (word ∷ ks) f w = and_from (apart (k ∷ l) word) (list_all (apart (k ∷ l)) ks) (apart_atom k l word f w.0) (apart_atoms k l ks f w.1)

-- These octets end a list of flags.
pub record EndsFlags (g : Bool) (end : List ℕ) : Type 0 where
  pub answered : (f : Bool) → after (lead f (codes "\\Answered")) end ≡ None
  pub flagged : (f : Bool) → after (lead f (codes "\\Flagged")) end ≡ None
  pub deleted : (f : Bool) → after (lead f (codes "\\Deleted")) end ≡ None
  pub seen : (f : Bool) → after (lead f (codes "\\Seen")) end ≡ None
  pub draft : (f : Bool) → after (lead f (codes "\\Draft")) end ≡ None
  pub atoms : span (is_in Atom) end ≡ ([], end)
  pub stop : (reader : List ℕ → Option (List (List ℕ) × List ℕ)) → words_after (after (lead g []) end) end reader ≡ Some ([], end)

length_none : (ks : List (List ℕ)) → eqb (length ks) 0 ≡ has_none ks
length_none [] = refl
length_none (k ∷ ks) = ne_eqb (suc (length ks)) 0 (λ e. absurd (omega arith))

-- Whether there are no flags.
pub still_of : Flags → Bool
still_of flags =
    ((((((true && has_none (text_if_set flags.answered (codes "\\Answered"))) && has_none (text_if_set flags.flagged (codes "\\Flagged"))) && has_none (text_if_set flags.deleted (codes "\\Deleted"))) && has_none (text_if_set flags.seen (codes "\\Seen"))) && has_none (text_if_set flags.draft (codes "\\Draft"))) && has_none flags.keywords)

-- The flags that these readings give.
abbrev finished : ListReading Bool → ListReading Bool → ListReading Bool → ListReading Bool → ListReading Bool → Option (List (List ℕ) × List ℕ) → Option (ListReading Flags)
finished a b c d e o =
    o >>= λ words.
    (cond {A = Option (ListReading Flags)} (are_keywords words.0) (Some (record { answered = a.0; flagged = b.0; deleted = c.0; seen = d.0; draft = e.0; keywords = words.0 }, e.1 && eqb (length words.0) 0, words.1)) None)

pub flags-from-round_trip : (flags : Flags) (end : List ℕ) → AreFlags flags → EndsFlags (still_of flags) end → flags_from (spaced true (flag_texts flags) ++ end) ≡ Some (flags, still_of flags, end)
unfolding flags_from still_of
flags-from-round_trip flags end h e =
    let w2 = text_if_set flags.flagged (codes "\\Flagged") in
    let w3 = text_if_set flags.deleted (codes "\\Deleted") in
    let w4 = text_if_set flags.seen (codes "\\Seen") in
    let w5 = text_if_set flags.draft (codes "\\Draft") in
    let w1 = text_if_set flags.answered (codes "\\Answered") in
    let ks = flags.keywords in
    let nested : flag_texts flags ≡ w1 ++ (w2 ++ (w3 ++ (w4 ++ (w5 ++ ks)))) = simp append_assoc in
    let bytes = spaced true (flag_texts flags) ++ end in
    let f1 = true && has_none w1 in
    let f2 = f1 && has_none w2 in
    let f3 = f2 && has_none w3 in
    let f4 = f3 && has_none w4 in
    let f5 = f4 && has_none w5 in
    let a1 : list_all (apart (codes "\\Answered")) (w2 ++ (w3 ++ (w4 ++ (w5 ++ ks)))) ≡ true = apart_if_set (codes "\\Answered") flags.flagged _ _ refl (apart_if_set (codes "\\Answered") flags.deleted _ _ refl (apart_if_set (codes "\\Answered") flags.seen _ _ refl (apart_if_set (codes "\\Answered") flags.draft _ _ refl (apart_atoms 92 (codes "Answered") ks refl h.1)))) in
    let a2 : list_all (apart (codes "\\Flagged")) (w3 ++ (w4 ++ (w5 ++ ks))) ≡ true = apart_if_set (codes "\\Flagged") flags.deleted _ _ refl (apart_if_set (codes "\\Flagged") flags.seen _ _ refl (apart_if_set (codes "\\Flagged") flags.draft _ _ refl (apart_atoms 92 (codes "Flagged") ks refl h.1))) in
    let a3 : list_all (apart (codes "\\Deleted")) (w4 ++ (w5 ++ ks)) ≡ true = apart_if_set (codes "\\Deleted") flags.seen _ _ refl (apart_if_set (codes "\\Deleted") flags.draft _ _ refl (apart_atoms 92 (codes "Deleted") ks refl h.1)) in
    let a4 : list_all (apart (codes "\\Seen")) (w5 ++ ks) ≡ true = apart_if_set (codes "\\Seen") flags.draft _ _ refl (apart_atoms 92 (codes "Seen") ks refl h.1) in
    let a5 : list_all (apart (codes "\\Draft")) ks ≡ true = apart_atoms 92 (codes "Draft") ks refl h.1 in
    let p1 = ap (λ (ts : List (List ℕ)). flag_at true (codes "\\Answered") (spaced true ts ++ end)) nested ∙ flag-round_trip true flags.answered (codes "\\Answered") (w2 ++ (w3 ++ (w4 ++ (w5 ++ ks)))) end a1 (e.answered true) in
    let p2 = ap (λ (x : ListReading Bool). flag_at x.1 (codes "\\Flagged") x.2) p1 ∙ flag-round_trip f1 flags.flagged (codes "\\Flagged") (w3 ++ (w4 ++ (w5 ++ ks))) end a2 (e.flagged f1) in
    let p3 = ap (λ (x : ListReading Bool). flag_at x.1 (codes "\\Deleted") x.2) p2 ∙ flag-round_trip f2 flags.deleted (codes "\\Deleted") (w4 ++ (w5 ++ ks)) end a3 (e.deleted f2) in
    let p4 = ap (λ (x : ListReading Bool). flag_at x.1 (codes "\\Seen") x.2) p3 ∙ flag-round_trip f3 flags.seen (codes "\\Seen") (w5 ++ ks) end a4 (e.seen f3) in
    let p5 = ap (λ (x : ListReading Bool). flag_at x.1 (codes "\\Draft") x.2) p4 ∙ flag-round_trip f4 flags.draft (codes "\\Draft") ks end a5 (e.draft f4) in
    let texts : bytes ≡ spaced true (w1 ++ w2 ++ w3 ++ w4 ++ w5) ++ (spaced (true && has_none (w1 ++ w2 ++ w3 ++ w4 ++ w5)) ks ++ end) = ap (λ (x : List ℕ). x ++ end) (spaced-append true (w1 ++ w2 ++ w3 ++ w4 ++ w5) ks) ∙ append_assoc (spaced true (w1 ++ w2 ++ w3 ++ w4 ++ w5)) _ end in
    let fits : length ks < length bytes + 1 = omega (arith, ap length texts, length-append (spaced true (w1 ++ w2 ++ w3 ++ w4 ++ w5)) (spaced (true && has_none (w1 ++ w2 ++ w3 ++ w4 ++ w5)) ks ++ end), words_fit (true && has_none (w1 ++ w2 ++ w3 ++ w4 ++ w5)) ks end h.1) in
    let q = ap (λ (x : ListReading Bool). words_at (length bytes + 1) x.1 x.2) p5 ∙ words-round_trip (length bytes + 1) f5 ks end h.1 fits e.atoms e.stop in
    (λ k. finished (p1 k) (p2 k) (p3 k) (p4 k) (p5 k) (q k))
    ∙ ap (λ b. cond {A = Option (ListReading Flags)} b (Some (flags, f5 && eqb (length ks) 0, end)) None) (test_from_keywords ks h.0)
    ∙ ap (λ b. Some (flags, f5 && b, end)) (length_none ks)

none_yet_is : (flags : Flags) → (true && has_none (flag_texts flags)) ≡ still_of flags
unfolding still_of
none_yet_is flags =
    let w1 = text_if_set flags.answered (codes "\\Answered") in
    let w2 = text_if_set flags.flagged (codes "\\Flagged") in
    let w3 = text_if_set flags.deleted (codes "\\Deleted") in
    let w4 = text_if_set flags.seen (codes "\\Seen") in
    let w5 = text_if_set flags.draft (codes "\\Draft") in
    has_none-append true (w1 ++ w2 ++ w3 ++ w4 ++ w5) flags.keywords
    ∙ ap (λ b. b && has_none flags.keywords) (has_none-append true (w1 ++ w2 ++ w3 ++ w4) w5
    ∙ ap (λ b. b && has_none w5) (has_none-append true (w1 ++ w2 ++ w3) w4
    ∙ ap (λ b. b && has_none w4) (has_none-append true (w1 ++ w2) w3
    ∙ ap (λ b. b && has_none w3) (has_none-append true w1 w2))))

no_flag : (f : Bool) (c : ℕ) (text rest : List ℕ) → eqb c 92 ≡ false → eqb c 32 ≡ false → after (lead f (92 ∷ text)) (c ∷ rest) ≡ None
no_flag true c text rest h k = ap (λ b. cond b (after text rest) None) h
no_flag false c text rest h k = ap (λ b. cond b (after (92 ∷ text) rest) None) k

closed_stop : (g : Bool) (rest : List ℕ) (reader : WordsReader) → words_after (after (lead g []) (41 ∷ rest)) (41 ∷ rest) reader ≡ Some ([], 41 ∷ rest)
closed_stop true rest reader = refl
closed_stop false rest reader = refl

-- a parenthesis ends a list of flags
closes : (g : Bool) (rest : List ℕ) → EndsFlags g (41 ∷ rest)
closes g rest = record {
  answered = λ f. no_flag f 41 (codes "Answered") rest refl refl;
  flagged = λ f. no_flag f 41 (codes "Flagged") rest refl refl;
  deleted = λ f. no_flag f 41 (codes "Deleted") rest refl refl;
  seen = λ f. no_flag f 41 (codes "Seen") rest refl refl;
  draft = λ f. no_flag f 41 (codes "Draft") rest refl refl;
  atoms = refl;
  stop = closed_stop g rest;
}

any_flag : (f g : Bool) (c : ℕ) (text rest : List ℕ) → eqb 42 c ≡ false → after (lead f (92 ∷ c ∷ text)) (lead g (codes "\\*") ++ rest) ≡ None
any_flag true true c text rest h = ap (λ b. cond b (after text rest) None) h
any_flag true false c text rest h = refl
any_flag false true c text rest h = refl
any_flag false false c text rest h = ap (λ b. cond b (after text rest) None) h

any_stop : (g : Bool) (rest : List ℕ) (reader : WordsReader) → words_after (after (lead g []) (lead g (codes "\\*") ++ rest)) (lead g (codes "\\*") ++ rest) reader ≡ Some ([], lead g (codes "\\*") ++ rest)
any_stop true rest reader = refl
any_stop false rest reader = refl

any_atoms : (g : Bool) (rest : List ℕ) → span (is_in Atom) (lead g (codes "\\*") ++ rest) ≡ ([], lead g (codes "\\*") ++ rest)
any_atoms true rest = refl
any_atoms false rest = refl

-- the `\*` for any new keyword ends a list of flags
any_ends : (g : Bool) (rest : List ℕ) → EndsFlags g (lead g (codes "\\*") ++ rest)
any_ends g rest = record {
  answered = λ f. any_flag f g 65 (codes "nswered") rest refl;
  flagged = λ f. any_flag f g 70 (codes "lagged") rest refl;
  deleted = λ f. any_flag f g 68 (codes "eleted") rest refl;
  seen = λ f. any_flag f g 83 (codes "een") rest refl;
  draft = λ f. any_flag f g 68 (codes "raft") rest refl;
  atoms = any_atoms g rest;
  stop = any_stop g rest;
}

-- flags in parentheses
pub flags-round_trip : (flags : Flags) (rest : List ℕ) → AreFlags flags → flags_at (flags_text flags ++ rest) ≡ Some (flags, rest)
unfolding flags_at
flags-round_trip flags rest h =
    let whole : (separated_by 32 (flag_texts flags) ++ (41 ∷ [])) ++ rest ≡ spaced true (flag_texts flags) ++ (41 ∷ rest) = append_assoc (separated_by 32 (flag_texts flags)) (41 ∷ []) rest in
    ap (λ (x : List ℕ). flags_from x >>= λ flags. value_with_rest flags.0 (after (codes ")") flags.2)) whole
    ∙ ap (λ o. o >>= λ flags. value_with_rest flags.0 (after (codes ")") flags.2)) (flags-from-round_trip flags (41 ∷ rest) h (closes (still_of flags) rest))

not_closed : (flags : Flags) → AreFlags flags → list_all (apart (41 ∷ [])) (flag_texts flags) ≡ true
not_closed flags h =
    let w1 = text_if_set flags.answered (codes "\\Answered") in
    let w2 = text_if_set flags.flagged (codes "\\Flagged") in
    let w3 = text_if_set flags.deleted (codes "\\Deleted") in
    let w4 = text_if_set flags.seen (codes "\\Seen") in
    let w5 = text_if_set flags.draft (codes "\\Draft") in
    let nested : flag_texts flags ≡ w1 ++ (w2 ++ (w3 ++ (w4 ++ (w5 ++ flags.keywords)))) = simp append_assoc in
    let all : list_all (apart (41 ∷ [])) (w1 ++ (w2 ++ (w3 ++ (w4 ++ (w5 ++ flags.keywords))))) ≡ true =
    apart_if_set (41 ∷ []) flags.answered _ _ refl (apart_if_set (41 ∷ []) flags.flagged _ _ refl (apart_if_set (41 ∷ []) flags.deleted _ _ refl (apart_if_set (41 ∷ []) flags.seen _ _ refl (apart_if_set (41 ∷ []) flags.draft _ _ refl (apart_atoms 41 [] flags.keywords refl h.1))))) in
    ap (list_all (apart (41 ∷ []))) nested ∙ all

any_apart : (g : Bool) (rest : List ℕ) → after (41 ∷ []) (lead g (codes "\\*") ++ rest) ≡ None
any_apart true rest = refl
any_apart false rest = refl

-- the flags that can be changed permanently
pub permanent-round_trip : (flags : Option Flags) (rest : List ℕ) → IfPresent AreFlags flags → permanent_at (permanent_text flags ++ rest) ≡ Some (flags, rest)
unfolding permanent_from
permanent-round_trip None rest h = refl
permanent-round_trip (Some flags) rest h =
    let ts = flag_texts flags in
    let g = still_of flags in
    let end = lead g (codes "\\*") ++ (41 ∷ rest) in
    let listed : separated_by 32 (ts ++ codes "\\*" ∷ []) ≡ spaced true ts ++ spaced g (codes "\\*" ∷ []) = spaced-append true ts (codes "\\*" ∷ []) ∙ ap (λ b. spaced true ts ++ spaced b (codes "\\*" ∷ [])) (none_yet_is flags) in
    let whole : (separated_by 32 (ts ++ codes "\\*" ∷ []) ++ (41 ∷ [])) ++ rest ≡ spaced true ts ++ end =
    append_assoc (separated_by 32 (ts ++ codes "\\*" ∷ [])) (41 ∷ []) rest
    ∙ ap (λ (x : List ℕ). x ++ (41 ∷ rest)) listed
    ∙ append_assoc (spaced true ts) (spaced g (codes "\\*" ∷ [])) (41 ∷ rest)
    ∙ ap (λ (x : List ℕ). spaced true ts ++ x) (spaced-front g (codes "\\*") [] (41 ∷ rest) ∙ ap (λ (x : List ℕ). lead g (codes "\\*") ++ x) refl) in
    let apart_all : list_all (apart (41 ∷ [])) ts ≡ true = not_closed flags h in
    let filled : after (41 ∷ []) (spaced true ts ++ end) ≡ None = none_after_lead true (41 ∷ []) ts end apart_all (any_apart g (41 ∷ rest)) in
    ap (λ (x : List ℕ). permanent_or (after (41 ∷ []) x) (40 ∷ x)) whole
    ∙ ap (λ o. permanent_or o (40 ∷ (spaced true ts ++ end))) filled
    ∙ ap (λ o. o >>= λ flags. (after (lead flags.1 (codes "\\*")) flags.2 >>= λ any. value_with_rest (Some flags.0) (after (codes ")") any))) (flags-from-round_trip flags end h (any_ends g (41 ∷ rest)))
    ∙ ap (λ o. o >>= λ any. value_with_rest (Some flags) (after (codes ")") any)) (lead-round_trip g (codes "\\*") (41 ∷ rest))
