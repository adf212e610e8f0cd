use Rattle.std.proofs.lemmas.Bool.{leb-true}
use Rattle.std.proofs.lemmas.List.{length-take-le}
use Rattle.std.proofs.Common.{◌≡◌, ℕ, zero, suc, ◌+◌, ◌-◌, ◌<◌, ◌≤◌, leb, take, Bool, true, false, eqb, cond, List, [], ◌∷◌, ◌++◌, length, drop, codes, Option, None, Some, refl, ap, sym, ◌∙◌, append_assoc, arith}
use Rattle.imap_types.specs.declared.number_set.Run.{Run}
use Rattle.imap_print.specs.declared.scanner.ScanClass.TheVariants.{Atom}
use Rattle.imap_print.specs.declared.fault.ReadFault.{ReadFault}
use Rattle.imap_print.specs.declared.fault.ReadFault.TheVariants.{NoMemory, NotPrinted}
use Rattle.imap_answers.specs.declared.fetch_items.SectionData.{SectionData}
use Rattle.imap_print.specs.ReadingAnswers.{bodies_at, bodies_after, body_at, fields_at, fields_after, next_field_at}
use Rattle.imap_print.specs.Reading.{◌>>=◌, IsFaultOfReading, after, octets_at, is_in, lead, run_at, runs_at, runs_after, span, with_prefix, words_at, words_after}

-- octets that end within a prefix don't begin with it
pub after-missing : (i : ℕ) (ps bs : List ℕ) → i < length ps → length bs < 1 → after (drop i ps) bs ≡ None
after-missing i [] bs h l = absurd (omega arith)
after-missing zero (p ∷ ps) [] h l = refl
after-missing zero (p ∷ ps) (b ∷ bs) h l = absurd (omega arith)
after-missing (suc i) (p ∷ ps) bs h l = after-missing i ps bs (omega arith) l

with_prefix-twice : {X : Type 0} (front : List X) (x : X) (read : Option (List X × List ℕ)) → with_prefix front (with_prefix (x ∷ []) read) ≡ with_prefix (front ++ x ∷ []) read
with_prefix-twice front x None = refl
with_prefix-twice front x (Some y) = λ k. Some (sym (append_assoc front (x ∷ []) y.0) k, y.1)

append_none : {X : Type 0} (xs : List X) → xs ++ [] ≡ xs
append_none [] = refl
append_none (x ∷ xs) = ap (λ ys. x ∷ ys) (append_none xs)

-- the last run of a set
pub runs-end : (i n : ℕ) (parsed : List Run) (rest : List ℕ) → i < n → after (codes ",") (run_at rest).1 ≡ None → with_prefix parsed (runs_at (n - i) rest) ≡ Some (parsed ++ (run_at rest).0 ∷ [], (run_at rest).1)
runs-end i n parsed rest l h =
    let e : n - i ≡ suc (n - (i + 1)) = omega arith in
    ap (λ k. with_prefix parsed (runs_at k rest)) e
    ∙ ap (λ o. with_prefix parsed (runs_after (run_at rest).0 o (run_at rest).1 (runs_at (n - (i + 1))))) h

-- a run with further runs after it
pub runs_at-step : (i n : ℕ) (parsed : List Run) (rest more : List ℕ) → i < n → after (codes ",") (run_at rest).1 ≡ Some more → with_prefix parsed (runs_at (n - i) rest) ≡ with_prefix (parsed ++ (run_at rest).0 ∷ []) (runs_at (n - (i + 1)) more)
runs_at-step i n parsed rest more l h =
    let e : n - i ≡ suc (n - (i + 1)) = omega arith in
    ap (λ k. with_prefix parsed (runs_at k rest)) e
    ∙ ap (λ o. with_prefix parsed (runs_after (run_at rest).0 o (run_at rest).1 (runs_at (n - (i + 1))))) h
    ∙ with_prefix-twice parsed (run_at rest).0 (runs_at (n - (i + 1)) more)

-- a word with further words after it
pub words_at-step : (i n : ℕ) (none_yet : Bool) (parsed : List (List ℕ)) (rest unread : List ℕ) → i < n → after (lead none_yet []) rest ≡ Some unread → eqb (length (span (is_in Atom) unread).0) 0 ≡ false → with_prefix parsed (words_at (n - i) none_yet rest) ≡ with_prefix (parsed ++ (span (is_in Atom) unread).0 ∷ []) (words_at (n - (i + 1)) false (span (is_in Atom) unread).1)
words_at-step i n none_yet parsed rest unread l h f =
    let e : n - i ≡ suc (n - (i + 1)) = omega arith in
    let w = span (is_in Atom) unread in
    ap (λ k. with_prefix parsed (words_at k none_yet rest)) e
    ∙ ap (λ o. with_prefix parsed (words_after o rest (words_at (n - (i + 1)) false))) h
    ∙ ap (λ b. with_prefix parsed (cond b (Some ([], rest)) (with_prefix (w.0 ∷ []) (words_at (n - (i + 1)) false w.1)))) f
    ∙ with_prefix-twice parsed w.0 (words_at (n - (i + 1)) false w.1)

-- the loop over names of header fields: its end, a fault, and a further name
pub fields-end : (i n : ℕ) (none_yet : Bool) (parsed : List (List ℕ)) (rest unread : List ℕ) (out : Option (List (List ℕ) × List ℕ)) → i < n → after (codes ")") rest ≡ Some unread → with_prefix parsed (fields_at (n - i) none_yet rest) ≡ out → out ≡ Some (parsed, unread)
fields-end i n none_yet parsed rest unread out l h inv =
    let e : n - i ≡ suc (n - (i + 1)) = omega arith in
    sym inv ∙ ap (λ k. with_prefix parsed (fields_at k none_yet rest)) e
    ∙ ap (λ o. with_prefix parsed (fields_after none_yet o rest (fields_at (n - (i + 1)) false))) h
    ∙ (λ k. Some (append_none parsed k, unread))

fields-step : (i n : ℕ) (none_yet : Bool) (parsed : List (List ℕ)) (rest : List ℕ) (out : Option (List (List ℕ) × List ℕ)) → i < n → after (codes ")") rest ≡ None → with_prefix parsed (fields_at (n - i) none_yet rest) ≡ out → out ≡ with_prefix parsed (next_field_at none_yet rest >>= λ name. with_prefix (name.0 ∷ []) (fields_at (n - (i + 1)) false name.1))
fields-step i n none_yet parsed rest out l h inv =
    let e : n - i ≡ suc (n - (i + 1)) = omega arith in
    sym inv ∙ ap (λ k. with_prefix parsed (fields_at k none_yet rest)) e
    ∙ ap (λ o. with_prefix parsed (fields_after none_yet o rest (fields_at (n - (i + 1)) false))) h

pub fields-fail : (fault : ReadFault) (i n : ℕ) (none_yet : Bool) (parsed : List (List ℕ)) (rest : List ℕ) (out : Option (List (List ℕ) × List ℕ)) → i < n → after (codes ")") rest ≡ None → with_prefix parsed (fields_at (n - i) none_yet rest) ≡ out → IsFaultOfReading fault (next_field_at none_yet rest) → IsFaultOfReading fault out
fields-fail NoMemory i n none_yet parsed rest out l h inv f = tt
fields-fail NotPrinted i n none_yet parsed rest out l h inv f =
    fields-step i n none_yet parsed rest out l h inv
    ∙ ap (λ o. with_prefix parsed (o >>= λ name. with_prefix (name.0 ∷ []) (fields_at (n - (i + 1)) false name.1))) f

pub fields_at-step : (i n : ℕ) (none_yet : Bool) (parsed : List (List ℕ)) (rest : List ℕ) (out : Option (List (List ℕ) × List ℕ)) (name tail : List ℕ) → i < n → after (codes ")") rest ≡ None → with_prefix parsed (fields_at (n - i) none_yet rest) ≡ out → next_field_at none_yet rest ≡ Some (name, tail) → with_prefix (parsed ++ name ∷ []) (fields_at (n - (i + 1)) false tail) ≡ out
fields_at-step i n none_yet parsed rest out name tail l h inv f =
    sym (fields-step i n none_yet parsed rest out l h inv
    ∙ ap (λ o. with_prefix parsed (o >>= λ name. with_prefix (name.0 ∷ []) (fields_at (n - (i + 1)) false name.1))) f
    ∙ with_prefix-twice parsed name (fields_at (n - (i + 1)) false tail))

-- the loop over sections of a message: its end, a fault, and a further section
pub bodies-end : (i n : ℕ) (none_yet : Bool) (parsed : List SectionData) (rest : List ℕ) (out : Option (List SectionData × List ℕ)) → i < n → after (lead none_yet (codes "BODY[")) rest ≡ None → with_prefix parsed (bodies_at (n - i) none_yet rest) ≡ out → out ≡ Some (parsed, rest)
bodies-end i n none_yet parsed rest out l h inv =
    let e : n - i ≡ suc (n - (i + 1)) = omega arith in
    sym inv ∙ ap (λ k. with_prefix parsed (bodies_at k none_yet rest)) e
    ∙ ap (λ o. with_prefix parsed (bodies_after o rest (bodies_at (n - (i + 1)) false))) h
    ∙ (λ k. Some (append_none parsed k, rest))

bodies-step : (i n : ℕ) (none_yet : Bool) (parsed : List SectionData) (rest unread : List ℕ) (out : Option (List SectionData × List ℕ)) → i < n → after (lead none_yet (codes "BODY[")) rest ≡ Some unread → with_prefix parsed (bodies_at (n - i) none_yet rest) ≡ out → out ≡ with_prefix parsed (body_at unread >>= λ part. with_prefix (part.0 ∷ []) (bodies_at (n - (i + 1)) false part.1))
bodies-step i n none_yet parsed rest unread out l h inv =
    let e : n - i ≡ suc (n - (i + 1)) = omega arith in
    sym inv ∙ ap (λ k. with_prefix parsed (bodies_at k none_yet rest)) e
    ∙ ap (λ o. with_prefix parsed (bodies_after o rest (bodies_at (n - (i + 1)) false))) h

pub bodies-fail : (fault : ReadFault) (i n : ℕ) (none_yet : Bool) (parsed : List SectionData) (rest unread : List ℕ) (out : Option (List SectionData × List ℕ)) → i < n → after (lead none_yet (codes "BODY[")) rest ≡ Some unread → with_prefix parsed (bodies_at (n - i) none_yet rest) ≡ out → IsFaultOfReading fault (body_at unread) → IsFaultOfReading fault out
bodies-fail NoMemory i n none_yet parsed rest unread out l h inv f = tt
bodies-fail NotPrinted i n none_yet parsed rest unread out l h inv f =
    bodies-step i n none_yet parsed rest unread out l h inv
    ∙ ap (λ o. with_prefix parsed (o >>= λ part. with_prefix (part.0 ∷ []) (bodies_at (n - (i + 1)) false part.1))) f

pub bodies_at-step : (i n : ℕ) (none_yet : Bool) (parsed : List SectionData) (rest unread : List ℕ) (out : Option (List SectionData × List ℕ)) (part : SectionData) (tail : List ℕ) → i < n → after (lead none_yet (codes "BODY[")) rest ≡ Some unread → with_prefix parsed (bodies_at (n - i) none_yet rest) ≡ out → body_at unread ≡ Some (part, tail) → with_prefix (parsed ++ part ∷ []) (bodies_at (n - (i + 1)) false tail) ≡ out
bodies_at-step i n none_yet parsed rest unread out part tail l h inv f =
    sym (bodies-step i n none_yet parsed rest unread out l h inv
    ∙ ap (λ o. with_prefix parsed (o >>= λ part. with_prefix (part.0 ∷ []) (bodies_at (n - (i + 1)) false part.1))) f
    ∙ with_prefix-twice parsed part (bodies_at (n - (i + 1)) false tail))

counted_by : (b : Bool) (bytes front rest : List ℕ) (n : ℕ) → leb n (length bytes) ≡ b → cond {A = Option (List ℕ × List ℕ)} b (Some (take n bytes, drop n bytes)) None ≡ Some (front, rest) → length front ≡ n
counted_by false bytes front rest n e h = cc
counted_by true bytes front rest n e h =
    let same : ◌≡◌ {A = List ℕ × List ℕ} (take n bytes, drop n bytes) (front, rest) = cc in
    let l : n ≤ length bytes = leb-true _ _ e in
    ap (λ (x : List ℕ × List ℕ). length x.0) (sym same) ∙ length-take-le n bytes l

-- the first n octets are n octets
pub octets_at-length : (n : ℕ) (bytes front rest : List ℕ) → octets_at n bytes ≡ Some (front, rest) → length front ≡ n
octets_at-length n bytes front rest h = counted_by (leb n (length bytes)) bytes front rest n refl h

pub none_some : {X : Type 0} (x : X) → None ≡ Some x → ⊥
none_some x h = cc

pub some_pair : {X Y : Type 0} (a b : X) (c d : Y) → ◌≡◌ {A = Option (X × Y)} (Some (a, c)) (Some (b, d)) → (a ≡ b) × (c ≡ d)
some_pair {X} {Y} a b c d h =
    let pair : ◌≡◌ {A = X × Y} (a, c) (b, d) = cc in
    (ap (λ (x : X × Y). x.0) pair, ap (λ (x : X × Y). x.1) pair)
