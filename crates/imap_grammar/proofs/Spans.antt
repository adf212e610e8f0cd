use Rattle.std.proofs.Common.{◌≡◌, ◌≢◌, ℕ, Bool, true, false, cond, not, List, [], ◌∷◌, ◌++◌, Some, None, inl, inr, ap, ◌∙◌, refl, subst, arith}
use Rattle.std.proofs.lemmas.Bool.{and_parts, and_from, cases_Bool}
use Rattle.std.proofs.lemmas.Bool.Decides.{nat_tests}
use Rattle.std.specs.List.{list_all}
use Rattle.imap_syntax.specs.Faults.{begins_with_class}
use Rattle.imap_grammar.specs.Reading.{span, is_nil, run_at}
use Rattle.imap_syntax.specs.Strings.{is_in, is_pattern_octet, run}
use Rattle.imap_syntax.specs.declared.octet_class.OctetClass.{OctetClass}
use Rattle.imap_syntax.specs.declared.octet_class.OctetClass.TheVariants.{Tag, Atom, Astring, Pattern, Digit, Item}
use Rattle.imap_grammar.proofs.ReaderLaws.{HasPrefix, IsReader, guarded, some_is, IsWordEnd}

pub span_parts : (p : ℕ → Bool) (bs : List ℕ) → bs ≡ (span p bs).0 ++ (span p bs).1
span_parts p [] = refl
span_parts p (b ∷ bs) = elim (cases_Bool (p b)) [ inl t ↦ rw t (ap (λ xs. b ∷ xs) (span_parts p bs)) | inr f ↦ rw f refl ]

pub span_all : (p : ℕ → Bool) (bs : List ℕ) → list_all p (span p bs).0 ≡ true
span_all p [] = refl
span_all p (b ∷ bs) = elim (cases_Bool (p b)) [ inl t ↦ rw t (and_from _ _ t (span_all p bs)) | inr f ↦ rw f refl ]

pub span_stops : (class : OctetClass) (bs : List ℕ) → begins_with_class class (span (is_in class) bs).1 ≡ false
span_stops class [] = refl
span_stops class (b ∷ bs) = elim (cases_Bool (is_in class b)) [ inl t ↦ rw t (span_stops class bs) | inr f ↦ rw f f ]

pub span_none : (class : OctetClass) (rest : List ℕ) → begins_with_class class rest ≡ false → span (is_in class) rest ≡ ([], rest)
span_none class [] h = refl
span_none class (b ∷ bs) h = rw h refl

pub span_complete : (class : OctetClass) (front rest : List ℕ) → list_all (is_in class) front ≡ true → begins_with_class class rest ≡ false → span (is_in class) (front ++ rest) ≡ (front, rest)
span_complete class [] rest a h = span_none class rest h
span_complete class (b ∷ front) rest a h =
    let p = and_parts (is_in class b) (list_all (is_in class) front) a in
    let first : is_in class b ≡ true = p.0 in
    rw first (λ k. let s = span_complete class front rest p.1 h k in (b ∷ s.0, s.1))

not_nil : (xs : List ℕ) → is_nil xs ≡ false → xs ≢ []
not_nil [] h = cc
not_nil (x ∷ xs) h = λ e. cc

is_nil-not : (xs : List ℕ) → xs ≢ [] → is_nil xs ≡ false
is_nil-not [] h = absurd (h refl)
is_nil-not (x ∷ xs) h = refl

StopsAt : OctetClass → List ℕ → Type 0
StopsAt class rest = begins_with_class class rest ≡ false

pub run_sound : (class : OctetClass) (octets : List ℕ) (x : List ℕ × List ℕ) → run_at class octets ≡ Some x → HasPrefix (run class x.0) octets x.1
run_sound class octets x h =
    let g = guarded (is_nil (span (is_in class) octets).0) (Some (span (is_in class) octets)) x h in
    subst (λ (y : List ℕ × List ℕ). HasPrefix (run class y.0) octets y.1) (some_is (span (is_in class) octets) x g.1)
    ((span (is_in class) octets).0, (not_nil _ g.0, span_all (is_in class) octets, refl), span_parts (is_in class) octets)

pub run_complete : (class : OctetClass) (octets rest value : List ℕ) → HasPrefix (run class value) octets rest → begins_with_class class rest ≡ false → run_at class octets ≡ Some (value, rest)
run_complete class octets rest value f s =
    let e : octets ≡ value ++ rest = f.2 ∙ ap (λ xs. xs ++ rest) f.1.2 in
    let g : span (is_in class) octets ≡ (value, rest) = ap (span (is_in class)) e ∙ span_complete class value rest f.1.1 s in
    ap (λ (y : List ℕ × List ℕ). cond (is_nil y.0) None (Some y)) g ∙ ap (λ b. cond b None (Some (value, rest))) (is_nil-not value f.1.0)

-- each class has only octets of patterns
pub pattern_octet : (class : OctetClass) (b : ℕ) → is_in class b ≡ true → is_pattern_octet b ≡ true
pattern_octet Tag b h = grind (arith, nat_tests)
pattern_octet Atom b h = grind (arith, nat_tests)
pattern_octet Astring b h = grind (arith, nat_tests)
pattern_octet Pattern b h = h
pattern_octet Digit b h = grind (arith, nat_tests)
pattern_octet Item b h = grind (arith, nat_tests)

pub ends_stop : (class : OctetClass) (rest : List ℕ) → IsWordEnd rest → begins_with_class class rest ≡ false
ends_stop class [] h = refl
ends_stop class (b ∷ bs) h = elim (cases_Bool (is_in class b)) [ inl t ↦ absurd (let e : not true ≡ true = subst (λ c. not c ≡ true) (pattern_octet class b t) h in cc) | inr f ↦ f ]

pub run_reads : (class : OctetClass) → IsReader (run_at class) (run class) IsWordEnd
run_reads class = record { sound = run_sound class; complete = λ octets rest value f s. run_complete class octets rest value f (ends_stop class rest s) }
