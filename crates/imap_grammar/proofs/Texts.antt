use Rattle.std.proofs.Common.{◌≡◌, ℕ, Bool, true, false, cond, ◌||◌, List, [], ◌∷◌, ◌++◌, length, take, drop, Option, Some, None, inl, inr, ap, sym, ◌∙◌, refl, subst, arith, eqb, append_assoc, ◌≤◌, nat_lt, length-append}
use Rattle.std.proofs.lemmas.Bool.{and_parts, and_from, cases_Bool, eqb-true, or_parts, ltb-false, le-ltb}
use Rattle.std.proofs.lemmas.List.{take_at, drop_at, take-append-drop, length-take}
use Rattle.std.proofs.lemmas.Bool.Decides.{nat_tests}
use Rattle.std.specs.List.{list_all}
use Rattle.imap_syntax.specs.Languages.{exactly}
use Rattle.imap_syntax.specs.Strings.{is_in, is_quotable, quoted_escape, quoted, literal, number, number_of, optional_plus, run, text_of, mailbox}
use Rattle.imap_types.specs.Names.{fold_inbox}
use Rattle.imap_syntax.specs.Faults.{begins_with_class}
use Rattle.imap_grammar.specs.Reading.{◌>>=◌, mailbox_at, after, after_plus, with_prefix, quoted_at, run_at, literal_at, octets_at, text_at}
use Rattle.imap_syntax.specs.declared.octet_class.OctetClass.{OctetClass}
use Rattle.imap_syntax.specs.declared.octet_class.OctetClass.TheVariants.{Tag, Atom, Astring, Pattern, Digit, Item}
use Rattle.imap_grammar.proofs.ReaderLaws.{HasPrefix, IsReader, IsWordEnd, map_reads, joined, parts_around, bind_some, chosen, guarded, some_is, after_sound}
use Rattle.imap_grammar.proofs.Spans.{run_sound, run_complete, ends_stop}

-- one octet before the octets that were read
front_some : (b : ℕ) (r : Option (List ℕ × List ℕ)) (x : List ℕ × List ℕ) → with_prefix (b ∷ []) r ≡ Some x → (y : List ℕ × List ℕ) × (r ≡ Some y) × (x.0 ≡ b ∷ y.0) × (x.1 ≡ y.1)
front_some b None x h = cc
front_some b (Some y) x h = let e : ◌≡◌ {A = List ℕ × List ℕ} (b ∷ y.0, y.1) x = cc in (y, refl, sym (ap (λ z. z.0) e), sym (ap (λ z. z.1) e))

special_quotable : (b : ℕ) → ((eqb b 34) || (eqb b 92)) ≡ true → is_quotable b ≡ true
special_quotable b h = grind (arith, nat_tests)

Inside : List ℕ → List ℕ → List ℕ → Type 0
Inside octets value rest = (list_all is_quotable value ≡ true) × (octets ≡ quoted_escape value ++ 34 ∷ rest)

special_step : (b : ℕ) (bs v r v' r' : List ℕ) → ((eqb b 34) || (eqb b 92)) ≡ true → v ≡ b ∷ v' → r ≡ r' → Inside bs v' r' → Inside (92 ∷ b ∷ bs) v r
unfolding Inside
special_step b bs v r v' r' t e f i = rw (e, f) (rw t (and_from _ _ (special_quotable b t) i.0, ap (λ xs. 92 ∷ b ∷ xs) i.1))

plain_special : (b : ℕ) → eqb b 34 ≡ false → eqb b 92 ≡ false → ((eqb b 34) || (eqb b 92)) ≡ false
plain_special b t u = rw (t, u) refl

plain_step : (b : ℕ) (bs v r v' r' : List ℕ) → eqb b 34 ≡ false → eqb b 92 ≡ false → is_quotable b ≡ true → v ≡ b ∷ v' → r ≡ r' → Inside bs v' r' → Inside (b ∷ bs) v r
unfolding Inside
plain_step b bs v r v' r' t u w e f i = rw (e, f) (rw (plain_special b t u) (and_from _ _ w i.0, ap (λ xs. b ∷ xs) i.1))

quoted_sound : (e : Bool) (bs : List ℕ) (x : List ℕ × List ℕ) → quoted_at e bs ≡ Some x → Inside (cond e (92 ∷ bs) bs) x.0 x.1
unfolding Inside
quoted_sound true [] x h = cc
quoted_sound false [] x h = cc
quoted_sound true (b ∷ bs) x h =
    elim (chosen ((eqb b 34) || (eqb b 92)) (with_prefix (b ∷ []) (quoted_at false bs)) None (Some x) h) [
      | inl t ↦
          let y = front_some b (quoted_at false bs) x t.1 in
          special_step b bs x.0 x.1 y.0.0 y.0.1 t.0 y.2 y.3 (quoted_sound false bs y.0 y.1)
      | inr f ↦ absurd cc
    ]
quoted_sound false (b ∷ bs) x h =
    elim (chosen (eqb b 34) (Some ([], bs)) (cond (eqb b 92) (quoted_at true bs) (cond (is_quotable b) (with_prefix (b ∷ []) (quoted_at false bs)) None)) (Some x) h) [
      | inl t ↦
          let e : ◌≡◌ {A = List ℕ × List ℕ} ([], bs) x = cc in
          let k : b ≡ 34 = eqb-true b 34 t.0 in
          rw k (subst (λ (z : List ℕ × List ℕ). Inside (34 ∷ bs) z.0 z.1) e (refl, refl))
      | inr f ↦ elim (chosen (eqb b 92) (quoted_at true bs) (cond (is_quotable b) (with_prefix (b ∷ []) (quoted_at false bs)) None) (Some x) f.1) [
        | inl t ↦
            let k : b ≡ 92 = eqb-true b 92 t.0 in
            rw k (quoted_sound true bs x t.1)
        | inr g ↦ elim (chosen (is_quotable b) (with_prefix (b ∷ []) (quoted_at false bs)) None (Some x) g.1) [
          | inl t ↦
              let y = front_some b (quoted_at false bs) x t.1 in
              plain_step b bs x.0 x.1 y.0.0 y.0.1 f.0 g.0 t.0 y.2 y.3 (quoted_sound false bs y.0 y.1)
          | inr n ↦ absurd cc
        ]
      ]
    ]

quoted_complete : (value rest : List ℕ) → list_all is_quotable value ≡ true → quoted_at false (quoted_escape value ++ 34 ∷ rest) ≡ Some (value, rest)
quoted_complete [] rest h = refl
quoted_complete (b ∷ value) rest h =
    let p = and_parts (is_quotable b) (list_all is_quotable value) h in
    let first : is_quotable b ≡ true = p.0 in
    let i = quoted_complete value rest p.1 in
    elim (cases_Bool ((eqb b 34) || (eqb b 92))) [
      | inl t ↦ rw t (rw t (ap (with_prefix (b ∷ [])) i))
      | inr f ↦
          let q = or_parts (eqb b 34) (eqb b 92) f in
          let no_quote : eqb b 34 ≡ false = q.0 in
          let no_escape : eqb b 92 ≡ false = q.1 in
          rw f (rw (no_quote, no_escape, first) (ap (with_prefix (b ∷ [])) i))
    ]

pub quoted_front_sound : (bs : List ℕ) (x : List ℕ × List ℕ) → quoted_at false bs ≡ Some x → HasPrefix (quoted x.0) (34 ∷ bs) x.1
unfolding Inside
quoted_front_sound bs x h =
    let t = quoted_sound false bs x h in
    (34 ∷ (quoted_escape x.0 ++ 34 ∷ []), (t.0, refl), ap (λ xs. 34 ∷ xs) (t.1 ∙ sym (append_assoc (quoted_escape x.0) (34 ∷ []) x.1)))

pub quoted_front_complete : (octets rest value : List ℕ) → HasPrefix (quoted value) octets rest → (inner : List ℕ) × (octets ≡ 34 ∷ inner) × (quoted_at false inner ≡ Some (value, rest))
quoted_front_complete octets rest value f =
    let e : octets ≡ 34 ∷ (quoted_escape value ++ 34 ∷ rest) = f.2 ∙ ap (λ xs. xs ++ rest) f.1.1 ∙ ap (λ xs. 34 ∷ xs) (append_assoc (quoted_escape value) (34 ∷ []) rest) in
    (quoted_escape value ++ 34 ∷ rest, e, quoted_complete value rest f.1.0)

-- the first n octets
pub octets_sound : (n : ℕ) (octets : List ℕ) (x : List ℕ × List ℕ) → octets_at n octets ≡ Some x → (length x.0 ≡ n) × (octets ≡ x.0 ++ x.1)
octets_sound n octets x h =
    let g = guarded (nat_lt (length octets) n) (Some (take n octets, drop n octets)) x h in
    let le : n ≤ length octets = ltb-false _ _ g.0 in
    subst (λ (y : List ℕ × List ℕ). (length y.0 ≡ n) × (octets ≡ y.0 ++ y.1)) (some_is (take n octets, drop n octets) x g.1) (omega (arith, length-take n octets), sym (take-append-drop n octets))

pub octets_complete : (value rest : List ℕ) → octets_at (length value) (value ++ rest) ≡ Some (value, rest)
octets_complete value rest =
    let f : nat_lt (length (value ++ rest)) (length value) ≡ false = le-ltb _ _ (omega (arith, length-append value rest)) in
    ap (λ b. cond b None (Some (take (length value) (value ++ rest), drop (length value) (value ++ rest)))) f
    ∙ ap (λ (y : List ℕ × List ℕ). Some y) (λ k. (take_at value rest (length value) refl k, drop_at value rest (length value) refl k))

plus_sound : (octets : List ℕ) → HasPrefix optional_plus octets (after_plus octets)
plus_sound [] = ([], inr refl, refl)
plus_sound (b ∷ bs) = elim (cases_Bool (eqb b 43)) [
  | inl t ↦ let k : b ≡ 43 = eqb-true b 43 t in rw t (43 ∷ [], inl refl, ap (λ c. c ∷ bs) k)
  | inr f ↦ rw f ([], inr refl, refl)
]

plus_complete : (octets rest : List ℕ) → HasPrefix optional_plus octets (125 ∷ rest) → after_plus octets ≡ 125 ∷ rest
plus_complete octets rest f = elim f.1 [
  | inl e ↦ ap after_plus (f.2 ∙ ap (λ xs. xs ++ 125 ∷ rest) e)
  | inr e ↦ ap after_plus (f.2 ∙ ap (λ xs. xs ++ 125 ∷ rest) e)
]

-- a literal
pub literal_sound : (octets : List ℕ) (x : List ℕ × List ℕ) → literal_at octets ≡ Some x → HasPrefix (literal x.0) (123 ∷ octets) x.1
unfolding literal_at
literal_sound octets x h =
    let d = bind_some (run_at Digit octets) _ x h in
    let r = bind_some (after (125 ∷ 13 ∷ 10 ∷ []) (after_plus d.0.1)) _ x d.2 in
    let o = octets_sound (number_of 0 d.0.0) r.0 x r.2 in
    let digits = run_sound Digit octets d.0 d.1 in
    let size : HasPrefix (number (length x.0)) octets d.0.1 = (digits.0, (d.0.0, digits.1, sym o.0), digits.2) in
    let value : HasPrefix (exactly x.0) r.0 x.1 = (x.0, refl, o.1) in
    let mark = after_sound (125 ∷ 13 ∷ 10 ∷ []) (after_plus d.0.1) r.0 r.1 in
    joined (exactly (123 ∷ [])) _ (123 ∷ octets) octets x.1 (123 ∷ [], refl, refl)
    (joined (number (length x.0)) _ octets d.0.1 x.1 size
    (joined optional_plus _ d.0.1 (after_plus d.0.1) x.1 (plus_sound d.0.1)
    (joined (exactly (125 ∷ 13 ∷ 10 ∷ [])) (exactly x.0) (after_plus d.0.1) r.0 x.1 mark value)))

begins_plus : (octets rest : List ℕ) → HasPrefix optional_plus octets (125 ∷ rest) → begins_with_class Digit octets ≡ false
begins_plus octets rest f = elim f.1 [
  | inl e ↦ ap (begins_with_class Digit) (f.2 ∙ ap (λ xs. xs ++ 125 ∷ rest) e)
  | inr e ↦ ap (begins_with_class Digit) (f.2 ∙ ap (λ xs. xs ++ 125 ∷ rest) e)
]

pub literal_complete : (octets rest value : List ℕ) → HasPrefix (literal value) octets rest → (inner : List ℕ) × (octets ≡ 123 ∷ inner) × (literal_at inner ≡ Some (value, rest))
unfolding literal_at
literal_complete octets rest value f =
    let p = parts_around (exactly (123 ∷ [])) _ octets rest f in
    let q = parts_around (number (length value)) _ p.0 rest p.2 in
    let r = parts_around optional_plus _ q.0 rest q.2 in
    let s = parts_around (exactly (125 ∷ 13 ∷ 10 ∷ [])) (exactly value) r.0 rest r.2 in
    let tail : r.0 ≡ 125 ∷ 13 ∷ 10 ∷ s.0 = s.1.2 ∙ ap (λ xs. xs ++ s.0) s.1.1 in
    let plus : HasPrefix optional_plus q.0 (125 ∷ 13 ∷ 10 ∷ s.0) = subst (HasPrefix optional_plus q.0) tail r.1 in
    let digits : List ℕ = q.1.1.0 in
    let run_front : HasPrefix (run Digit digits) p.0 q.0 = (q.1.0, q.1.1.1, q.1.2) in
    let e : run_at Digit p.0 ≡ Some (digits, q.0) = run_complete Digit p.0 q.0 digits run_front (begins_plus q.0 (13 ∷ 10 ∷ s.0) plus) in
    let g : after (125 ∷ 13 ∷ 10 ∷ []) (after_plus q.0) ≡ Some s.0 = ap (after (125 ∷ 13 ∷ 10 ∷ [])) (plus_complete q.0 (13 ∷ 10 ∷ s.0) plus) in
    let last : s.0 ≡ value ++ rest = s.2.2 ∙ ap (λ xs. xs ++ rest) s.2.1 in
    let o : octets_at (number_of 0 digits) s.0 ≡ Some (value, rest) = ap (λ n. octets_at n s.0) q.1.1.2 ∙ ap (octets_at (length value)) last ∙ octets_complete value rest in (
      p.0,
      p.1.2 ∙ ap (λ xs. xs ++ p.0) p.1.1,
      ap (λ z. z >>= λ d. after (125 ∷ 13 ∷ 10 ∷ []) (after_plus d.1) >>= λ r. octets_at (number_of 0 d.0) r) e ∙ ap (λ z. z >>= λ r. octets_at (number_of 0 digits) r) g ∙ o,
    )

-- the three forms
pub text_sound : (class : OctetClass) (octets : List ℕ) (x : List ℕ × List ℕ) → text_at class octets ≡ Some x → HasPrefix (text_of class x.0) octets x.1
text_sound class [] x h = cc
text_sound class (b ∷ bs) x h =
    elim (chosen (eqb b 34) (quoted_at false bs) (cond (eqb b 123) (literal_at bs) (run_at class (b ∷ bs))) (Some x) h) [
      | inl t ↦
          let k : b ≡ 34 = eqb-true b 34 t.0 in
          let f = quoted_front_sound bs x t.1 in
          (f.0, inr (inl f.1), ap (λ c. c ∷ bs) k ∙ f.2)
      | inr n ↦ elim (chosen (eqb b 123) (literal_at bs) (run_at class (b ∷ bs)) (Some x) n.1) [
        | inl t ↦
            let k : b ≡ 123 = eqb-true b 123 t.0 in
            let f = literal_sound bs x t.1 in
            (f.0, inr (inr f.1), ap (λ c. c ∷ bs) k ∙ f.2)
        | inr m ↦ let f = run_sound class (b ∷ bs) x m.1 in (f.0, inl f.1, f.2)
      ]
    ]

plain_first : (class : OctetClass) (b : ℕ) (bs : List ℕ) → is_in class b ≡ true → text_at class (b ∷ bs) ≡ run_at class (b ∷ bs)
plain_first Tag b bs h = let q : eqb b 34 ≡ false = grind (arith, nat_tests) in let l : eqb b 123 ≡ false = grind (arith, nat_tests) in rw (q, l) refl
plain_first Atom b bs h = let q : eqb b 34 ≡ false = grind (arith, nat_tests) in let l : eqb b 123 ≡ false = grind (arith, nat_tests) in rw (q, l) refl
plain_first Astring b bs h = let q : eqb b 34 ≡ false = grind (arith, nat_tests) in let l : eqb b 123 ≡ false = grind (arith, nat_tests) in rw (q, l) refl
plain_first Pattern b bs h = let q : eqb b 34 ≡ false = grind (arith, nat_tests) in let l : eqb b 123 ≡ false = grind (arith, nat_tests) in rw (q, l) refl
plain_first Digit b bs h = let q : eqb b 34 ≡ false = grind (arith, nat_tests) in let l : eqb b 123 ≡ false = grind (arith, nat_tests) in rw (q, l) refl
plain_first Item b bs h = let q : eqb b 34 ≡ false = grind (arith, nat_tests) in let l : eqb b 123 ≡ false = grind (arith, nat_tests) in rw (q, l) refl

plain_complete : (class : OctetClass) (octets rest value : List ℕ) → HasPrefix (run class value) octets rest → IsWordEnd rest → text_at class octets ≡ Some (value, rest)
plain_complete class octets rest [] f s = absurd (f.1.0 refl)
plain_complete class octets rest (b ∷ value) f s =
    let e : octets ≡ b ∷ (value ++ rest) = f.2 ∙ ap (λ xs. xs ++ rest) f.1.2 in
    let p = and_parts (is_in class b) (list_all (is_in class) value) f.1.1 in
    ap (text_at class) e ∙ plain_first class b (value ++ rest) p.0 ∙ ap (run_at class) (sym e) ∙ run_complete class octets rest (b ∷ value) f (ends_stop class rest s)

pub text_complete : (class : OctetClass) (octets rest value : List ℕ) → HasPrefix (text_of class value) octets rest → IsWordEnd rest → text_at class octets ≡ Some (value, rest)
text_complete class octets rest value f s = elim f.1 [
  | inl r ↦ plain_complete class octets rest value (f.0, r, f.2) s
  | inr t ↦ elim t [
    | inl q ↦ let g = quoted_front_complete octets rest value (f.0, q, f.2) in ap (text_at class) g.1 ∙ g.2
    | inr l ↦ let g = literal_complete octets rest value (f.0, l, f.2) in ap (text_at class) g.1 ∙ g.2
  ]
]

pub text_reads : (class : OctetClass) → IsReader (text_at class) (text_of class) IsWordEnd
text_reads class = record { sound = text_sound class; complete = text_complete class }

-- a name
pub mailbox_reads : IsReader mailbox_at mailbox IsWordEnd
mailbox_reads = map_reads (text_reads Astring) fold_inbox mailbox (λ value text h. (value, h, refl)) (λ it text h. (h.0, h.1, h.2))
