-- A reader and a form: what is read has the form, and what has the form is read.
use Rattle.std.proofs.Common.{◌&&◌, ◌||◌, arith, ◌≡◌, ℕ, Bool, true, false, cond, not, List, [], ◌∷◌, ◌++◌, Option, Some, None, inl, inr, ◌⊎◌, ap, sym, ◌∙◌, refl, subst, append_assoc, eqb}
use Rattle.std.proofs.lemmas.Bool.{eqb-true, eq-eqb}
use Rattle.std.proofs.lemmas.List.{append-nil}
use Rattle.std.proofs.lemmas.Bool.Decides.{nat_tests}
use Rattle.imap_syntax.specs.Languages.{◌⌢◌, exactly, nothing, sp, in_parens, optional}
use Rattle.imap_grammar.specs.Reading.{◌>>=◌, after, before, both, enclosed_at, map_read, parens_at, peeked_at, follows_space, spaced}
use Rattle.imap_syntax.specs.Strings.{begins_with, is_pattern_octet}

-- the octets are a text of the language and then the rest
abbrev pub HasPrefix : (List ℕ → Type 0) → List ℕ → List ℕ → Type 0
HasPrefix P octets rest = (text : List ℕ) × P text × (octets ≡ text ++ rest)

pub joined : (P Q : List ℕ → Type 0) (octets mid rest : List ℕ) → HasPrefix P octets mid → HasPrefix Q mid rest → HasPrefix (P ⌢ Q) octets rest
joined P Q octets mid rest p q =
    (p.0 ++ q.0, (p.0, q.0, p.1, q.1, refl), p.2 ∙ ap (λ xs. p.0 ++ xs) q.2 ∙ sym (append_assoc p.0 q.0 rest))

pub parts_around : (P Q : List ℕ → Type 0) (octets rest : List ℕ) → HasPrefix (P ⌢ Q) octets rest → (mid : List ℕ) × HasPrefix P octets mid × HasPrefix Q mid rest
parts_around P Q octets rest f =
    (f.1.1 ++ rest, (f.1.0, f.1.2, f.2 ∙ ap (λ xs. xs ++ rest) f.1.4 ∙ append_assoc f.1.0 f.1.1 rest), (f.1.1, f.1.3, refl))

-- a prefix that leaves no rest is all octets
pub whole_from : (P : List ℕ → Type 0) (octets : List ℕ) → HasPrefix P octets [] → P octets
whole_from P octets f = subst P (sym (f.2 ∙ append-nil f.0)) f.1

pub whole_to : (P : List ℕ → Type 0) (octets : List ℕ) → P octets → HasPrefix P octets []
whole_to P octets p = (octets, p, sym (append-nil octets))

-- steps that may fail, one after another
pub bind_some : {A B : Type 0} (r : Option A) (f : A → Option B) (y : B) → (r >>= f) ≡ Some y → (x : A) × (r ≡ Some x) × (f x ≡ Some y)
bind_some None f y h = cc
bind_some (Some x) f y h = (x, refl, h)

pub chosen : {A : Type 0} (b : Bool) (x y z : A) → cond b x y ≡ z → ((b ≡ true) × (x ≡ z)) ⊎ ((b ≡ false) × (y ≡ z))
chosen true x y z h = inl (refl, h)
chosen false x y z h = inr (refl, h)

pub guarded : {A : Type 0} (b : Bool) (r : Option A) (y : A) → cond b None r ≡ Some y → (b ≡ false) × (r ≡ Some y)
guarded true r y h = cc
guarded false r y h = (refl, h)

pub some_is : {A : Type 0} (x y : A) → ◌≡◌ {A = Option A} (Some x) (Some y) → x ≡ y
some_is x y h = cc

-- the fixed octets that were skipped
pub after_sound : (ps octets rest : List ℕ) → after ps octets ≡ Some rest → HasPrefix (exactly ps) octets rest
after_sound [] octets rest h = ([], refl, cc)
after_sound (p ∷ ps) [] rest h = cc
after_sound (p ∷ ps) (b ∷ bs) rest h =
    elim (chosen (eqb b p) (after ps bs) None (Some rest) h) [
      | inl t ↦
          let e : b ≡ p = eqb-true b p t.0 in
          let f = after_sound ps bs rest t.1 in
          (p ∷ ps, refl, λ k. e k ∷ (f.2 ∙ ap (λ xs. xs ++ rest) f.1) k)
      | inr f ↦ absurd cc
    ]

after_itself : (ps rest : List ℕ) → after ps (ps ++ rest) ≡ Some rest
after_itself [] rest = refl
after_itself (p ∷ ps) rest = rw (eq-eqb p p refl) (after_itself ps rest)

pub after_complete : (ps octets rest : List ℕ) → HasPrefix (exactly ps) octets rest → after ps octets ≡ Some rest
after_complete ps octets rest f = ap (after ps) (f.2 ∙ ap (λ xs. xs ++ rest) f.1) ∙ after_itself ps rest

pub record IsReader {A : Type 0} (read : List ℕ → Option (A × List ℕ)) (form : A → List ℕ → Type 0) (stops : List ℕ → Type 0) : Type 0 where
  pub sound : (octets : List ℕ) (x : A × List ℕ) → read octets ≡ Some x → HasPrefix (form x.0) octets x.1
  pub complete : (octets rest : List ℕ) (value : A) → HasPrefix (form value) octets rest → stops rest → read octets ≡ Some (value, rest)

-- the rest doesn't begin with an octet of words
abbrev pub ends : List ℕ → Bool
ends [] = false
ends (octet ∷ octets) = not (is_pattern_octet octet)

abbrev pub IsWordEnd : List ℕ → Type 0
IsWordEnd rest = ends rest ≡ true

pub sp_ends : (Q : List ℕ → Type 0) (octets rest : List ℕ) → HasPrefix (sp ⌢ Q) octets rest → IsWordEnd octets
sp_ends Q octets rest f =
    let p = parts_around sp Q octets rest f in
    ap ends (p.1.2 ∙ ap (λ xs. xs ++ p.0) p.1.1)

module _ {A : Type 0} {read : List ℕ → Option (A × List ℕ)} {form : A → List ℕ → Type 0} {stops : List ℕ → Type 0} (reads : IsReader read form stops) where
  pub spaced_reads : IsReader (spaced read) (λ value. sp ⌢ form value) stops
  spaced_reads = record {
    sound = λ octets x h.
        let a = bind_some (after (32 ∷ []) octets) read x h in
        joined sp (form x.0) octets a.0 x.1 (after_sound (32 ∷ []) octets a.0 a.1) (reads.sound a.0 x a.2);
    complete = λ octets rest value f s.
        let p = parts_around sp (form value) octets rest f in
        ap (λ r. r >>= read) (after_complete (32 ∷ []) octets p.0 p.1) ∙ reads.complete p.0 rest value p.2 s;
  }

  -- a reader also satisfies a stronger condition on the rest
  pub stopping : (more : List ℕ → Type 0) → ((rest : List ℕ) → more rest → stops rest) → IsReader read form more
  stopping more h = record { sound = reads.sound; complete = λ octets rest value f s. reads.complete octets rest value f (h rest s) }

  pub both_reads : {B : Type 0} {next : List ℕ → Option (B × List ℕ)} {form_next : B → List ℕ → Type 0} {stops_next : List ℕ → Type 0} → IsReader next form_next stops_next
      → ((octets rest : List ℕ) (value : B) → HasPrefix (form_next value) octets rest → stops_next rest → stops octets) → IsReader (both read next) (λ p. form p.0 ⌢ form_next p.1) stops_next
  both_reads {B} {next} {form_next} {stops_next} others begins_with = record {
    sound = λ octets x h.
        let a = bind_some (read octets) _ x h in
        let b = bind_some (next a.0.1) _ x a.2 in
        let e = some_is ((a.0.0, b.0.0), b.0.1) x b.2 in
        subst (λ (y : (A × B) × List ℕ). HasPrefix (form y.0.0 ⌢ form_next y.0.1) octets y.1) e
        (joined (form a.0.0) (form_next b.0.0) octets a.0.1 b.0.1 (reads.sound octets a.0 a.1) (others.sound a.0.1 b.0 b.1));
    complete = λ octets rest value f s.
        let p = parts_around (form value.0) (form_next value.1) octets rest f in
        let e = reads.complete octets p.0 value.0 p.1 (begins_with p.0 rest value.1 p.2 s) in
        let g = others.complete p.0 rest value.1 p.2 s in
        ap (λ r. r >>= λ first. next first.1 >>= λ second. Some ((first.0, second.0), second.1)) e ∙ ap (λ r. r >>= λ second. Some ((value.0, second.0), second.1)) g;
  }

  pub map_reads : {B : Type 0} (make : A → B) (form_made : B → List ℕ → Type 0) → ((value : A) (text : List ℕ) → form value text → form_made (make value) text)
      → ((it : B) (text : List ℕ) → form_made it text → (value : A) × form value text × (make value ≡ it)) → IsReader (map_read make read) form_made stops
  map_reads {B} make form_made forward back = record {
    sound = λ octets x h.
        let a = bind_some (read octets) _ x h in
        let e = some_is (make a.0.0, a.0.1) x a.2 in
        let f = reads.sound octets a.0 a.1 in
        subst (λ (y : B × List ℕ). HasPrefix (form_made y.0) octets y.1) e (f.0, forward a.0.0 f.0 f.1, f.2);
    complete = λ octets rest it f s.
        let b = back it f.0 f.1 in
        let e = reads.complete octets rest b.0 (f.0, b.1, f.2) s in
        ap (λ r. r >>= λ first. Some (make first.0, first.1)) e ∙ ap (λ v. Some (v, rest)) b.2;
  }

-- the rest begins with `)` or CR
abbrev pub closes : List ℕ → Bool
closes [] = false
closes (octet ∷ octets) = (eqb octet 41) || (eqb octet 13)

abbrev pub IsArgEnd : List ℕ → Type 0
IsArgEnd rest = closes rest ≡ true

close_ends : (b : ℕ) → ((eqb b 41) || (eqb b 13)) ≡ true → not (is_pattern_octet b) ≡ true
close_ends b h = grind (arith, nat_tests)

pub closes_ends : (rest : List ℕ) → IsArgEnd rest → IsWordEnd rest
closes_ends [] h = cc
closes_ends (b ∷ bs) h = close_ends b h

close_no : (b : ℕ) → ((eqb b 41) || (eqb b 13)) ≡ true → eqb b 32 ≡ false
close_no b h = grind (arith, nat_tests)

pub closes_no_space : (rest : List ℕ) → IsArgEnd rest → begins_with 32 rest ≡ false
closes_no_space [] h = refl
closes_no_space (b ∷ bs) h = close_no b h

-- a prefix that is exactly these octets
pub exactly_is : (ps octets rest : List ℕ) → HasPrefix (exactly ps) octets rest → octets ≡ ps ++ rest
exactly_is ps octets rest f = f.2 ∙ ap (λ xs. xs ++ rest) f.1

pub front_exactly : (ps rest : List ℕ) → HasPrefix (exactly ps) (ps ++ rest) rest
front_exactly ps rest = (ps, refl, refl)

-- an empty prefix
pub with_nothing : (P : List ℕ → Type 0) (text : List ℕ) → P text → (nothing ⌢ P) text
with_nothing P text p = ([], text, refl, p, refl)

pub without_nothing : (P : List ℕ → Type 0) (octets rest : List ℕ) → HasPrefix (nothing ⌢ P) octets rest → HasPrefix P octets rest
without_nothing P octets rest f =
    let p = parts_around nothing P octets rest f in
    let e : octets ≡ p.0 = p.1.2 ∙ ap (λ xs. xs ++ p.0) p.1.1 in
    subst (λ o. HasPrefix P o rest) (sym e) p.2

pub to_end : {A : Type 0} {read : List ℕ → Option (A × List ℕ)} {form : A → List ℕ → Type 0} → IsReader read form IsWordEnd → IsReader read form IsArgEnd
to_end reads = stopping reads IsArgEnd closes_ends

-- A value between two octets.
pub enclosed_reads : {A : Type 0} {read : List ℕ → Option (A × List ℕ)} {form : A → List ℕ → Type 0} (opening closing : ℕ) → IsReader read form (λ rest. begins_with closing rest ≡ true) → (stops : List ℕ → Type 0)
    → IsReader (enclosed_at opening closing read) (λ value. exactly (opening ∷ []) ⌢ form value ⌢ exactly (closing ∷ [])) stops
enclosed_reads {A} {read} {form} opening closing reads stops = record {
  sound = λ octets x h.
      let a = bind_some (after (opening ∷ []) octets) _ x h in
      let b = bind_some (read a.0) _ x a.2 in
      let c = bind_some (after (closing ∷ []) b.0.1) _ x b.2 in
      let e = some_is (b.0.0, c.0) x c.2 in
      subst (λ (y : A × List ℕ). HasPrefix (exactly (opening ∷ []) ⌢ form y.0 ⌢ exactly (closing ∷ [])) octets y.1) e
      (joined (exactly (opening ∷ [])) _ octets a.0 c.0 (after_sound (opening ∷ []) octets a.0 a.1)
      (joined (form b.0.0) _ a.0 b.0.1 c.0 (reads.sound a.0 b.0 b.1) (after_sound (closing ∷ []) b.0.1 c.0 c.1)));
  complete = λ octets rest value f s.
      let p = parts_around (exactly (opening ∷ [])) _ octets rest f in
      let q = parts_around (form value) (exactly (closing ∷ [])) p.0 rest p.2 in
      let close : begins_with closing q.0 ≡ true = ap (begins_with closing) (exactly_is (closing ∷ []) q.0 rest q.2) ∙ eq-eqb closing closing refl in
      ap (λ r. r >>= before read (after (closing ∷ []))) (after_complete (opening ∷ []) octets p.0 p.1)
      ∙ ap (λ r. r >>= λ first. after (closing ∷ []) first.1 >>= λ rest. Some (first.0, rest)) (reads.complete p.0 q.0 value q.1 close)
      ∙ ap (λ r. r >>= λ rest. Some (value, rest)) (after_complete (closing ∷ []) q.0 rest q.2);
}

-- the rest begins with `)`
abbrev pub BeginsWithClosingParen : List ℕ → Type 0
BeginsWithClosingParen rest = begins_with 41 rest ≡ true

shut_or : (b : ℕ) → eqb b 41 ≡ true → ((eqb b 41) || (eqb b 13)) ≡ true
shut_or b h = ap (λ c. c || (eqb b 13)) h

pub closing_paren_closes : (rest : List ℕ) → BeginsWithClosingParen rest → IsArgEnd rest
closing_paren_closes [] h = cc
closing_paren_closes (b ∷ bs) h = shut_or b h

pub parens_reads : {A : Type 0} {read : List ℕ → Option (A × List ℕ)} {form : A → List ℕ → Type 0} → IsReader read form IsArgEnd → {stops : List ℕ → Type 0} → IsReader (parens_at read) (λ value. in_parens (form value)) stops
parens_reads reads {stops} = enclosed_reads 40 41 (stopping reads BeginsWithClosingParen closing_paren_closes) stops

pub front_begins : (b : ℕ) (Q : List ℕ → Type 0) (octets rest : List ℕ) → HasPrefix (exactly (b ∷ []) ⌢ Q) octets rest → begins_with b octets ≡ true
front_begins b Q octets rest f =
    let p = parts_around (exactly (b ∷ [])) Q octets rest f in
    ap (begins_with b) (exactly_is (b ∷ []) octets p.0 p.1) ∙ eq-eqb b b refl

-- a space and an octet that are looked for
pub follows_space_at : (mark : ℕ) (octets : List ℕ) → begins_with mark octets ≡ true → follows_space mark (32 ∷ octets) ≡ true
follows_space_at mark [] h = h
follows_space_at mark (b ∷ bs) h = h

pub follows_space_no : (mark : ℕ) (octets : List ℕ) → begins_with mark octets ≡ false → follows_space mark (32 ∷ octets) ≡ false
follows_space_no mark [] h = refl
follows_space_no mark (b ∷ bs) h = h

pub closes_no_peek : (mark : ℕ) (rest : List ℕ) → IsArgEnd rest → follows_space mark rest ≡ false
closes_no_peek mark [] h = refl
closes_no_peek mark (b ∷ []) h = refl
closes_no_peek mark (b ∷ c ∷ bs) h = ap (λ d. d && (eqb c mark)) (close_no b h)

module _ {A : Type 0} {read : List ℕ → Option (A × List ℕ)} {form : A → List ℕ → Type 0} {stops : List ℕ → Type 0} (mark : ℕ) (reads : IsReader read form stops)
    (first : (value : A) (octets rest : List ℕ) → HasPrefix (form value) octets rest → begins_with mark octets ≡ true)
    (end : List ℕ → Type 0) (stops_at_end : (rest : List ℕ) → end rest → stops rest) (no : (rest : List ℕ) → end rest → follows_space mark rest ≡ false) where
  peeked_complete : (value : Option A) (octets rest : List ℕ) → HasPrefix (optional form value) octets rest → end rest → peeked_at mark read octets ≡ Some (value, rest)
  peeked_complete None octets rest f s =
      ap (peeked_at mark read) (exactly_is [] octets rest f) ∙ ap (λ c. cond c (map_read Some (spaced read) rest) (Some (None, rest))) (no rest s)
  peeked_complete (Some v) octets rest f s =
      let p = parts_around sp (form v) octets rest f in
      let e : follows_space mark octets ≡ true = ap (follows_space mark) (exactly_is (32 ∷ []) octets p.0 p.1) ∙ follows_space_at mark p.0 (first v p.0 rest p.2) in
      ap (λ c. cond c (map_read Some (spaced read) octets) (Some (None, octets))) e
      ∙ ap (λ r. r >>= λ first. Some (Some first.0, first.1)) ((spaced_reads reads).complete octets rest v f (stops_at_end rest s))

  pub peeked_reads : IsReader (peeked_at mark read) (optional form) end
  peeked_reads = record {
    sound = λ octets x h.
        elim (chosen (follows_space mark octets) (map_read Some (spaced read) octets) (Some (None, octets)) (Some x) h) [
          | inl t ↦
              let a = bind_some (spaced read octets) _ x t.1 in
              subst (λ (y : Option A × List ℕ). HasPrefix (optional form y.0) octets y.1) (some_is (Some a.0.0, a.0.1) x a.2) ((spaced_reads reads).sound octets a.0 a.1)
          | inr n ↦ subst (λ (y : Option A × List ℕ). HasPrefix (optional form y.0) octets y.1) (some_is (None, octets) x n.1) ([], refl, refl)
        ];
    complete = λ octets rest value f s. peeked_complete value octets rest f s;
  }

pub optional_ends : {A : Type 0} (form : A → List ℕ → Type 0) (value : Option A) (octets rest : List ℕ) → HasPrefix (optional form value) octets rest → IsWordEnd rest → IsWordEnd octets
optional_ends form None octets rest f s = subst IsWordEnd (sym (exactly_is [] octets rest f)) s
optional_ends form (Some v) octets rest f s = sp_ends (form v) octets rest f

-- The key that is read first determines how the rest is read.
pub keyed_reads : {A B : Type 0} {read : List ℕ → Option (A × List ℕ)} {form : A → List ℕ → Type 0} {stops : List ℕ → Type 0} → IsReader read form stops
    → (next : A → List ℕ → Option (B × List ℕ)) (key : B → A) (form_next : B → List ℕ → Type 0) (stops_next : List ℕ → Type 0)
    → ((first : A) (octets : List ℕ) (x : B × List ℕ) → next first octets ≡ Some x → (key x.0 ≡ first) × HasPrefix (form_next x.0) octets x.1)
    → ((it : B) (octets rest : List ℕ) → HasPrefix (form_next it) octets rest → stops_next rest → next (key it) octets ≡ Some (it, rest))
    → ((it : B) (octets rest : List ℕ) → HasPrefix (form_next it) octets rest → stops_next rest → stops octets)
    → IsReader (λ octets. read octets >>= λ first. next first.0 first.1) (λ it. form (key it) ⌢ form_next it) stops_next
keyed_reads {A} {B} {read} {form} {stops} reads next key form_next stops_next sound complete begins_with = record {
  sound = λ octets x h.
      let a = bind_some (read octets) _ x h in
      let t = sound a.0.0 a.0.1 x a.2 in
      joined (form (key x.0)) (form_next x.0) octets a.0.1 x.1 (subst (λ v. HasPrefix (form v) octets a.0.1) (sym t.0) (reads.sound octets a.0 a.1)) t.1;
  complete = λ octets rest it f s.
      let p = parts_around (form (key it)) (form_next it) octets rest f in
      ap (λ r. r >>= λ first. next first.0 first.1) (reads.complete octets p.0 (key it) p.1 (begins_with it p.0 rest p.2 s)) ∙ complete it p.0 rest p.2 s;
}
