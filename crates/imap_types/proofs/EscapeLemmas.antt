use Rattle.std.proofs.Common.{◌≡◌, ◌&&◌, nat_lt, ◌++◌, ◌+◌, ◌*◌, ◌/◌, ◌%◌, ◌<◌, ◌⊎◌, inl, inr, ℕ, Bool, true, false, not, cond, List, [], ◌∷◌, Option, Some, None, refl, sym, ap, ◌∙◌, subst, arith, eqb-true, Result, Ok, Err, IfOk, IfErr, append_assoc, length, take, drop, get_or, ◌≤◌, ◌-◌}
use Rattle.std.proofs.Math.Dec.{leb}
use Rattle.std.proofs.Math.Seq.{take-add}
use Rattle.std.proofs.lemmas.List.{take-append-drop}
use Rattle.std.proofs.lemmas.List.Folds.{list_all-append}
use Rattle.std.specs.List.{list_all}
use Rattle.std.proofs.lemmas.Bool.{and_parts, and_from, cases_Bool}
use Rattle.std.proofs.lemmas.Bool.Decides.{nat_tests}
use Rattle.std.proofs.lemmas.Grind.{common_steps}
use Rattle.imap_types.specs.Escape.{AreOctets, FailsToRead, IsReading, escape_text, escape_octet, hex_digit, hex_octet, hex_value, is_escape, is_hex, is_plain, unescape, with_octets_before}
use Rattle.imap_types.specs.declared.escape.Escape.{Escape}
use Rattle.imap_types.specs.declared.escape.EscapeFault.{EscapeFault}
use Rattle.imap_types.specs.declared.escape.EscapeFault.TheVariants.{NoMemory, NotEscaped}
use Rattle.imap_types.specs.declared.escape.Escape.TheVariants.{Field, Text}

-- an octet that stands for itself is read as itself
pub unescaped_plain : (e : Escape) (b : ℕ) (rest : List ℕ) → is_plain e b ≡ true → unescape e (b ∷ rest) ≡ with_octets_before (b ∷ []) (unescape e rest)
unescaped_plain e b [] p = rw p refl
unescaped_plain e b (c ∷ []) p = rw p refl
unescaped_plain e b (c ∷ d ∷ rest) p = rw p refl

pub unescaped_none : (e : Escape) (b c : ℕ) → is_plain e b ≡ false → (unescape e (b ∷ []) ≡ None) × (unescape e (b ∷ c ∷ []) ≡ None)
unescaped_none e b c p = (rw p refl, rw p refl)

pub unescaped_pair : (e : Escape) (a b c : ℕ) (rest : List ℕ) → is_plain e a ≡ false → is_escape e a b c ≡ true → unescape e (a ∷ b ∷ c ∷ rest) ≡ with_octets_before (hex_octet b c ∷ []) (unescape e rest)
unescaped_pair e a b c rest p q = rw (p, q) refl

pub unescaped_no_pair : (e : Escape) (a b c : ℕ) (rest : List ℕ) → is_plain e a ≡ false → is_escape e a b c ≡ false → unescape e (a ∷ b ∷ c ∷ rest) ≡ None
unescaped_no_pair e a b c rest p q = rw (p, q) refl

pub plain_small : (e : Escape) (b : ℕ) → is_plain e b ≡ true → b < 126
plain_small Field b p = grind (arith, nat_tests)
plain_small Text b p = grind (arith, nat_tests)

tilde_not_plain : (e : Escape) → is_plain e 126 ≡ false
tilde_not_plain Field = refl
tilde_not_plain Text = refl

digit_back : (b : ℕ) → is_hex b ≡ true → (hex_digit (hex_value b) ≡ b) × (hex_value b < 16)
digit_back b h = (grind (arith, nat_tests), grind (arith, nat_tests))

digit_on : (n : ℕ) → n < 16 → (is_hex (hex_digit n) ≡ true) × (hex_value (hex_digit n) ≡ n)
digit_on n h = (grind (arith, nat_tests), grind (arith, nat_tests))

pub escaped_plain : (e : Escape) (b : ℕ) → is_plain e b ≡ true → escape_octet e b ≡ b ∷ []
escaped_plain e b p = rw p refl

pub escaped_other : (e : Escape) (b : ℕ) → is_plain e b ≡ false → escape_octet e b ≡ 126 ∷ hex_digit (b / 16) ∷ hex_digit (b % 16) ∷ []
escaped_other e b p = rw p refl

quotient : (h l : ℕ) → l < 16 → ((h * 16 + l) / 16 ≡ h) × ((h * 16 + l) % 16 ≡ l)
quotient h l k = (omega arith, omega arith)

back : (n : ℕ) → n / 16 * 16 + n % 16 ≡ n
back n = omega arith

not_true : (b : Bool) → not b ≡ true → b ≡ false
not_true true h = cc
not_true false h = refl

-- three octets that the test accepts are the spelling of their octet
escape_spells : (e : Escape) (a b c : ℕ) → is_escape e a b c ≡ true → (hex_octet b c < 256) × (escape_octet e (hex_octet b c) ≡ a ∷ b ∷ c ∷ [])
escape_spells e a b c h =
    let p = and_parts _ _ h in
    let q = and_parts _ _ p.1 in
    let r = and_parts _ _ q.1 in
    let k : a ≡ 126 = eqb-true a 126 p.0 in
    let b' = digit_back b q.0 in
    let c' = digit_back c r.0 in
    let d = quotient (hex_value b) (hex_value c) c'.1 in
    let m : is_plain e (hex_octet b c) ≡ false = not_true _ r.1 in (
      omega (arith, b'.1, c'.1),
      escaped_other e (hex_octet b c) m ∙ (λ i. sym k i ∷ (ap hex_digit d.0 ∙ b'.0) i ∷ (ap hex_digit d.1 ∙ c'.0) i ∷ []),
    )

-- the test accepts the spelling of an octet that doesn't stand for itself
spells_escape : (e : Escape) (octet : ℕ) → octet < 256 → is_plain e octet ≡ false → (is_escape e 126 (hex_digit (octet / 16)) (hex_digit (octet % 16)) ≡ true) × (hex_octet (hex_digit (octet / 16)) (hex_digit (octet % 16)) ≡ octet)
spells_escape e octet h p =
    let b = digit_on (octet / 16) (omega arith) in
    let c = digit_on (octet % 16) (omega arith) in
    let k : hex_octet (hex_digit (octet / 16)) (hex_digit (octet % 16)) ≡ octet = (λ i. b.1 i * 16 + c.1 i) ∙ back octet in
    (and_from _ _ b.0 (and_from _ _ c.0 (ap (λ n. not (is_plain e n)) k ∙ ap not p)), k)

pub front_some : (front : List ℕ) (r : Option (List ℕ)) (x : List ℕ) → with_octets_before front r ≡ Some x → (y : List ℕ) × (r ≡ Some y) × (x ≡ front ++ y)
front_some front None x h = cc
front_some front (Some y) x h = (y, refl, cc)

one_taken : (e : Escape) (octet : ℕ) (spelling rest octets octets' : List ℕ) → octet < 256 → escape_octet e octet ≡ spelling → octets ≡ octet ∷ octets' → AreOctets octets' × (rest ≡ escape_text e octets') → AreOctets octets × (spelling ++ rest ≡ escape_text e octets)
one_taken e octet spelling rest octets octets' small s o h =
    subst (λ (os : List ℕ). AreOctets os × (spelling ++ rest ≡ escape_text e os)) (sym o) ((small, h.0), (λ i. sym s i ++ h.1 i))

chosen : {A : Type 0} (b : Bool) (x y z : A) → cond b x y ≡ z → ((b ≡ true) × (x ≡ z)) ⊎ ((b ≡ false) × (y ≡ z))
chosen true x y z h = inl (refl, h)
chosen false x y z h = inr (refl, h)

plain_taken : (e : Escape) (a : ℕ) (rest octets octets' : List ℕ) → is_plain e a ≡ true → octets ≡ a ∷ octets' → AreOctets octets' × (rest ≡ escape_text e octets') → AreOctets octets × (a ∷ rest ≡ escape_text e octets)
plain_taken e a rest octets octets' p o h =
    one_taken e a (a ∷ []) rest octets octets' (let k = plain_small e a p in omega arith) (escaped_plain e a p) o h

-- a text is the spelling of the octets that are read from it
pub unescaped_sound : (e : Escape) (text octets : List ℕ) → unescape e text ≡ Some octets → AreOctets octets × (text ≡ escape_text e octets)
unescaped_sound e [] octets h =
    let k : ◌≡◌ {A = List ℕ} [] octets = cc in subst (λ (os : List ℕ). AreOctets os × ([] ≡ escape_text e os)) k (tt, refl)
unescaped_sound e (a ∷ []) octets h =
    elim (chosen (is_plain e a) (Some (a ∷ [])) None (Some octets) h) [
      | inl t ↦ plain_taken e a [] octets [] t.0 (let k : ◌≡◌ {A = List ℕ} (a ∷ []) octets = cc in sym k) (tt, refl)
      | inr f ↦ absurd (let k = f.1 in cc)
    ]
unescaped_sound e (a ∷ b ∷ []) octets h =
    elim (chosen (is_plain e a) (with_octets_before (a ∷ []) (unescape e (b ∷ []))) None (Some octets) h) [
      | inl t ↦
          let y = front_some (a ∷ []) (unescape e (b ∷ [])) octets t.1 in
          plain_taken e a (b ∷ []) octets y.0 t.0 y.2 (unescaped_sound e (b ∷ []) y.0 y.1)
      | inr f ↦ absurd (let k = f.1 in cc)
    ]
unescaped_sound e (a ∷ b ∷ c ∷ rest) octets h =
    elim (chosen (is_plain e a) (with_octets_before (a ∷ []) (unescape e (b ∷ c ∷ rest))) (cond (is_escape e a b c) (with_octets_before (hex_octet b c ∷ []) (unescape e rest)) None) (Some octets) h) [
      | inl t ↦
          let y = front_some (a ∷ []) (unescape e (b ∷ c ∷ rest)) octets t.1 in
          plain_taken e a (b ∷ c ∷ rest) octets y.0 t.0 y.2 (unescaped_sound e (b ∷ c ∷ rest) y.0 y.1)
      | inr f ↦ elim (chosen (is_escape e a b c) (with_octets_before (hex_octet b c ∷ []) (unescape e rest)) None (Some octets) f.1) [
        | inl t ↦
            let y = front_some (hex_octet b c ∷ []) (unescape e rest) octets t.1 in
            let s = escape_spells e a b c t.0 in
            one_taken e (hex_octet b c) (a ∷ b ∷ c ∷ []) rest octets y.0 s.0 s.1 y.2 (unescaped_sound e rest y.0 y.1)
        | inr g ↦ absurd (let k = g.1 in cc)
      ]
    ]

-- the spelling of octets is read as these octets
pub unescaped_complete : (e : Escape) (octets : List ℕ) → AreOctets octets → unescape e (escape_text e octets) ≡ Some octets
unescaped_complete e [] a = refl
unescaped_complete e (octet ∷ octets) a =
    elim (cases_Bool (is_plain e octet)) [
      | inl p ↦ ap (λ s. unescape e (s ++ escape_text e octets)) (escaped_plain e octet p) ∙ unescaped_plain e octet (escape_text e octets) p ∙ ap (with_octets_before (octet ∷ [])) (unescaped_complete e octets a.1)
      | inr p ↦
          let s = spells_escape e octet a.0 p in
          ap (λ s. unescape e (s ++ escape_text e octets)) (escaped_other e octet p)
          ∙ unescaped_pair e 126 (hex_digit (octet / 16)) (hex_digit (octet % 16)) (escape_text e octets) (tilde_not_plain e) s.0
          ∙ (λ i. with_octets_before (s.1 i ∷ []) (unescaped_complete e octets a.1 i))
    ]

pub spelling_of_read : (e : Escape) (text : List ℕ) (r : Result (List ℕ) EscapeFault) → IsReading (λ o. o) r (unescape e text) → IfOk r (λ octets. AreOctets octets × (text ≡ escape_text e octets))
spelling_of_read e text (Ok octets) g = unescaped_sound e text octets g
spelling_of_read e text (Err f) g = tt

pub only_by : (e : Escape) (text : List ℕ) (r : Result (List ℕ) EscapeFault) → IsReading (λ o. o) r (unescape e text) → (octets : List ℕ) → AreOctets octets → text ≡ escape_text e octets → IsReading (λ o. o) r (Some octets)
only_by e text r g octets a k = subst (IsReading (λ o. o) r) (ap (unescape e) k ∙ unescaped_complete e octets a) g

-- one further octet was read
pub with_octets_before_append : (octets : List ℕ) (octet : ℕ) (r : Option (List ℕ)) → with_octets_before (octets ++ octet ∷ []) r ≡ with_octets_before octets (with_octets_before (octet ∷ []) r)
with_octets_before_append octets octet None = refl
with_octets_before_append octets octet (Some more) = ap (λ (os : List ℕ). Some os) (append_assoc octets (octet ∷ []) more)

pub front_whole : (rest : List ℕ) → 1 ≤ length rest → get_or rest 0 0 ∷ take (length rest - 1) (drop 1 rest) ≡ rest
front_whole [] h = absurd (omega arith)
front_whole (b ∷ bs) h = grind (arith, common_steps)

pub octet_added : (e : Escape) (read : Option (List ℕ)) (octets octets' rest after : List ℕ) (octet : ℕ) → 1 ≤ length rest → with_octets_before octets (unescape e rest) ≡ read → octets' ≡ octets ++ octet ∷ [] → unescape e (get_or rest 0 0 ∷ take (length rest - 1) (drop 1 rest)) ≡ with_octets_before (octet ∷ []) (unescape e after) → with_octets_before octets' (unescape e after) ≡ read
octet_added e read octets octets' rest after octet h before o f =
    ap (λ (os : List ℕ). with_octets_before os (unescape e after)) o
    ∙ with_octets_before_append octets octet (unescape e after)
    ∙ ap (with_octets_before octets) (sym f ∙ ap (unescape e) (front_whole rest h))
    ∙ before

before_nothing : (r : Option (List ℕ)) → with_octets_before [] r ≡ r
before_nothing None = refl
before_nothing (Some octets) = refl

before_before : (a b : List ℕ) (r : Option (List ℕ)) → with_octets_before a (with_octets_before b r) ≡ with_octets_before (a ++ b) r
before_before a b None = refl
before_before a b (Some octets) = ap (λ (os : List ℕ). Some os) (sym (append_assoc a b octets))

-- a run of octets that stand for themselves is read as these
unescaped_run : (e : Escape) (run rest : List ℕ) → list_all (is_plain e) run ≡ true → unescape e (run ++ rest) ≡ with_octets_before run (unescape e rest)
unescaped_run e [] rest p = sym (before_nothing (unescape e rest))
unescaped_run e (b ∷ run) rest p =
    let q = and_parts _ _ p in
    unescaped_plain e b (run ++ rest) q.0
    ∙ ap (with_octets_before (b ∷ [])) (unescaped_run e run rest q.1)
    ∙ before_before (b ∷ []) run (unescape e rest)

pub run_before : (e : Escape) (n : ℕ) (text : List ℕ) → list_all (is_plain e) (take n text) ≡ true → unescape e text ≡ with_octets_before (take n text) (unescape e (drop n text))
run_before e n text p = ap (unescape e) (sym (take-append-drop n text)) ∙ unescaped_run e (take n text) (drop n text) p

-- octets to which such a run was added
pub run_added : (e : Escape) (n : ℕ) (text octets octets' : List ℕ) → list_all (is_plain e) (take n text) ≡ true → octets' ≡ octets ++ take n text → with_octets_before octets' (unescape e (drop n text)) ≡ with_octets_before octets (unescape e text)
run_added e n text octets octets' p o =
    ap (λ (os : List ℕ). with_octets_before os (unescape e (drop n text))) o
    ∙ sym (before_before octets (take n text) (unescape e (drop n text)))
    ∙ ap (with_octets_before octets) (sym (run_before e n text p))

pub fails_on_nothing : {Y : Type 0} (r : Result Y EscapeFault) (read : Option (List ℕ)) → read ≡ None → IfErr r (λ why. FailsToRead why read)
fails_on_nothing (Ok y) read h = tt
fails_on_nothing (Err NoMemory) read h = tt
fails_on_nothing (Err NotEscaped) read h = h

-- the tests of a block are those of its octets
pub within_by_tests : (lowest octet : ℕ) → (leb lowest octet && nat_lt octet 126) ≡ (not (nat_lt octet lowest) && nat_lt octet 126)
within_by_tests lowest octet = grind (arith, nat_tests)

-- octets that stand for themselves are their own spelling
pub escaped_run : (e : Escape) (run : List ℕ) → list_all (is_plain e) run ≡ true → escape_text e run ≡ run
escaped_run e [] p = refl
escaped_run e (b ∷ run) p = let q = and_parts _ _ p in λ i. escaped_plain e b q.0 i ++ escaped_run e run q.1 i

-- octets that stand for themselves, and such octets after them
pub plain_joined : (e : Escape) (m n : ℕ) (octets : List ℕ) → list_all (is_plain e) (take m octets) ≡ true → list_all (is_plain e) (take n (drop m octets)) ≡ true → list_all (is_plain e) (take (m + n) octets) ≡ true
plain_joined e m n octets front back =
    ap (list_all (is_plain e)) (take-add m n octets)
    ∙ list_all-append (is_plain e) (take m octets) (take n (drop m octets))
    ∙ and_from _ _ front back
