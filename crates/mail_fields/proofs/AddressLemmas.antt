use Rattle.std.proofs.Common.{◌≡◌, ℕ, ◌<◌, Bool, true, false, ◌==◌, List, [], ◌∷◌, ◌++◌, length, map, take, drop, codes, cond, nat_lt, ap, sym, arith, ◌∙◌, refl, append_assoc, inl, inr}
use Rattle.std.proofs.Math.Dec.{eqb-suc-zero}
use Rattle.std.proofs.lemmas.Bool.{and_parts, cases_Bool, eqb-true, le-ltb, lt-ltb, or_parts}
use Rattle.std.proofs.lemmas.List.{append-nil}
use Rattle.std.specs.List.{list_all, list_any}
use Rattle.mail_fields.specs.AddressWords.{after, before, begins_run, comment_after, comment_of, count_before, domain_after, domain_of, is_among, joined_text, phrase_of, run_start}
use Rattle.mail_fields.specs.Addresses.{addresses_from, addresses_of, after_octet_at, angle_mailbox, begins_group, ends_mailbox, has_octet, has_route, mailbox_at, mailbox_of, name_or, name_words, section_addresses}
use Rattle.mail_fields.specs.HeaderValues.{elements_within, skip_blanks}
use Rattle.mail_fields.specs.WrittenAddresses.{AreCanonical, IsCanonical, is_dot_atom_octet, written_angle, written_list, written_mailbox, written_more}
use Rattle.mail_fields.specs.declared.address_list.Address.TheVariants.{Mailbox as MailboxAddress}
use Rattle.mail_fields.specs.declared.address_list.Place.{Place}
use Rattle.mail_fields.specs.declared.address_list.Place.TheVariants.{AngleDomain, AngleLocal, AngleStart, Domain, Words}
use Rattle.mail_fields.specs.declared.address_words.Before.{Before}
use Rattle.mail_fields.specs.declared.address_words.Before.TheVariants.{Nothing, Word}
use Rattle.mail_fields.specs.declared.elements.Element.{Element}
use Rattle.mail_fields.specs.declared.elements.Element.TheVariants.{Blank, Octet, Quoted}
use Rattle.mail_fields.specs.declared.elements.Within.TheVariants.{Value}
use Rattle.mail_fields.specs.declared.mailboxes.Mailbox.{Mailbox}
use Rattle.mail_fields.proofs.WrittenLemmas.{quoted_element}

-- an octet of a dot-atom isn't one that is no octet of a dot-atom
other : (octet code : ℕ) → is_dot_atom_octet octet ≡ true → is_dot_atom_octet code ≡ false → (octet == code) ≡ false
other octet code h n = elim (cases_Bool (octet == code)) [
  | inl t ↦ absurd (let k : true ≡ false = sym h ∙ ap is_dot_atom_octet (eqb-true octet code t) ∙ n in cc)
  | inr f ↦ f
]

swapped : (octet code : ℕ) → is_dot_atom_octet octet ≡ true → is_dot_atom_octet code ≡ false → (code == octet) ≡ false
swapped octet code h n = elim (cases_Bool (code == octet)) [
  | inl t ↦ absurd (let k : true ≡ false = sym h ∙ ap is_dot_atom_octet (sym (eqb-true code octet t)) ∙ n in cc)
  | inr f ↦ f
]

not_sought : (sought : List ℕ) (octet : ℕ) → is_dot_atom_octet octet ≡ true → list_any is_dot_atom_octet sought ≡ false → list_any (λ one. one == octet) sought ≡ false
not_sought [] octet h n = refl
not_sought (s ∷ sought) octet h n =
    let p = or_parts (is_dot_atom_octet s) (list_any is_dot_atom_octet sought) n in rw (swapped octet s h p.0) (not_sought sought octet h p.1)

-- the elements of a dot-atom
atom_elements : (xs rest : List ℕ) → list_all is_dot_atom_octet xs ≡ true → elements_within Value [] (xs ++ rest) ≡ map Octet xs ++ elements_within Value [] rest
atom_elements [] rest h = refl
atom_elements (x ∷ xs) rest h =
    let p = and_parts (is_dot_atom_octet x) (list_all is_dot_atom_octet xs) h in
    rw (other x 34 p.0 refl, other x 40 p.0 refl, other x 32 p.0 refl, other x 9 p.0 refl, other x 13 p.0 refl, other x 10 p.0 refl) (ap (λ es. Octet x ∷ es) (atom_elements xs rest p.1))

-- the elements of a mailbox
abbrev angle_elements : Mailbox → List Element → List Element
angle_elements m rest = Octet 60 ∷ (map Octet m.local_part ++ Octet 64 ∷ (map Octet m.host ++ Octet 62 ∷ rest))

abbrev front_elements : List ℕ → List Element
front_elements name = cond (length name == 0) [] (Quoted name ∷ Blank ∷ [])

angle_again : (m : Mailbox) (rest : List ℕ) → IsCanonical m → elements_within Value [] (written_angle m rest) ≡ angle_elements m (elements_within Value [] rest)
angle_again m rest c =
    ap (λ es. Octet 60 ∷ es) (
    atom_elements m.local_part (codes "@" ++ (m.host ++ (codes ">" ++ rest))) c.local_part.octets
    ∙ ap (λ es. map Octet m.local_part ++ Octet 64 ∷ es) (atom_elements m.host (codes ">" ++ rest) c.host.octets)
    )

mailbox_elements : (m : Mailbox) (rest : List ℕ) → IsCanonical m → elements_within Value [] (written_mailbox m rest) ≡ front_elements m.name ++ angle_elements m (elements_within Value [] rest)
mailbox_elements m rest c = elim (cases_Bool (length m.name == 0)) [
  | inl t ↦ rw t (angle_again m rest c)
  | inr f ↦ rw f (quoted_element m.name [] (codes " " ++ written_angle m rest) c.name ∙ ap (λ es. Quoted m.name ∷ Blank ∷ es) (angle_again m rest c))
]

-- elements that stay within a section
stays : (in_group : Bool) (place : Place) (section : List Element) (xs : List ℕ) (rest : List Element) → list_all is_dot_atom_octet xs ≡ true
    → ((x : ℕ) → is_dot_atom_octet x ≡ true → (begins_group in_group place (Octet x) ≡ false) × (ends_mailbox place (Octet x) ≡ false) × (after_octet_at place x ≡ place))
    → addresses_from in_group place section (map Octet xs ++ rest) ≡ addresses_from in_group place (section ++ map Octet xs) rest
stays in_group place section [] rest h s = ap (λ es. addresses_from in_group place es rest) (sym (append-nil section))
stays in_group place section (x ∷ xs) rest h s =
    let p = and_parts (is_dot_atom_octet x) (list_all is_dot_atom_octet xs) h in
    let q = s x p.0 in
    rw (q.0, q.1, q.2) (
    stays in_group place (section ++ Octet x ∷ []) xs rest p.1 s
    ∙ ap (λ es. addresses_from in_group place es rest) (append_assoc section (Octet x ∷ []) (map Octet xs))
    )

local_octet : (x : ℕ) → is_dot_atom_octet x ≡ true → (begins_group false AngleLocal (Octet x) ≡ false) × (ends_mailbox AngleLocal (Octet x) ≡ false) × (after_octet_at AngleLocal x ≡ AngleLocal)
local_octet x p = (refl, refl, rw (other x 62 p refl, other x 64 p refl) refl)

host_octet : (x : ℕ) → is_dot_atom_octet x ≡ true → (begins_group false AngleDomain (Octet x) ≡ false) × (ends_mailbox AngleDomain (Octet x) ≡ false) × (after_octet_at AngleDomain x ≡ AngleDomain)
host_octet x p = (refl, not_sought (codes ",;") x p refl, rw (other x 62 p refl) refl)

local_stays : (section : List Element) (xs : List ℕ) (rest : List Element) → list_all is_dot_atom_octet xs ≡ true → (length xs == 0) ≡ false
    → addresses_from false AngleStart section (map Octet xs ++ rest) ≡ addresses_from false AngleLocal (section ++ map Octet xs) rest
local_stays section [] rest h n = absurd (let k : true ≡ false = n in cc)
local_stays section (x ∷ xs) rest h n =
    let p = and_parts (is_dot_atom_octet x) (list_all is_dot_atom_octet xs) h in
    rw (other x 62 p.0 refl, other x 64 p.0 refl) (
    stays false AngleLocal (section ++ Octet x ∷ []) xs rest p.1 local_octet
    ∙ ap (λ es. addresses_from false AngleLocal es rest) (append_assoc section (Octet x ∷ []) (map Octet xs))
    )

-- a mailbox's elements end where its brackets do
angle_stays : (m : Mailbox) (section rest : List Element) → IsCanonical m → addresses_from false Words section (angle_elements m rest) ≡ addresses_from false Domain (section ++ angle_elements m []) rest
angle_stays m section rest c =
    let ls : List Element = map Octet m.local_part in
    let hs : List Element = map Octet m.host in
    let parts : ((((section ++ Octet 60 ∷ []) ++ ls) ++ Octet 64 ∷ []) ++ hs) ++ Octet 62 ∷ [] ≡ section ++ angle_elements m [] = simp append_assoc in
    local_stays (section ++ Octet 60 ∷ []) m.local_part (Octet 64 ∷ (hs ++ Octet 62 ∷ rest)) c.local_part.octets c.local_part.some
    ∙ stays false AngleDomain (((section ++ Octet 60 ∷ []) ++ ls) ++ Octet 64 ∷ []) m.host (Octet 62 ∷ rest) c.host.octets host_octet
    ∙ ap (λ es. addresses_from false Domain es rest) parts

mailbox_stays : (m : Mailbox) (section rest : List Element) → IsCanonical m
    → addresses_from false Words section (front_elements m.name ++ angle_elements m rest) ≡ addresses_from false Domain (section ++ (front_elements m.name ++ angle_elements m [])) rest
mailbox_stays m section rest c = elim (cases_Bool (length m.name == 0)) [
  | inl t ↦ rw t (angle_stays m section rest c)
  | inr f ↦ rw f (
      angle_stays m ((section ++ Quoted m.name ∷ []) ++ Blank ∷ []) rest c
      ∙ ap (λ es. addresses_from false Domain es rest) (append_assoc (section ++ Quoted m.name ∷ []) (Blank ∷ []) (angle_elements m []) ∙ append_assoc section (Quoted m.name ∷ []) (Blank ∷ angle_elements m []))
      )
]

-- the first of some octets
count_at : (sought : List ℕ) (xs : List Element) (e : Element) (rest : List Element) → list_any (is_among sought) xs ≡ false → is_among sought e ≡ true → count_before sought (xs ++ e ∷ rest) ≡ length xs
count_at sought [] e rest n h = rw h refl
count_at sought (x ∷ xs) e rest n h =
    let p = or_parts (is_among sought x) (list_any (is_among sought) xs) n in rw p.0 (let k = count_at sought xs e rest p.1 h in omega (arith, k))

count_none : (sought : List ℕ) (xs : List Element) → list_any (is_among sought) xs ≡ false → count_before sought xs ≡ length xs
count_none sought [] n = refl
count_none sought (x ∷ xs) n =
    let p = or_parts (is_among sought x) (list_any (is_among sought) xs) n in rw p.0 (let k = count_none sought xs p.1 in omega (arith, k))

longer : (xs : List Element) (e : Element) (rest : List Element) → length xs < length (xs ++ e ∷ rest)
longer [] e rest = omega arith
longer (x ∷ xs) e rest = let l = longer xs e rest in omega arith

has_at : (sought : List ℕ) (xs : List Element) (e : Element) (rest : List Element) → list_any (is_among sought) xs ≡ false → is_among sought e ≡ true → has_octet sought (xs ++ e ∷ rest) ≡ true
has_at sought xs e rest n h =
    ap (λ k. nat_lt k (length (xs ++ e ∷ rest))) (count_at sought xs e rest n h) ∙ lt-ltb (length xs) (length (xs ++ e ∷ rest)) (longer xs e rest)

has_none : (sought : List ℕ) (xs : List Element) → list_any (is_among sought) xs ≡ false → has_octet sought xs ≡ false
has_none sought xs n = ap (λ k. nat_lt k (length xs)) (count_none sought xs n) ∙ le-ltb (length xs) (length xs) (omega arith)

take_front : (xs ys : List Element) → take (length xs) (xs ++ ys) ≡ xs
take_front [] ys = refl
take_front (x ∷ xs) ys = ap (λ es. x ∷ es) (take_front xs ys)

drop_front : (xs ys : List Element) → drop (length xs) (xs ++ ys) ≡ ys
drop_front [] ys = refl
drop_front (x ∷ xs) ys = drop_front xs ys

before_at : (sought : List ℕ) (xs : List Element) (e : Element) (rest : List Element) → list_any (is_among sought) xs ≡ false → is_among sought e ≡ true → before sought (xs ++ e ∷ rest) ≡ xs
before_at sought xs e rest n h = ap (λ k. take k (xs ++ e ∷ rest)) (count_at sought xs e rest n h) ∙ take_front xs (e ∷ rest)

after_at : (sought : List ℕ) (xs : List Element) (e : Element) (rest : List Element) → list_any (is_among sought) xs ≡ false → is_among sought e ≡ true → after sought (xs ++ e ∷ rest) ≡ rest
after_at sought xs e rest n h = ap (λ k. drop 1 (drop k (xs ++ e ∷ rest))) (count_at sought xs e rest n h) ∙ ap (drop 1) (drop_front xs (e ∷ rest))

none_atoms : (sought xs : List ℕ) → list_all is_dot_atom_octet xs ≡ true → list_any is_dot_atom_octet sought ≡ false → list_any (is_among sought) (map Octet xs) ≡ false
none_atoms sought [] h n = refl
none_atoms sought (x ∷ xs) h n =
    let p = and_parts (is_dot_atom_octet x) (list_all is_dot_atom_octet xs) h in rw (not_sought sought x p.0 n) (none_atoms sought xs p.1 n)

none-append : (P : Element → Bool) (xs ys : List Element) → list_any P xs ≡ false → list_any P ys ≡ false → list_any P (xs ++ ys) ≡ false
none-append P [] ys h k = k
none-append P (x ∷ xs) ys h k = let p = or_parts (P x) (list_any P xs) h in rw p.0 (none-append P xs ys p.1 k)

-- texts of octets
joined_atoms : (xs : List ℕ) → joined_text (map Octet xs) ≡ xs
joined_atoms [] = refl
joined_atoms (x ∷ xs) = ap (λ ys. x ∷ ys) (joined_atoms xs)

domain_atoms : (xs : List ℕ) (b : Before) → ((e : Element) → begins_run b e ≡ false) → list_all is_dot_atom_octet xs ≡ true → domain_after b (map Octet xs) ≡ xs
domain_atoms [] b r h = refl
domain_atoms (x ∷ xs) b r h =
    let p = and_parts (is_dot_atom_octet x) (list_all is_dot_atom_octet xs) h in
    rw (r (Octet x), not_sought (codes "<>,;@)") x p.0 refl) (
    ap (λ ys. x ∷ ys) (elim (cases_Bool (x == 46)) [
      | inl t ↦ rw t (domain_atoms xs Nothing (λ e. refl) p.1)
      | inr f ↦ rw f (domain_atoms xs Word (λ e. refl) p.1)
    ]))

comment_passed : (xs latest : List ℕ) (o : ℕ) (rest : List Element) → comment_after latest (map Octet xs ++ Octet o ∷ rest) ≡ comment_after [] rest
comment_passed [] latest o rest = refl
comment_passed (x ∷ xs) latest o rest = comment_passed xs [] o rest

-- the section of a mailbox
abbrev section_of : Mailbox → List Element → List Element
section_of m post = Blank ∷ (front_elements m.name ++ angle_elements m post)

abbrev inside_of : Mailbox → List Element
inside_of m = map Octet m.local_part ++ Octet 64 ∷ map Octet m.host

empty : (xs : List ℕ) → (length xs == 0) ≡ true → [] ≡ xs
empty [] t = refl
empty (x ∷ xs) t = absurd (let k = eqb-true (length (x ∷ xs)) 0 t in omega (arith, k))

front_none : (code : ℕ) (name : List ℕ) → list_any (is_among (code ∷ [])) (Blank ∷ front_elements name) ≡ false
front_none code name = elim (cases_Bool (length name == 0)) [
  | inl t ↦ rw t refl
  | inr f ↦ rw f refl
]

quoted_phrase : (name : List ℕ) → (length name == 0) ≡ false → phrase_of (Blank ∷ Quoted name ∷ Blank ∷ []) ≡ name
quoted_phrase name f = rw f (append-nil name)

front_phrase : (name : List ℕ) → phrase_of (Blank ∷ front_elements name) ≡ name
front_phrase name = elim (cases_Bool (length name == 0)) [
  | inl t ↦ rw t (empty name t)
  | inr f ↦ rw f (quoted_phrase name f)
]

front_comment : (name : List ℕ) (rest : List Element) → comment_of (Blank ∷ (front_elements name ++ rest)) ≡ comment_after [] rest
front_comment name rest = elim (cases_Bool (length name == 0)) [
  | inl t ↦ rw t refl
  | inr f ↦ rw f refl
]

name_stays : (name : List ℕ) → name_or [] name ≡ name
name_stays name = elim (cases_Bool (length name == 0)) [
  | inl t ↦ rw t (empty name t)
  | inr f ↦ rw f refl
]

no_route : (xs : List ℕ) (rest : List Element) → list_all is_dot_atom_octet xs ≡ true → (length xs == 0) ≡ false → has_route (map Octet xs ++ rest) ≡ false
no_route [] rest h n = absurd (let k : true ≡ false = n in cc)
no_route (x ∷ xs) rest h n = let p = and_parts (is_dot_atom_octet x) (list_all is_dot_atom_octet xs) h in rw (other x 64 p.0 refl) refl

angle_mailbox_again : (m : Mailbox) → IsCanonical m → angle_mailbox m.name (inside_of m) ≡ m
angle_mailbox_again m c =
    let none = none_atoms (codes "@") m.local_part c.local_part.octets refl in
    let route = no_route m.local_part (Octet 64 ∷ map Octet m.host) c.local_part.octets c.local_part.some in
    let part : joined_text (before (codes "@") (inside_of m)) ≡ m.local_part =
    ap joined_text (before_at (codes "@") (map Octet m.local_part) (Octet 64) (map Octet m.host) none refl) ∙ joined_atoms m.local_part in
    let host : domain_of (after (codes "@") (inside_of m)) ≡ m.host =
    ap domain_of (after_at (codes "@") (map Octet m.local_part) (Octet 64) (map Octet m.host) none refl) ∙ domain_atoms m.host Nothing (λ e. refl) c.host.octets in
    (λ i. mailbox_at m.name (cond (route i) (joined_text (before (codes ":") (inside_of m))) []) (cond (route i) (after (codes ":") (inside_of m)) (inside_of m)))
    ∙ (λ i. record { name = m.name; route = sym c.route i; local_part = part i; host = host i })

section_mailbox : (m : Mailbox) (post : List Element) → IsCanonical m → comment_after [] post ≡ [] → mailbox_of (section_of m post) ≡ m
section_mailbox m post c k =
    let front : List Element = Blank ∷ front_elements m.name in
    let tail : List Element = map Octet m.local_part ++ Octet 64 ∷ (map Octet m.host ++ Octet 62 ∷ post) in
    let has = has_at (codes "<") front (Octet 60) tail (front_none 60 m.name) refl in
    let before_angle = before_at (codes "<") front (Octet 60) tail (front_none 60 m.name) refl in
    let words : name_words (section_of m post) ≡ front =
    (λ i. cond (has_octet (codes "@") (before_angle i)) (take (run_start (before (codes "@") (section_of m post))) (before (codes "@") (section_of m post))) (before_angle i))
    ∙ ap (λ b. cond b (take (run_start (before (codes "@") (section_of m post))) (before (codes "@") (section_of m post))) front) (has_none (codes "@") front (front_none 64 m.name)) in
    let comment : comment_of (section_of m post) ≡ [] =
    front_comment m.name (Octet 60 ∷ tail) ∙ comment_passed m.local_part [] 64 (map Octet m.host ++ Octet 62 ∷ post) ∙ comment_passed m.host [] 62 post ∙ k in
    let name : name_or (comment_of (section_of m post)) (phrase_of (name_words (section_of m post))) ≡ m.name =
    (λ i. name_or (comment i) (phrase_of (words i))) ∙ ap (name_or []) (front_phrase m.name) ∙ name_stays m.name in
    let none : list_any (is_among (codes ">")) (inside_of m) ≡ false =
    none-append (is_among (codes ">")) (map Octet m.local_part) (Octet 64 ∷ map Octet m.host) (none_atoms (codes ">") m.local_part c.local_part.octets refl) (none_atoms (codes ">") m.host c.host.octets refl) in
    let inside : before (codes ">") (after (codes "<") (section_of m post)) ≡ inside_of m =
    ap (before (codes ">")) (after_at (codes "<") front (Octet 60) tail (front_none 60 m.name) refl ∙ sym (append_assoc (map Octet m.local_part) (Octet 64 ∷ map Octet m.host) (Octet 62 ∷ post)))
    ∙ before_at (codes ">") (inside_of m) (Octet 62) post none refl in
    rw has ((λ i. angle_mailbox (name i) (inside i)) ∙ angle_mailbox_again m c)

section_again : (m : Mailbox) (post : List Element) → IsCanonical m → comment_after [] post ≡ [] → section_addresses (section_of m post) ≡ MailboxAddress m ∷ []
section_again m post c k =
    let some : (length (skip_blanks (section_of m post)) == 0) ≡ false = elim (cases_Bool (length m.name == 0)) [
      | inl t ↦ rw t (eqb-suc-zero _)
      | inr f ↦ rw f (eqb-suc-zero _)
    ] in
    rw some (ap (λ x. MailboxAddress x ∷ []) (section_mailbox m post c k))

-- a written list is read
elements_after : List Mailbox → List Element → List Element
elements_after [] rest = rest
elements_after (m ∷ ms) rest = Octet 44 ∷ Blank ∷ (front_elements m.name ++ angle_elements m (elements_after ms rest))

more_elements : (ms : List Mailbox) (rest : List ℕ) → AreCanonical ms → elements_within Value [] (written_more ms rest) ≡ elements_after ms (elements_within Value [] rest)
unfolding elements_after
more_elements [] rest c = refl
more_elements (m ∷ ms) rest c =
    ap (λ es. Octet 44 ∷ Blank ∷ es) (mailbox_elements m (written_more ms rest) c.0 ∙ ap (λ es. front_elements m.name ++ angle_elements m es) (more_elements ms rest c.1))

angle-append : (m : Mailbox) (post : List Element) → angle_elements m [] ++ post ≡ angle_elements m post
angle-append m post =
    ap (λ es. Octet 60 ∷ es) (
    append_assoc (map Octet m.local_part) (Octet 64 ∷ (map Octet m.host ++ Octet 62 ∷ [])) post
    ∙ ap (λ es. map Octet m.local_part ++ Octet 64 ∷ es) (append_assoc (map Octet m.host) (Octet 62 ∷ []) post)
    )

section-append : (m : Mailbox) (post : List Element) → section_of m [] ++ post ≡ section_of m post
section-append m post = ap (λ es. Blank ∷ es) (append_assoc (front_elements m.name) (angle_elements m []) post ∙ ap (λ es. front_elements m.name ++ es) (angle-append m post))

list_read : (m : Mailbox) (ms : List Mailbox) → IsCanonical m → AreCanonical ms
    → addresses_from false Words (Blank ∷ []) (front_elements m.name ++ angle_elements m (elements_after ms (Blank ∷ Blank ∷ []))) ≡ map MailboxAddress (m ∷ ms)
unfolding elements_after
list_read m [] c a =
    mailbox_stays m (Blank ∷ []) (Blank ∷ Blank ∷ []) c
    ∙ append-nil (section_addresses ((section_of m [] ++ Blank ∷ []) ++ Blank ∷ []))
    ∙ ap section_addresses (append_assoc (section_of m []) (Blank ∷ []) (Blank ∷ []) ∙ section-append m (Blank ∷ Blank ∷ []))
    ∙ section_again m (Blank ∷ Blank ∷ []) c refl
list_read m (n ∷ ms) c a =
    mailbox_stays m (Blank ∷ []) (elements_after (n ∷ ms) (Blank ∷ Blank ∷ [])) c
    ∙ (λ i. section_again m [] c refl i ++ list_read n ms a.0 a.1 i)

pub list_again : (m : Mailbox) (ms : List Mailbox) → IsCanonical m → AreCanonical ms → addresses_of (written_list m ms) ≡ map MailboxAddress (m ∷ ms)
list_again m ms c a =
    ap (λ es. addresses_from false Words [] (Blank ∷ es)) (mailbox_elements m (written_more ms (codes "\r\n")) c ∙ ap (λ es. front_elements m.name ++ angle_elements m es) (more_elements ms (codes "\r\n") a))
    ∙ list_read m ms c a
