-- What tests and cuts of octets say.
use Rattle.std.proofs.Common.{◌≡◌, ◌≢◌, ℕ, ◌+◌, ◌-◌, Bool, true, false, not, ◌||◌, List, [], ◌∷◌, ◌++◌, length, take, drop, eqb, Option, Some, None, sym, ap, ◌∙◌, inl, inr, arith}
use Rattle.std.specs.Prelude.{MatchOption}
use Rattle.std.specs.List.{list_any}
use Rattle.std.specs.Str.{bytes_eq}
use Rattle.std.proofs.lemmas.Bool.{cases_Bool, eqb-true, eq-eqb, or_parts}
use Rattle.std.proofs.lemmas.List.{length-append, nil_from_length, take-append-drop}
use Rattle.std.proofs.lemmas.Slice.Eq.{bytes_eq-Decides}
use Rattle.std.proofs.Math.Seq.{drop-append_seam, take-append_seam}
use Rattle.imap_query.specs.Patterns.{IsIn}

-- whether there are octets
pub nil_is : (xs : List ℕ) (b : Bool) → b ≡ eqb (length xs) 0 → b ≡ true → xs ≡ []
nil_is xs b e t = nil_from_length xs (eqb-true (length xs) 0 (sym e ∙ t))

pub nil_not : (xs : List ℕ) (b : Bool) → b ≡ eqb (length xs) 0 → b ≡ false → xs ≢ []
nil_not xs b e f z =
    let t : b ≡ true = e ∙ ap (λ (ys : List ℕ). eqb (length ys) 0) z in
    let k : true ≡ false = sym t ∙ f in
    cc

-- whether octets are others
pub same_octets : (xs ys : List ℕ) (b : Bool) → b ≡ not (bytes_eq xs ys) → b ≡ false → xs ≡ ys
same_octets xs ys b e f = elim (cases_Bool (bytes_eq xs ys)) [
  | inl t ↦ (bytes_eq-Decides xs ys).0 t
  | inr n ↦ let k : true ≡ false = sym (e ∙ ap not n) ∙ f in absurd (let z : true ≡ false = k in cc)
]

pub other_octets : (xs ys : List ℕ) (b : Bool) → b ≡ not (bytes_eq xs ys) → b ≡ true → xs ≢ ys
other_octets xs ys b e t z =
    let k : false ≡ true = sym (e ∙ ap not ((bytes_eq-Decides xs ys).1 z)) ∙ t in
    cc

-- whether a NUL is among octets
pub nul_in : (xs : List ℕ) → list_any (λ y. eqb y 0) xs ≡ true → IsIn 0 xs
nul_in [] h = absurd (let z : false ≡ true = h in cc)
nul_in (x ∷ xs) h = elim (cases_Bool (eqb x 0)) [
  | inl t ↦ inl (eqb-true x 0 t)
  | inr f ↦ inr (nul_in xs (sym (ap (λ b. b || list_any (λ y. eqb y 0) xs) f) ∙ h))
]

pub no_nul : (xs : List ℕ) → list_any (λ y. eqb y 0) xs ≡ false → ¬ IsIn 0 xs
no_nul [] h i = i
no_nul (x ∷ xs) h i =
    let p = or_parts (eqb x 0) (list_any (λ y. eqb y 0) xs) h in
    elim i [
      | inl e ↦ let k : true ≡ false = sym (eq-eqb x 0 e) ∙ p.0 in absurd (let z : true ≡ false = k in cc)
      | inr j ↦ no_nul xs p.1 j
    ]

-- octets after others, or before them
pub stripped_start : {X : Type 0} (now : X → List ℕ) (octets start : List ℕ) (r : Option X)
    → MatchOption r (bytes_eq (take (length start) octets) start ≡ false) (λ x. (bytes_eq (take (length start) octets) start ≡ true) × (now x ≡ drop (length start) octets) × (length (now x) + length start ≡ length octets))
    → MatchOption r ((rest : List ℕ) → octets ≡ start ++ rest → ⊥) (λ x. octets ≡ start ++ now x)
stripped_start now octets start None h = λ rest e.
    let t : bytes_eq (take (length start) octets) start ≡ true = (bytes_eq-Decides (take (length start) octets) start).1 (ap (take (length start)) e ∙ take-append_seam start rest) in
    let k : false ≡ true = sym h ∙ t in
    cc
stripped_start now octets start (Some x) h =
    sym (take-append-drop (length start) octets) ∙ ap (λ t. t ++ drop (length start) octets) ((bytes_eq-Decides (take (length start) octets) start).0 h.0) ∙ ap (λ t. start ++ t) (sym h.1)

pub stripped_end : {X : Type 0} (now : X → List ℕ) (octets end : List ℕ) (r : Option X)
    → MatchOption r (bytes_eq (drop (length octets - length end) octets) end ≡ false) (λ x. (bytes_eq (drop (length octets - length end) octets) end ≡ true) × (now x ≡ take (length octets - length end) octets) × (length (now x) + length end ≡ length octets))
    → MatchOption r ((front : List ℕ) → octets ≡ front ++ end → ⊥) (λ x. octets ≡ now x ++ end)
stripped_end now octets end None h = λ front e.
    let n : length octets ≡ length front + length end = ap length e ∙ length-append front end in
    let m : length octets - length end ≡ length front = omega arith in
    let t : bytes_eq (drop (length octets - length end) octets) end ≡ true =
    (bytes_eq-Decides (drop (length octets - length end) octets) end).1 (ap (λ k. drop k octets) m ∙ ap (drop (length front)) e ∙ drop-append_seam front end) in
    let k : false ≡ true = sym h ∙ t in
    cc
stripped_end now octets end (Some x) h =
    sym (take-append-drop (length octets - length end) octets) ∙ ap (λ t. take (length octets - length end) octets ++ t) ((bytes_eq-Decides (drop (length octets - length end) octets) end).0 h.0)
    ∙ ap (λ t. t ++ end) (sym h.1)
