-- The part that a number finds among the parts below one.
use Rattle.std.proofs.Common.{◌≡◌, ℕ, suc, ◌+◌, ◌-◌, ◌≤◌, Bool, true, false, cond, List, [], ◌∷◌, length, Option, Some, None, refl, sym, ap, ◌∙◌, subst, arith}
use Rattle.std.specs.Prelude.{nat_le, nat_lt}
use Rattle.std.specs.List.{filter}
use Rattle.mail_parts.specs.Nesting.{parts_below}
use Rattle.std.proofs.lemmas.Bool.{and_from}
use Rattle.std.proofs.lemmas.Bool.Decides.{nat_tests}
use Rattle.rev1_fetch.specs.PartPlaces.{IsChild, child_at, children_of, is_child}
use Rattle.mail_parts.specs.declared.part.Part.{Part}

module _ (depth : ℕ) where
  abbrev pub Found : ℕ → List Part → List Part → Type 0
  Found n parts found = child_at depth (n + 1) parts ≡ Some found → IsChild depth n parts found

  first : (part : Part) (parts found : List Part) → is_child depth part ≡ true → ◌≡◌ {A = Option (List Part)} (Some (part ∷ parts)) (Some found) → IsChild depth 0 (part ∷ parts) found
  first part parts found c e = record {
    front = [];
    child = part;
    back = parts;
    found_is = cc;
    parts_are = cc;
    deeper = refl;
    one_below = c;
    before = refl;
  }

  later : (part : Part) (parts found : List Part) (n : ℕ) → nat_lt depth part.depth ≡ true → is_child depth part ≡ true → IsChild depth n parts found → IsChild depth (n + 1) (part ∷ parts) found
  later part parts found n d c h = record {
    front = part ∷ h.front;
    child = h.child;
    back = h.back;
    found_is = h.found_is;
    parts_are = ap (λ ps. part ∷ ps) h.parts_are;
    deeper = and_from _ _ d h.deeper;
    one_below = h.one_below;
    before = ap (λ b. length (cond b (part ∷ filter (is_child depth) h.front) (filter (is_child depth) h.front))) c ∙ ap suc h.before ∙ omega arith;
  }

  other : (part : Part) (parts found : List Part) (n : ℕ) → nat_lt depth part.depth ≡ true → is_child depth part ≡ false → IsChild depth n parts found → IsChild depth n (part ∷ parts) found
  other part parts found n d c h = record {
    front = part ∷ h.front;
    child = h.child;
    back = h.back;
    found_is = h.found_is;
    parts_are = ap (λ ps. part ∷ ps) h.parts_are;
    deeper = and_from _ _ d h.deeper;
    one_below = h.one_below;
    before = ap (λ b. length (cond b (part ∷ filter (is_child depth) h.front) (filter (is_child depth) h.front))) c ∙ h.before;
  }

  deeper_is : (a : ℕ) → nat_le a depth ≡ false → nat_lt depth a ≡ true
  deeper_is a h = grind (arith, nat_tests)

  found_step : (part : Part) (parts found : List Part) (n : ℕ) (deep child last : Bool)
      → nat_le part.depth depth ≡ deep → is_child depth part ≡ child → nat_le (n + 1) 1 ≡ last
      → Found n parts found → ((m : ℕ) → n ≡ m + 1 → Found m parts found)
      → Found n (part ∷ parts) found
  found_step part parts found n true child last d c l same less h =
      let e : ◌≡◌ {A = Option (List Part)} None (Some found) = sym (ap (λ b. cond {A = Option (List Part)} b None (cond (is_child depth part) (cond (nat_le (n + 1) 1) (Some (part ∷ parts)) (child_at depth (n + 1 - 1) parts)) (child_at depth (n + 1) parts))) d) ∙ h in
      cc
  found_step part parts found n false true true d c l same less h =
      let e : ◌≡◌ {A = Option (List Part)} (Some (part ∷ parts)) (Some found) =
      sym (ap (λ b. cond {A = Option (List Part)} b None (cond (is_child depth part) (cond (nat_le (n + 1) 1) (Some (part ∷ parts)) (child_at depth (n + 1 - 1) parts)) (child_at depth (n + 1) parts))) d
      ∙ ap (λ b. cond {A = Option (List Part)} b (cond (nat_le (n + 1) 1) (Some (part ∷ parts)) (child_at depth (n + 1 - 1) parts)) (child_at depth (n + 1) parts)) c
      ∙ ap (λ b. cond {A = Option (List Part)} b (Some (part ∷ parts)) (child_at depth (n + 1 - 1) parts)) l) ∙ h in
      let zero_is : n ≡ 0 = grind (arith, nat_tests) in
      subst (λ m. IsChild depth m (part ∷ parts) found) (sym zero_is) (first part parts found c e)
  found_step part parts found n false true false d c l same less h =
      let e : child_at depth (n + 1 - 1) parts ≡ Some found =
      sym (ap (λ b. cond {A = Option (List Part)} b None (cond (is_child depth part) (cond (nat_le (n + 1) 1) (Some (part ∷ parts)) (child_at depth (n + 1 - 1) parts)) (child_at depth (n + 1) parts))) d
      ∙ ap (λ b. cond {A = Option (List Part)} b (cond (nat_le (n + 1) 1) (Some (part ∷ parts)) (child_at depth (n + 1 - 1) parts)) (child_at depth (n + 1) parts)) c
      ∙ ap (λ b. cond {A = Option (List Part)} b (Some (part ∷ parts)) (child_at depth (n + 1 - 1) parts)) l) ∙ h in
      let m : ℕ = n - 1 in
      let is : n ≡ m + 1 = grind (arith, nat_tests) in
      let k : child_at depth (m + 1) parts ≡ Some found = ap (λ x. child_at depth x parts) (omega arith) ∙ e in
      subst (λ x. IsChild depth x (part ∷ parts) found) (sym is) (later part parts found m (deeper_is part.depth d) c (less m is k))
  found_step part parts found n false false last d c l same less h =
      let e : child_at depth (n + 1) parts ≡ Some found =
      sym (ap (λ b. cond {A = Option (List Part)} b None (cond (is_child depth part) (cond (nat_le (n + 1) 1) (Some (part ∷ parts)) (child_at depth (n + 1 - 1) parts)) (child_at depth (n + 1) parts))) d
      ∙ ap (λ b. cond {A = Option (List Part)} b (cond (nat_le (n + 1) 1) (Some (part ∷ parts)) (child_at depth (n + 1 - 1) parts)) (child_at depth (n + 1) parts)) c) ∙ h in
      other part parts found n (deeper_is part.depth d) c (same e)

  pub child_found : (n : ℕ) (parts found : List Part) → Found n parts found
  child_found n [] found h = cc
  child_found n (part ∷ parts) found h =
      found_step part parts found n (nat_le part.depth depth) (is_child depth part) (nat_le (n + 1) 1) refl refl refl (λ k. child_found n parts found k) (λ m e k. child_found m parts found k) h

  abbrev pub Missing : ℕ → List Part → Type 0
  Missing n parts = child_at depth (n + 1) parts ≡ None → length (children_of depth parts) ≤ n

  missing_step : (part : Part) (parts : List Part) (n : ℕ) (deep child last : Bool)
      → nat_le part.depth depth ≡ deep → is_child depth part ≡ child → nat_le (n + 1) 1 ≡ last
      → Missing n parts → ((m : ℕ) → n ≡ m + 1 → Missing m parts)
      → Missing n (part ∷ parts)
  missing_step part parts n true child last d c l same less h =
      let not_deep : nat_lt depth part.depth ≡ false = grind (arith, nat_tests) in
      let none : children_of depth (part ∷ parts) ≡ [] = ap (λ b. filter (is_child depth) (cond {A = List Part} b (part ∷ parts_below depth parts) [])) not_deep in
      let is : length (children_of depth (part ∷ parts)) ≡ 0 = ap length none in
      omega arith
  missing_step part parts n false true true d c l same less h =
      let e : ◌≡◌ {A = Option (List Part)} (Some (part ∷ parts)) None =
      sym (ap (λ b. cond {A = Option (List Part)} b None (cond (is_child depth part) (cond (nat_le (n + 1) 1) (Some (part ∷ parts)) (child_at depth (n + 1 - 1) parts)) (child_at depth (n + 1) parts))) d
      ∙ ap (λ b. cond {A = Option (List Part)} b (cond (nat_le (n + 1) 1) (Some (part ∷ parts)) (child_at depth (n + 1 - 1) parts)) (child_at depth (n + 1) parts)) c
      ∙ ap (λ b. cond {A = Option (List Part)} b (Some (part ∷ parts)) (child_at depth (n + 1 - 1) parts)) l) ∙ h in
      cc
  missing_step part parts n false true false d c l same less h =
      let e : child_at depth (n + 1 - 1) parts ≡ None =
      sym (ap (λ b. cond {A = Option (List Part)} b None (cond (is_child depth part) (cond (nat_le (n + 1) 1) (Some (part ∷ parts)) (child_at depth (n + 1 - 1) parts)) (child_at depth (n + 1) parts))) d
      ∙ ap (λ b. cond {A = Option (List Part)} b (cond (nat_le (n + 1) 1) (Some (part ∷ parts)) (child_at depth (n + 1 - 1) parts)) (child_at depth (n + 1) parts)) c
      ∙ ap (λ b. cond {A = Option (List Part)} b (Some (part ∷ parts)) (child_at depth (n + 1 - 1) parts)) l) ∙ h in
      let m : ℕ = n - 1 in
      let is : n ≡ m + 1 = grind (arith, nat_tests) in
      let k : child_at depth (m + 1) parts ≡ None = ap (λ x. child_at depth x parts) (omega arith) ∙ e in
      let fewer : length (children_of depth parts) ≤ m = less m is k in
      let whole : length (children_of depth (part ∷ parts)) ≡ suc (length (children_of depth parts)) =
      ap (λ b. length (filter (is_child depth) (cond {A = List Part} b (part ∷ parts_below depth parts) []))) (deeper_is part.depth d)
      ∙ ap (λ b. length (cond b (part ∷ children_of depth parts) (children_of depth parts))) c in
      omega arith
  missing_step part parts n false false last d c l same less h =
      let e : child_at depth (n + 1) parts ≡ None =
      sym (ap (λ b. cond {A = Option (List Part)} b None (cond (is_child depth part) (cond (nat_le (n + 1) 1) (Some (part ∷ parts)) (child_at depth (n + 1 - 1) parts)) (child_at depth (n + 1) parts))) d
      ∙ ap (λ b. cond {A = Option (List Part)} b (cond (nat_le (n + 1) 1) (Some (part ∷ parts)) (child_at depth (n + 1 - 1) parts)) (child_at depth (n + 1) parts)) c) ∙ h in
      let fewer : length (children_of depth parts) ≤ n = same e in
      let whole : length (children_of depth (part ∷ parts)) ≡ length (children_of depth parts) =
      ap (λ b. length (filter (is_child depth) (cond {A = List Part} b (part ∷ parts_below depth parts) []))) (deeper_is part.depth d)
      ∙ ap (λ b. length (cond b (part ∷ children_of depth parts) (children_of depth parts))) c in
      omega arith

  pub child_missing : (n : ℕ) (parts : List Part) → Missing n parts
  child_missing n [] h = omega arith
  child_missing n (part ∷ parts) h =
      missing_step part parts n (nat_le part.depth depth) (is_child depth part) (nat_le (n + 1) 1) refl refl refl (λ k. child_missing n parts k) (λ m e k. child_missing m parts k) h
