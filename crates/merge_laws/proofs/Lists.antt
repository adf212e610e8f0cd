use Rattle.std.proofs.Common.{◌≡◌, ◌⊎◌, inl, inr, List, [], ◌∷◌, ◌++◌, refl, ap}
use Rattle.tags_clocks.specs.declared.id.OpId.{OpId}
use Rattle.merge_laws.specs.Orders.{IsIn, HasId}

-- membership in a list with an element in the middle
pub in_middle : {X : Type 0} (x : X) (front back : List X) → IsIn x (front ++ x ∷ back)
in_middle x [] back = inl refl
in_middle x (a ∷ front) back = inr (in_middle x front back)

pub in_rest : {X : Type 0} (x o : X) (front back : List X) → IsIn o (front ++ back) → IsIn o (front ++ x ∷ back)
in_rest x o [] back h = inr h
in_rest x o (a ∷ front) back h = elim h [ inl e ↦ inl e | inr t ↦ inr (in_rest x o front back t) ]

pub in_front : {X : Type 0} (o : X) (front back : List X) → IsIn o front → IsIn o (front ++ back)
in_front o [] back h = absurd h
in_front o (a ∷ front) back h = elim h [ inl e ↦ inl e | inr t ↦ inr (in_front o front back t) ]

pub in_back : {X : Type 0} (o : X) (front back : List X) → IsIn o back → IsIn o (front ++ back)
in_back o [] back h = h
in_back o (a ∷ front) back h = inr (in_back o front back h)

pub in_parts : {X : Type 0} (o : X) (front back : List X) → IsIn o (front ++ back) → IsIn o front ⊎ IsIn o back
in_parts o [] back h = inr h
in_parts o (a ∷ front) back h =
    elim h [ inl e ↦ inl (inl e) | inr t ↦ elim (in_parts o front back t) [ inl u ↦ inl (inr u) | inr u ↦ inr u ] ]

pub in_cases : {X : Type 0} (x o : X) (front back : List X) → IsIn o (front ++ x ∷ back) → (x ≡ o) ⊎ IsIn o (front ++ back)
in_cases x o [] back h = h
in_cases x o (a ∷ front) back h =
    elim h [ inl e ↦ inr (inl e) | inr t ↦ elim (in_cases x o front back t) [ inl e ↦ inl e | inr u ↦ inr (inr u) ] ]

-- an element is between two parts of a list
pub split_at : {X : Type 0} (x : X) (xs : List X) → IsIn x xs → (front : List X) × (back : List X) × (xs ≡ front ++ x ∷ back)
split_at x [] h = absurd h
split_at x (y ∷ ys) h =
    elim h [
      | inl e ↦ ([], ys, ap (λ z. z ∷ ys) e)
      | inr t ↦ let s = split_at x ys t in (y ∷ s.0, s.1, ap (λ zs. y ∷ zs) s.2)
    ]

module _ {O : Type 0} (id : O → OpId) where
  -- the id of an element
  pub id_of_element : (o : O) (os : List O) → IsIn o os → HasId id os (id o)
  id_of_element o [] h = absurd h
  id_of_element o (a ∷ os) h = elim h [ inl e ↦ inl (ap id e) | inr t ↦ inr (id_of_element o os t) ]

  -- the element with an id
  pub element_of_id : (i : OpId) (os : List O) → HasId id os i → (o : O) × IsIn o os × (id o ≡ i)
  element_of_id i [] h = absurd h
  element_of_id i (a ∷ os) h =
      elim h [ inl e ↦ (a, inl refl, e) | inr t ↦ let f = element_of_id i os t in (f.0, inr f.1, f.2) ]

  pub id_in_front : (i : OpId) (front back : List O) → HasId id front i → HasId id (front ++ back) i
  id_in_front i [] back h = absurd h
  id_in_front i (a ∷ front) back h = elim h [ inl e ↦ inl e | inr t ↦ inr (id_in_front i front back t) ]

  pub id_in_back : (i : OpId) (front back : List O) → HasId id back i → HasId id (front ++ back) i
  id_in_back i [] back h = h
  id_in_back i (a ∷ front) back h = inr (id_in_back i front back h)

  pub id_in_parts : (i : OpId) (front back : List O) → HasId id (front ++ back) i → HasId id front i ⊎ HasId id back i
  id_in_parts i [] back h = inr h
  id_in_parts i (a ∷ front) back h =
      elim h [ inl e ↦ inl (inl e) | inr t ↦ elim (id_in_parts i front back t) [ inl u ↦ inl (inr u) | inr u ↦ inr u ] ]
