use Rattle.std.proofs.Common.{◌≡◌, ◌≢◌, ◌+◌, ◌<◌, ◌==◌, ℕ, zero, suc, false, List, [], ◌∷◌, ◌++◌, Some, subst, refl, arith, length, take, get_or, slice_get}
use Rattle.std.proofs.lemmas.Bool.{or_parts}
use Rattle.std.proofs.lemmas.Bool.Decides.{nat_tests}
use Rattle.server_settings.specs.Settings.{is_named, names_of, join_names_of}
use Rattle.server_settings.specs.declared.settings.Join.{Join}
use Rattle.server_settings.specs.declared.settings.Place.{Place}

-- the name at a place
pub name_at : (places : List Place) (i : ℕ) (d : Place) → i < length places → slice_get (names_of places) i ≡ Some (get_or places i d).replica
name_at [] i d l = absurd (omega arith)
name_at (place ∷ places) zero d l = refl
name_at (place ∷ places) (suc i) d l = name_at places i d (omega arith)

pub join_name_at : (joins : List Join) (i : ℕ) (d : Join) → i < length joins → slice_get (join_names_of joins) i ≡ Some (get_or joins i d).place.replica
join_name_at [] i d l = absurd (omega arith)
join_name_at (join ∷ joins) zero d l = refl
join_name_at (join ∷ joins) (suc i) d l = join_name_at joins i d (omega arith)

-- a name that the list doesn't have
unnamed_suc : (name : ℕ) (places : List Place) (i : ℕ) (d : Place) → i < length places → is_named name (names_of (take i places)) ≡ false → (get_or places i d).replica ≢ name
    → is_named name (names_of (take (suc i) places)) ≡ false
unnamed_suc name [] i d l none n = absurd (omega arith)
unnamed_suc name (place ∷ places) zero d l none n = let f : (place.replica == name) ≡ false = grind (arith, nat_tests) in rw f refl
unnamed_suc name (place ∷ places) (suc i) d l none n =
    let p = or_parts (place.replica == name) (is_named name (names_of (take i places))) none in
    rw p.0 (unnamed_suc name places i d (omega arith) p.1 n)

pub unnamed_take : (name : ℕ) (places : List Place) (i : ℕ) (d : Place) → i < length places → is_named name (names_of (take i places)) ≡ false → (get_or places i d).replica ≢ name
    → is_named name (names_of (take (i + 1) places)) ≡ false
unnamed_take name places i d l none n =
    let k : suc i ≡ i + 1 = omega arith in
    subst (λ (m : ℕ). is_named name (names_of (take m places)) ≡ false) k (unnamed_suc name places i d l none n)

unjoined_suc : (name : ℕ) (joins : List Join) (i : ℕ) (d : Join) → i < length joins → is_named name (join_names_of (take i joins)) ≡ false → (get_or joins i d).place.replica ≢ name
    → is_named name (join_names_of (take (suc i) joins)) ≡ false
unjoined_suc name [] i d l none n = absurd (omega arith)
unjoined_suc name (join ∷ joins) zero d l none n = let f : (join.place.replica == name) ≡ false = grind (arith, nat_tests) in rw f refl
unjoined_suc name (join ∷ joins) (suc i) d l none n =
    let p = or_parts (join.place.replica == name) (is_named name (join_names_of (take i joins))) none in
    rw p.0 (unjoined_suc name joins i d (omega arith) p.1 n)

pub unjoined_take : (name : ℕ) (joins : List Join) (i : ℕ) (d : Join) → i < length joins → is_named name (join_names_of (take i joins)) ≡ false → (get_or joins i d).place.replica ≢ name
    → is_named name (join_names_of (take (i + 1) joins)) ≡ false
unjoined_take name joins i d l none n =
    let k : suc i ≡ i + 1 = omega arith in
    subst (λ (m : ℕ). is_named name (join_names_of (take m joins)) ≡ false) k (unjoined_suc name joins i d l none n)

-- two lists of names, one after another
pub name_in_first : (names more : List ℕ) (i name : ℕ) → slice_get names i ≡ Some name → slice_get (names ++ more) i ≡ Some name
name_in_first [] more i name h = cc
name_in_first (n ∷ names) more zero name h = h
name_in_first (n ∷ names) more (suc i) name h = name_in_first names more i name h

pub name_in_second : (names more : List ℕ) (i name : ℕ) → slice_get more i ≡ Some name → slice_get (names ++ more) (length names + i) ≡ Some name
name_in_second [] more i name h = let e : i ≡ 0 + i = omega arith in subst (λ (k : ℕ). slice_get more k ≡ Some name) e h
name_in_second (n ∷ names) more i name h =
    let e : suc (length names) + i ≡ suc (length names + i) = omega arith in
    rw e (name_in_second names more i name h)

pub unnamed_both : (names more : List ℕ) (name : ℕ) → is_named name names ≡ false → is_named name more ≡ false → is_named name (names ++ more) ≡ false
unnamed_both [] more name a b = b
unnamed_both (n ∷ names) more name a b =
    let p = or_parts (n == name) (is_named name names) a in
    rw p.0 (unnamed_both names more name p.1 b)
