use Rattle.std.proofs.Common.{◌≡◌, ◌<◌, ℕ, false, true, List, [], ◌∷◌, ◌++◌, append-nil, append_assoc, ap, refl, sym, subst}
use Rattle.server_settings.specs.Settings.{AreNames, AreNew, HavePeers, is_named, join_names_of}
use Rattle.server_settings.specs.declared.settings.Join.{Join}

new_append : (before names : List ℕ) (name : ℕ) → AreNew before names → 0 < name → name < 65536 → is_named name (before ++ names) ≡ false → AreNew before (names ++ name ∷ [])
new_append before [] name a p b n = (p, b, subst (λ (xs : List ℕ). is_named name xs ≡ false) (append-nil before) n, tt)
new_append before (first ∷ names) name a p b n =
    (a.0, a.1, a.2, new_append (before ++ first ∷ []) names name a.3 p b (subst (λ (xs : List ℕ). is_named name xs ≡ false) (sym (append_assoc before (first ∷ []) names)) n))

-- names are lawful and distinct with one further lawful name that they lack
pub names_append : (names : List ℕ) (name : ℕ) → AreNames names → 0 < name → name < 65536 → is_named name names ≡ false → AreNames (names ++ name ∷ [])
names_append names name a p b n = new_append [] names name a p b n

-- one further replica joins, whose peer exists before it
pub peers_append : (names : List ℕ) (joins : List Join) (join : Join) → HavePeers names joins → is_named join.peer (names ++ join_names_of joins) ≡ true → HavePeers names (joins ++ join ∷ [])
peers_append names [] join h n = (subst (λ (xs : List ℕ). is_named join.peer xs ≡ true) (append-nil names) n, tt)
peers_append names (first ∷ joins) join h n =
    (h.0, peers_append (names ++ first.place.replica ∷ []) joins join h.1 (subst (λ (xs : List ℕ). is_named join.peer xs ≡ true) (sym (append_assoc names (first.place.replica ∷ []) (join_names_of joins))) n))

pub join_names_append : (joins : List Join) (join : Join) → join_names_of (joins ++ join ∷ []) ≡ join_names_of joins ++ join.place.replica ∷ []
join_names_append [] join = refl
join_names_append (first ∷ joins) join = ap (λ (xs : List ℕ). first.place.replica ∷ xs) (join_names_append joins join)
