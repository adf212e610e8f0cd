use Rattle.std.proofs.Common.{◌≡◌, ℕ, zero, suc, ◌<◌, Bool, true, false, ◌&&◌, List, [], ◌∷◌, length, IsTrue, get_or, ap, arith, refl}
use Rattle.std.proofs.lemmas.Bool.{and_parts}
use Rattle.imap_types.specs.DateTimes.{fits_symbol, HasPicture}

-- whether a text has the form of a picture, as one test
abbrev pub has_picture : List ℕ → List ℕ → Bool
has_picture [] [] = true
has_picture [] (octet ∷ octets) = false
has_picture (symbol ∷ symbols) [] = false
has_picture (symbol ∷ symbols) (octet ∷ octets) = fits_symbol symbol octet && has_picture symbols octets

by_place : (symbol octet : ℕ) (symbols octets : List ℕ) → fits_symbol symbol octet ≡ true → ((k : ℕ) → k < length symbols → IsTrue (fits_symbol (get_or symbols k 0) (get_or octets k 0))) → (k : ℕ) → k < length (symbol ∷ symbols) → IsTrue (fits_symbol (get_or (symbol ∷ symbols) k 0) (get_or (octet ∷ octets) k 0))
by_place symbol octet symbols octets e h zero l = e
by_place symbol octet symbols octets e h (suc k) l = h k (omega arith)

pub pictured_by : (symbols octets : List ℕ) → has_picture symbols octets ≡ true → HasPicture symbols octets
pictured_by [] [] h = (refl, λ k l. absurd (omega arith))
pictured_by [] (octet ∷ octets) h = cc
pictured_by (symbol ∷ symbols) [] h = cc
pictured_by (symbol ∷ symbols) (octet ∷ octets) h =
    let p = and_parts _ _ h in
    let r = pictured_by symbols octets p.1 in
    (ap suc r.0, by_place symbol octet symbols octets p.0 r.1)
