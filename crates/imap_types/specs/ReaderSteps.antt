-- The parts of readers of texts: a reading function gives what a text begins with and the rest, or
-- nothing if the text can't be read.

use Rattle.std.specs.Prelude.{◌≡◌, ℕ, ◌==◌, List, [], ◌∷◌, ◌++◌, Option, Some, None, Result, Ok}
use Rattle.std.specs.Prelude.{Err, if◌then◌else◌}

infixl 10 ◌>>=◌
-- The result of the next reader on the value that was read and the rest of the text, if both can be
-- read.
abbrev pub ◌>>=◌ : {A B : Type 0} → Option A → (A → Option B) → Option B
None >>= f = None
(Some x) >>= f = f x

-- The code's result is what the reading function gives; `Fails` says what a fault means for the
-- reading function.
abbrev pub IsReadingBy : {X Y F : Type 0} → (F → Option Y → Type 0) → (X → Y) → Result X F
    → Option Y
    → Type 0
IsReadingBy Fails view (Ok x) read = read ≡ Some (view x)
IsReadingBy Fails view (Err fault) read = Fails fault read

-- The rest of a text after the given octets, if they are its prefix.
abbrev pub after : List ℕ → List ℕ → Option (List ℕ)
after [] octets = Some octets
after (expected ∷ more) [] = None
after (expected ∷ more) (octet ∷ octets) = if octet == expected then after more octets else None

-- The list that was read, with `front` before it, if it could be read.
abbrev pub with_prefix : {X Y : Type 0} → List X → Option (List X × Y) → Option (List X × Y)
with_prefix front None = None
with_prefix front (Some x) = Some (front ++ x.0, x.1)
