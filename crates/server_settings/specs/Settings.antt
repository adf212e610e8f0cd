-- The replicas that a command line names, the form of the words that name them, the limits on
-- clients, and the bound of the journals.

use Rattle.std.specs.Prelude.{◌≡◌, ◌≢◌, ◌<◌, ◌≤◌, ◌==◌, ◌*◌, ◌^◌, ◌⊎◌, ℕ, Bool, false, true, List, []}
use Rattle.std.specs.Prelude.{◌∷◌, ◌++◌, All, Option, None, Some, codes, map, option_map}
use Rattle.std.specs.Borrow.{Bor}
use Rattle.std.specs.Fmt.{decimal}
use Rattle.std.specs.List.{list_any}
use Rattle.std.specs.Str.Parse.{IsNumeral, digits_value, without_leading_plus}
use Rattle.server_settings.specs.declared.settings.Access.{Access}
use Rattle.server_settings.specs.declared.settings.Access.TheVariants.{Password, Preauth}
use Rattle.server_settings.specs.declared.settings.GivenAccess.{GivenAccess}
use Rattle.server_settings.specs.declared.settings.GivenAccess.TheVariants.{PassFile, Whole}
use Rattle.server_settings.specs.declared.settings.Join.{Join}
use Rattle.server_settings.specs.declared.settings.Place.{Place}

-- The names of the replicas.
abbrev pub names_of : List Place → List ℕ
names_of places = map (λ (place : Place). place.replica) places

-- Whether the list has this name.
abbrev pub is_named : ℕ → List ℕ → Bool
is_named name names = list_any (λ other. other == name) names

-- Each name is from 1 to 65,535, and differs from the given ones and from all before it.
abbrev pub AreNew : List ℕ → List ℕ → Type 0
AreNew before [] = Unit {0}
AreNew before (name ∷ names) =
    (0 < name)
    × (name < 65536)
    × (is_named name before ≡ false)
    × AreNew (before ++ name ∷ []) names

-- Each name is from 1 to 65,535, and the names are distinct.
abbrev pub AreNames : List ℕ → Type 0
AreNames names = AreNew [] names

-- The names of the replicas that are to join.
abbrev pub join_names_of : List Join → List ℕ
join_names_of joins = map (λ (join : Join). join.place.replica) joins

-- Each takes the operations of a replica with one of these names, or of one that joins before it.
abbrev pub HavePeers : List ℕ → List Join → Type 0
HavePeers names [] = Unit {0}
HavePeers names (join ∷ joins) =
    (is_named join.peer names ≡ true) × HavePeers (names ++ join.place.replica ∷ []) joins

-- The replicas that also listen elsewhere are among those with these names, each once.
abbrev pub AreAmong : List ℕ → List Place → Type 0
AreAmong names places =
    AreNames (names_of places)
    × All (λ (name : ℕ). is_named name names ≡ true) (names_of places)

-- The text is a replica's name: the digits of a number from 1 to 65,535, without leading zeros.
abbrev pub IsNameText : List ℕ → ℕ → Type 0
IsNameText text name = (0 < name) × (name < 65536) × (text ≡ decimal name)

-- The text is a replica with its address: its name, `=` (61), and an address of at least one octet.
-- No name has a `=`, so this one is the text's first.
abbrev pub IsPlaceText : List ℕ → Place → Type 0
IsPlaceText text place =
    (name : List ℕ)
    × IsNameText name place.replica
    × (place.address.now ≢ [])
    × (text ≡ name ++ 61 ∷ place.address.now)

-- The texts stand for these, one for each, in their order.
abbrev pub AreTexts : {A : Type 0} → (List ℕ → A → Type 0) → List (List ℕ) → List A → Type 0
AreTexts IsText [] [] = Unit {0}
AreTexts IsText (text ∷ texts) (value ∷ values) =
    IsText text value × AreTexts IsText texts values
AreTexts IsText _ _ = ⊥

-- The text is a replica that joins: the replica with its address, `/` (47), and the name of its
-- peer. No name has a `/`, so this one is the text's last.
abbrev pub IsJoinText : List ℕ → Join → Type 0
IsJoinText text join =
    (place peer : List ℕ)
    × IsPlaceText place join.place
    × IsNameText peer join.peer
    × (text ≡ place ++ 47 ∷ peer)

-- The text is a number: its decimal digits, at least one, with or without leading zeros and a
-- leading `+`.
abbrev pub IsNumberText : List ℕ → ℕ → Type 0
IsNumberText text number =
    IsNumeral 10 (without_leading_plus text)
    × (number ≡ digits_value 10 (without_leading_plus text))

-- The number of an option, by its value: `otherwise` if it isn't given, and else the number from 1
-- to `most` that the value is.
abbrev pub IsNumberOption : Option (List ℕ) → ℕ → ℕ → ℕ → Type 0
IsNumberOption None otherwise most number = number ≡ otherwise
IsNumberOption (Some text) otherwise most number =
    IsNumberText text number × (0 < number) × (number ≤ most)

-- The text is a unit of this many octets: no text is a single octet, and `K`, `M` and `G` are
-- powers of 1,024.
abbrev pub IsUnit : List ℕ → ℕ → Type 0
IsUnit text octets =
    ((text ≡ []) × (octets ≡ 1))
    ⊎ ((text ≡ codes "K") × (octets ≡ 1024))
    ⊎ ((text ≡ codes "M") × (octets ≡ 1024 ^ 2))
    ⊎ ((text ≡ codes "G") × (octets ≡ 1024 ^ 3))

-- The text is a number followed by its unit, and this many octets, fewer than 2 ^ 64.
abbrev pub IsOctetsText : List ℕ → ℕ → Type 0
IsOctetsText text octets =
    (digits unit : List ℕ)
    × (number size : ℕ)
    × (text ≡ digits ++ unit)
    × IsNumberText digits number
    × IsUnit unit size
    × (octets ≡ number * size)
    × (octets < 2 ^ 64)

-- The most octets that each journal may take, by the value of `--journal`: 64 * 1,024 * 1,024 if it
-- isn't given, and without a bound if it is `all`.
abbrev pub IsJournalBound : Option (List ℕ) → Option ℕ → Type 0
IsJournalBound None bound = bound ≡ Some (64 * 1024 * 1024)
IsJournalBound (Some text) None = text ≡ codes "all"
IsJournalBound (Some text) (Some octets) = IsOctetsText text octets

-- Who may use the server: every client, or one that gives this user and this password. There is no
-- access for any other combination.
abbrev pub access_of : Bool → Option (Bor (List ℕ)) → Option (Bor (List ℕ)) → Option Access
access_of true None None = Some Preauth
access_of false (Some user) (Some pass) = Some (Password user pass)
access_of _ _ _ = None

-- The same where the password may be that of a file: the file takes the place of the password.
abbrev pub given_access_of : Bool → Option (Bor (List ℕ)) → Option (Bor (List ℕ))
    → Option (Bor (List ℕ)) → Option GivenAccess
given_access_of preauth user pass None = option_map Whole (access_of preauth user pass)
given_access_of false (Some user) None (Some path) = Some (PassFile user path)
given_access_of _ _ _ (Some path) = None

-- The access, with this password if it is one of a file.
abbrev pub access_with_pass : GivenAccess → Bor (List ℕ) → Access
access_with_pass (Whole access) pass = access
access_with_pass (PassFile user path) pass = Password user pass
