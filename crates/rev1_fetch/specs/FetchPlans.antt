-- What the profile is asked for in place of a FETCH of IMAP4rev1 (RFC 3501, section 6.4.5).

use Rattle.std.specs.Prelude.{◌≡◌, ◌≢◌, ◌⊎◌, ℕ, Bool, ◌&&◌, List, [], ◌++◌, codes, Option, Some}
use Rattle.std.specs.Prelude.{None, if◌then◌else◌}
use Rattle.rev1_fetch.specs.FetchArguments.{FetchArguments, fetch_arguments}
use Rattle.rev1_fetch.specs.FetchWords.{is_macro, macro_items}
use Rattle.rev1_fetch.specs.ItemPlaces.{items_of}
use Rattle.rev1_fetch.specs.ReadItems.{AreAsked, AreUnread, Asked}
use Rattle.rev1_fetch.specs.declared.item_fault.ItemFault.TheVariants as faults
use Rattle.rev1_fetch.specs.declared.plan.FetchRequest.{FetchRequest}
use Rattle.rev1_fetch.specs.declared.plan.FetchRequest.TheVariants.{Planned, PartZero}

-- The items that are meant by an item without parentheses, or by items between them; ALL and FULL
-- mean others (RFC 3501, section 6.4.5).
abbrev pub meant_items : Bool → List ℕ → List ℕ
meant_items is_single items = if is_single && is_macro items then macro_items items else items

-- The items that a client asks for.
abbrev pub asked_items : FetchArguments → List (List ℕ)
asked_items given = items_of (meant_items given.is_single given.items)

-- The arguments of the profile: the client's other items and once the whole text; BODY[] if an item
-- sets `\Seen`.
abbrev pub planned_text : List ℕ → List ℕ → Bool → List ℕ → List ℕ
planned_text front plain sets_seen back =
    front
    ++ (codes "("
    ++ (plain
    ++ ((if sets_seen then codes "BODY[]" else codes "BODY.PEEK[]") ++ (codes ")" ++ back))))

-- What items ask for, between these octets: nothing if none needs the whole text.
abbrev pub IsRequestRead : List ℕ → List ℕ → Asked → Option FetchRequest → Type 0
IsRequestRead front back asked None = asked.items ≡ []
IsRequestRead front back asked (Some PartZero) = ⊥
IsRequestRead front back asked (Some (Planned rest plan)) =
    (asked.items ≢ [])
    × (plan ≡ asked.items)
    × (rest.items ≡ planned_text front asked.plain asked.sets_seen back)

-- What a FETCH with these arguments asks for: what its items ask for; nothing if one of them is
-- none; or the number of a part is wrong.
abbrev pub IsRequestOf : FetchArguments → Option FetchRequest → Type 0
IsRequestOf given (Some PartZero) = AreUnread (asked_items given) faults.PartZero
IsRequestOf given request =
    ((asked : Asked) × AreAsked (asked_items given) asked
    × IsRequestRead given.front given.back asked request)
    ⊎ ((request ≡ None) × AreUnread (asked_items given) faults.Unknown)

abbrev pub IsRequestBy : Option FetchArguments → Option FetchRequest → Type 0
IsRequestBy None request = request ≡ None
IsRequestBy (Some given) request = IsRequestOf given request

-- What a FETCH asks for beside the profile; nothing if its arguments aren't such.
abbrev pub IsRequest : List ℕ → Option FetchRequest → Type 0
IsRequest rest request = IsRequestBy (fetch_arguments rest) request
