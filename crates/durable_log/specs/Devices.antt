-- Devices as contracts see them, and octets on a device as calls leave them.

use Rattle.std.specs.Prelude.{◌≡◌, ℕ, ◌+◌, Bool, true, ◌==◌, List, ◌++◌, drop, length, take}
use Rattle.std.specs.List.{list_all}

-- A device: whether contracts say what it contains (they say it of no file); all octets, as a read
-- returns them; the first octets, which were synced and not written since, so that a crash leaves
-- them; and the number of first octets of which the next sync says so.
pub record DeviceState : Type 0 where
  pub is_known : Bool
  pub contents : List ℕ
  pub synced : List ℕ
  pub certain : ℕ

-- Octets over which others were written at a place.
abbrev pub with_octets_at : ℕ → List ℕ → List ℕ → List ℕ
with_octets_at place octets contents =
    take place contents ++ (octets ++ drop (place + length octets) contents)

-- Whether all octets are zero.
abbrev pub are_zeros : List ℕ → Bool
are_zeros octets = list_all (λ octet. octet == 0) octets

-- After these octets there are only zeros, which later lines may use.
abbrev pub IsPadded : List ℕ → List ℕ → Type 0
IsPadded octets contents =
    (zeros : List ℕ) × (contents ≡ octets ++ zeros) × (are_zeros zeros ≡ true)
