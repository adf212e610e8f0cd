-- The digest of a frame: half of an HMAC-SHA256 (RFC 2104) in hex.

use Rattle.std.specs.Prelude.{◌≡◌, ℕ, ◌++◌, Bool, not, ◌==◌, IsTrue, List, length, take}
use Rattle.std.specs.Int.{w64, to_be_bytes}
use Rattle.std.specs.List.{list_all}
use Rattle.hex.specs.Hex.{encode_lower}
use Rattle.keyed_digest.specs.Hmac.{hmac}

-- A frame's digest, as text, by its number in its stream, the number of its payload's octets, and
-- these octets.
abbrev pub Digest : Type 0
Digest = ℕ → ℕ → List ℕ → List ℕ

-- No octet is LF (10).
abbrev pub has_no_lf : List ℕ → Bool
has_no_lf octets = list_all (λ octet. not (octet == 10)) octets

-- Each digest can be in a header.
pub record HasTags (digest : Digest) : Type 0 where
  pub long : (number announced : ℕ) (payload : List ℕ)
      → length (digest number announced payload) ≡ 32
  pub no_lf : (number announced : ℕ) (payload : List ℕ)
      → IsTrue (has_no_lf (digest number announced payload))

-- The first 16 octets in hex.
abbrev pub half_in_hex : List ℕ → List ℕ
half_in_hex digest = encode_lower (take 16 digest)

-- The digests under a key: the first half of HMAC-SHA256 over the number and the count, of 8 octets
-- each, and the payload.
unfoldable pub frame_digest : List ℕ → Digest
frame_digest key number announced payload =
    half_in_hex (hmac key (to_be_bytes w64 number ++ (to_be_bytes w64 announced ++ payload)))
