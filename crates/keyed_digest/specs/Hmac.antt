-- HMAC over SHA-256, whose blocks have 64 octets (FIPS 198-1, section 4; RFC 2104, section 2).

use Rattle.std.specs.Prelude.{ℕ, ◌-◌, nat_le, List, ◌++◌, length, map, replicate, bit_xor}
use Rattle.std.specs.Prelude.{if◌then◌else◌}
use Rattle.sha2.specs.Sha256.{sha256}

-- Octets, and zeros up to a whole block.
abbrev pub zero_filled : List ℕ → List ℕ
zero_filled octets = octets ++ replicate (64 - length octets) 0

-- The key as one block: a longer key is replaced by its digest (steps 1 to 3).
abbrev pub block_key : List ℕ → List ℕ
block_key key = if nat_le (length key) 64 then zero_filled key else zero_filled (sha256 key)

-- Each octet combined with the mask by exclusive or.
abbrev pub masked : ℕ → List ℕ → List ℕ
masked mask block = map (λ octet. bit_xor octet mask) block

-- The text that is hashed first: the key under ipad, 0x36, and the message (steps 4 and 5).
abbrev pub inner_text : List ℕ → List ℕ → List ℕ
inner_text key message = masked 0x36 (block_key key) ++ message

-- The text that is hashed then: the key under opad, 0x5c, and the first digest (steps 7 and 8).
abbrev pub outer_text : List ℕ → List ℕ → List ℕ
outer_text key digest = masked 0x5c (block_key key) ++ digest

-- The digest of a message under a key (steps 6 and 9).
unfoldable pub hmac : List ℕ → List ℕ → List ℕ
hmac key message = sha256 (outer_text key (sha256 (inner_text key message)))
