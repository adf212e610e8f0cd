-- What a keyed hasher holds between two calls.

use Rattle.std.specs.Prelude.{ℕ, List}
use Rattle.sha2.specs.Hashers.{Holds256}
use Rattle.keyed_digest.specs.Hmac.{block_key, inner_text, masked}
use Rattle.keyed_digest.specs.declared.hasher.KeyedHasher.{KeyedHasher}

-- The hasher has this key and this message so far.
abbrev pub Holds : KeyedHasher → List ℕ → List ℕ → Type 0
Holds hasher key message =
    Holds256 hasher.inner (inner_text key message)
    × Holds256 hasher.outer (masked 0x5c (block_key key))
