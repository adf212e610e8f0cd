-- What an end that knows the secret can compute from the two hello lines.

use Rattle.std.specs.Prelude.{ℕ, List, [], ◌∷◌, ◌++◌, codes}
use Rattle.keyed_digest.specs.Hmac.{hmac}
use Rattle.link_wire.specs.declared.secret.Side.{Side}
use Rattle.link_wire.specs.declared.secret.Side.TheVariants.{Dialer, Acceptor}

-- The name of an end.
abbrev pub side_text : Side → List ℕ
side_text Dialer = codes "dialer"
side_text Acceptor = codes "acceptor"

-- Three lines, each with its end (10).
abbrev pub three_lines : List ℕ → List ℕ → List ℕ → List ℕ
three_lines first second third = first ++ 10 ∷ (second ++ 10 ∷ (third ++ 10 ∷ []))

-- What proves that an end knows the secret: of its name, the dialer's hello and the acceptor's.
unfoldable pub proof_digest : List ℕ → Side → List ℕ → List ℕ → List ℕ
proof_digest secret side dialer acceptor =
    hmac secret (three_lines (side_text side) dialer acceptor)

-- The key of the frames that an end writes.
unfoldable pub frame_key : List ℕ → Side → List ℕ → List ℕ → List ℕ
frame_key secret side dialer acceptor =
    hmac secret (three_lines (side_text side ++ codes " key") dialer acceptor)
