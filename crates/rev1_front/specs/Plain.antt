-- The response to AUTHENTICATE PLAIN (RFC 4616, section 2; RFC 3501, section 6.2.2).

use Rattle.std.specs.Prelude.{◌≡◌, ◌≢◌, ◌⊎◌, ℕ, List, [], ◌∷◌, ◌++◌, codes}
use Rattle.base64.specs.Engines.{standard}
use Rattle.base64.specs.GeneralPurpose.{IsBytes, encode_of}
use Rattle.imap_query.specs.Patterns.{IsIn}
use Rattle.rev1_front.specs.declared.authentication.PlainResponse.{PlainResponse}
use Rattle.rev1_front.specs.declared.authentication.PlainResponse.TheVariants.{Login, OtherUser}
use Rattle.rev1_front.specs.declared.authentication.PlainResponse.TheVariants.{Malformed}

-- A message of PLAIN: an identity to act as, the user and the password, with a NUL (0) between them
-- and none in them. Only the identity may be empty (RFC 4616, section 2).
pub record IsMessage (identity user password message : List ℕ) : Type 0 where
  pub parts : message ≡ identity ++ 0 ∷ (user ++ 0 ∷ password)
  pub no_nul_in_identity : ¬ IsIn 0 identity
  pub no_nul_in_user : ¬ IsIn 0 user
  pub no_nul_in_password : ¬ IsIn 0 password
  pub has_user : user ≢ []
  pub has_password : password ≢ []

-- What a message says: nobody acts as another.
abbrev pub IsPlainResponse : List ℕ → PlainResponse → Type 0
IsPlainResponse message (Login user password) =
    (identity : List ℕ)
    × IsMessage identity user password message
    × ((identity ≡ []) ⊎ (identity ≡ user))
IsPlainResponse message OtherUser =
    (identity user password : List ℕ)
    × IsMessage identity user password message
    × (identity ≢ []) × (identity ≢ user)
IsPlainResponse message Malformed =
    (identity user password : List ℕ) → IsMessage identity user password message → ⊥

-- What a response says: the base64 of a message's octets (RFC 4648, section 4).
abbrev pub IsResponse : List ℕ → PlainResponse → Type 0
IsResponse response said =
    ((message : List ℕ) × IsBytes message × (response ≡ encode_of standard message)
    × IsPlainResponse message said)
    ⊎ (((message : List ℕ) → IsBytes message → response ≡ encode_of standard message → ⊥)
    × (said ≡ Malformed))

-- What a line says: a response and CRLF.
abbrev pub IsResponseLine : List ℕ → PlainResponse → Type 0
IsResponseLine line said =
    ((response : List ℕ) × (line ≡ response ++ codes "\r\n") × IsResponse response said)
    ⊎ (((response : List ℕ) → line ≡ response ++ codes "\r\n" → ⊥) × (said ≡ Malformed))
