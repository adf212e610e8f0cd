-- The lines that begin a link, without their ends: what they are, and how the readers take them
-- apart.

use Rattle.std.specs.Prelude.{◌≡◌, ◌≢◌, ◌≤◌, ℕ, List, [], ◌∷◌, ◌++◌, length, Option, Some, None}
use Rattle.std.specs.Prelude.{Result, Ok, Err, codes, if◌then◌else◌}
use Rattle.std.specs.Fmt.{decimal}
use Rattle.std.specs.Str.{bytes_eq}
use Rattle.hex.specs.declared.error.FromHexError.{FromHexError}
use Rattle.hex.specs.Hex.{decode_sized, encode_lower}
use Rattle.imap_types.specs.Escape.{AreOctets}
use Rattle.text_fields.specs.FieldReading.{◌>>=◌, cut_at, number_at, replica_at}
use Rattle.text_fields.specs.Fields.{IsReplica}
use Rattle.link_wire.specs.declared.hello.Hello.{Hello}
use Rattle.link_wire.specs.declared.hello.HelloFault.{HelloFault}
use Rattle.link_wire.specs.declared.hello.HelloFault.TheVariants.{NotInForm, OtherVersion}

-- `count` octets.
abbrev pub AreOctetsOf : ℕ → List ℕ → Type 0
AreOctetsOf count octets = AreOctets octets × (length octets ≡ count)

-- A hello that can be written.
pub record IsHello (hello : Hello) : Type 0 where
  pub own : IsReplica hello.own
  pub other : IsReplica hello.other
  pub run : AreOctetsOf 16 hello.run
  pub nonce : AreOctetsOf 32 hello.nonce

-- A hello of version 1: the own name, the other's, and in hex the octets drawn for the process and
-- for the connection.
abbrev pub hello_text : Hello → List ℕ
hello_text hello =
    codes "link 1 " ++ decimal hello.own ++ 32
    ∷ (decimal hello.other ++ 32 ∷ (encode_lower hello.run ++ 32 ∷ encode_lower hello.nonce))

-- The line spells the hello.
abbrev pub IsHelloSpelled : Hello → List ℕ → Type 0
IsHelloSpelled hello line = IsHello hello × (line ≡ hello_text hello)

-- The line begins as a hello of another version.
pub record HasOtherVersion (line : List ℕ) : Type 0 where
  pub version : ℕ
  pub fields : List ℕ
  pub small : version ≤ 4294967295
  pub other : version ≢ 1
  pub text_is : line ≡ codes "link " ++ decimal version ++ 32 ∷ fields

-- What is wrong with a hello's line.
abbrev pub IsHelloFault : HelloFault → List ℕ → Type 0
IsHelloFault NotInForm line =
    ((hello : Hello) → ¬ IsHelloSpelled hello line) × ¬ HasOtherVersion line
IsHelloFault OtherVersion line = HasOtherVersion line

-- The proof that an end knows the secret: the digest in hex.
abbrev pub proof_text : List ℕ → List ℕ
proof_text digest = codes "proof " ++ encode_lower digest

-- The line spells the proof.
abbrev pub IsProofSpelled : List ℕ → List ℕ → Type 0
IsProofSpelled digest line = AreOctetsOf 32 digest × (line ≡ proof_text digest)

-- A line with its end (10).
abbrev pub with_end : List ℕ → List ℕ
with_end line = line ++ 10 ∷ []

-- Octets that were decoded, if their hex is in lower case.
abbrev pub octets_of : List ℕ → Result (List ℕ) FromHexError → Option (List ℕ)
octets_of text (Ok octets) = if bytes_eq (encode_lower octets) text then Some octets else None
octets_of text (Err error) = None

-- The octets that lower-case hex spells, if there are `count` of them.
unfoldable pub octets_at : ℕ → List ℕ → Option (List ℕ)
octets_at count text = octets_of text (decode_sized text count)

-- The fields of a hello after its version.
unfoldable pub hello_at : List ℕ → Option Hello
hello_at fields = do
  first ← cut_at 32 fields
  own ← replica_at first.0
  second ← cut_at 32 first.1
  other ← replica_at second.0
  third ← cut_at 32 second.1
  run ← octets_at 16 third.0
  nonce ← octets_at 32 third.1
  Some (record { own = own; other = other; run = run; nonce = nonce })

-- The text after this first word and a space.
unfoldable pub after_word : List ℕ → List ℕ → Option (List ℕ)
after_word word line = do
  parts ← cut_at 32 line
  if bytes_eq parts.0 word then Some parts.1 else None

-- The version of a hello and its other fields.
unfoldable pub version_at : List ℕ → Option (ℕ × List ℕ)
version_at line = do
  fields ← after_word (codes "link") line
  parts ← cut_at 32 fields
  version ← number_at 4294967295 parts.0
  Some (version, parts.1)

-- The digest of a proof.
unfoldable pub proof_at : List ℕ → Option (List ℕ)
proof_at line = do
  fields ← after_word (codes "proof") line
  octets_at 32 fields
