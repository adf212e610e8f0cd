-- Names that are decoded.
use Rattle.std.proofs.Common.{◌≡◌, List, ℕ, Option, Some, None, refl, subst, sym, string_bytes}
use Rattle.std.specs.Prelude.{String}
use Rattle.std.specs.Option.{option_map}
use Rattle.std.specs.Str.{IsUtf8}
use Rattle.std.proofs.lemmas.Str.{IsUtf8-string_bytes}
use Rattle.mailbox_utf7.specs.ModifiedUtf7.{IsDecoding}
use Rattle.rev1_front.specs.Names.{IsDecoded}

decoded_by : (octets : List ℕ) (read : Option (List ℕ)) → IsDecoding octets read → ((name : List ℕ) → read ≡ Some name → IsUtf8 name) → IsDecoded octets read
decoded_by octets None d u = λ name is e. let k = (d name is).1 e in cc
decoded_by octets (Some name) d u = (u name refl, (d name (u name refl)).0 refl)

text_utf8 : {Z : Type 0} (r : Option (String Z)) (name : List ℕ) → option_map string_bytes r ≡ Some name → IsUtf8 name
text_utf8 None name e = cc
text_utf8 (Some s) name e = let k : string_bytes s ≡ name = cc in subst IsUtf8 k (IsUtf8-string_bytes s)

-- what is decoded is a text
pub decoded_text : {Z : Type 0} (octets : List ℕ) (r : Option (String Z)) → IsDecoding octets (option_map string_bytes r) → IsDecoded octets (option_map string_bytes r)
decoded_text octets r d = decoded_by octets (option_map string_bytes r) d (text_utf8 r)

pub decoded_some : {Z : Type 0} (octets bytes : List ℕ) (r : Option (String Z)) (name : String Z) → r ≡ Some name → bytes ≡ string_bytes name → IsDecoding octets (option_map string_bytes r) → IsDecoded octets (Some bytes)
decoded_some {Z} octets bytes r name is e d =
    subst (λ (b : List ℕ). IsDecoded octets (Some b)) (sym e) (subst (λ (o : Option (String Z)). IsDecoded octets (option_map string_bytes o)) is (decoded_text octets r d))
