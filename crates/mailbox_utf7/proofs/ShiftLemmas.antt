use Rattle.std.proofs.Common.{◌≡◌, ℕ, ◌+◌, ◌*◌, ◌/◌, ◌%◌, List, [], ◌∷◌, ◌++◌, ap, sym, ◌∙◌, arith, refl, Option, Some, None}
use Rattle.std.proofs.lemmas.List.{append-nil}
use Rattle.base64.specs.GeneralPurpose.{IsBytes, IsConsistent, config_padding, decoded_of, encode_of, engine_padding}
use Rattle.base64.specs.Rfc4648.{encode, encode_symbols}
use Rattle.base64.specs.declared.engine.general_purpose.GeneralPurpose.{GeneralPurpose}
use Rattle.base64.proofs.EngineFacts.{decode_of-encode_of}
use Rattle.base64.proofs.Streams.{decoded_of-ok}
use Rattle.mailbox_utf7.specs.Engine.{IsMailboxEngine}
use Rattle.mailbox_utf7.specs.ModifiedUtf7.{octets_of_units, symbols}
use Rattle.mailbox_utf7.specs.Reading.{joined, units_of, with_unit}

-- what the engine encodes
pub encode_of_mailbox : (e : GeneralPurpose) (octets : List ℕ) → IsMailboxEngine e → encode_of e octets ≡ encode_symbols symbols octets
encode_of_mailbox e octets h =
    (λ i. encode (h.has_symbols i) (engine_padding e) (config_padding (h.has_no_padding i)) octets) ∙ append-nil _

-- what it encodes is decoded again
pub decoded_again : (e : GeneralPurpose) (octets : List ℕ) → IsMailboxEngine e → IsBytes octets → decoded_of e (encode_symbols symbols octets) ≡ Some octets
decoded_again e octets h b =
    let consistent : IsConsistent e = rw h.has_no_padding refl in
    ap (decoded_of e) (sym (encode_of_mailbox e octets h)) ∙ decoded_of-ok e _ octets (decode_of-encode_of e octets consistent b)

-- units as octets
pub octets_of_units-append : (xs ys : List ℕ) → octets_of_units (xs ++ ys) ≡ octets_of_units xs ++ octets_of_units ys
octets_of_units-append [] ys = refl
octets_of_units-append (x ∷ xs) ys = ap (λ os. (x / 256) ∷ (x % 256) ∷ os) (octets_of_units-append xs ys)

pub units_of_octets : (units : List ℕ) → units_of (octets_of_units units) ≡ Some units
units_of_octets [] = refl
units_of_octets (u ∷ us) =
    let e : u / 256 * 256 + u % 256 ≡ u = omega arith in
    ap (with_unit (u / 256 * 256 + u % 256)) (units_of_octets us) ∙ ap (λ n. Some (n ∷ us)) e

-- one more unit in the front
pub joined_unit : (front : List ℕ) (unit : ℕ) (units : Option (List ℕ)) → joined (Some front) (with_unit unit units) ≡ joined (Some (front ++ unit ∷ [])) units
joined_unit front unit None = refl
joined_unit front unit (Some units) = ap Some (front_one front unit units) where
  front_one : (front : List ℕ) (unit : ℕ) (units : List ℕ) → front ++ unit ∷ units ≡ (front ++ unit ∷ []) ++ units
  front_one [] unit units = refl
  front_one (x ∷ front) unit units = ap (λ xs. x ∷ xs) (front_one front unit units)
