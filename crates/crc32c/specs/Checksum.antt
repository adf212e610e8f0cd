-- CRC-32C as RFC 9260, appendix A, defines it. The octets are the coefficients of a polynomial over
-- the field of two elements, the least bit of each octet first. The checksum is the remainder of
-- its division by 0x1EDC6F41, whose bits in that order are 0x82F63B78.

use Rattle.std.specs.Prelude.{ℕ, zero, suc, ◌-◌, ◌/◌, ◌%◌, ◌==◌, bit_xor, if◌then◌else◌, List, []}
use Rattle.std.specs.Prelude.{◌∷◌}

-- The register after a bit: a step of the division.
abbrev pub register_after_bit : ℕ → ℕ
register_after_bit register =
    if register % 2 == 1 then bit_xor (register / 2) 0x82F63B78 else register / 2

-- The register after a number of bits.
unfoldable pub register_after_bits : ℕ → ℕ → ℕ
register_after_bits zero register = register
register_after_bits (suc bits) register = register_after_bit (register_after_bits bits register)

-- The register after octets.
abbrev pub register_after : ℕ → List ℕ → ℕ
register_after register [] = register
register_after register (octet ∷ octets) =
    register_after (register_after_bits 8 (bit_xor register octet)) octets

-- The checksum: all bits of the register are set at first, and inverted at the end.
unfoldable pub crc32c : List ℕ → ℕ
crc32c octets = 0xFFFFFFFF - register_after 0xFFFFFFFF octets
