use Rattle.std.proofs.Common.{◌≡◌, inl, inr, ℕ, List, zero, suc, ◌+◌, ◌-◌, ◌*◌, ◌≤◌, length, take, drop, get_or, slice_index, ◌/◌, ◌%◌, ◌<◌, true, false, eqb, eq-eqb, refl, sym, ap, ◌∙◌, arith, bit_xor, [], ◌∷◌}
use Rattle.std.proofs.Math.Seq.{take-length}
use Rattle.std.proofs.lemmas.Bool.{cases_eq, ne_eqb}
use Rattle.std.proofs.lemmas.Nat.{xor_block, xor_comm, xor_shr}
use Rattle.std.proofs.lemmas.Nat.Bits.{bit_at-lt, bit_at-zero, bit_at_lowest, bit_at_xor, same_from_bits}
use Rattle.std.specs.Int.{bit_at}
use Rattle.crc32c.specs.Checksum.{register_after, register_after_bit, register_after_bits}

-- The division is linear: the register after an exclusive or is the exclusive or of both registers.

-- ---- sums of bits

plus_zero : (a b : ℕ) → a < 2 → b ≡ 0 → (a + b) % 2 ≡ a
plus_zero a b l z = omega arith

plus_regrouped : (a b c : ℕ) → ((a + b) % 2 + c) % 2 ≡ (a + (b + c) % 2) % 2
plus_regrouped a b c = omega arith

plus_swapped : (a k b : ℕ) → ((a + k) % 2 + b) % 2 ≡ ((a + b) % 2 + k) % 2
plus_swapped a k b = omega arith

plus_cancelled : (a b k : ℕ) → ((a + k) % 2 + (b + k) % 2) % 2 ≡ (a + b) % 2
plus_cancelled a b k = omega arith

plus_rests : (a b : ℕ) → (a % 2 + b % 2) % 2 ≡ (a + b) % 2
plus_rests a b = omega arith

-- ---- the exclusive or

pub xor_zero : (x : ℕ) → bit_xor x 0 ≡ x
xor_zero x = same_from_bits (bit_xor x 0) x (λ i. bit_at_xor x 0 i ∙ plus_zero (bit_at x i) (bit_at 0 i) (bit_at-lt x i) (bit_at-zero i))

pub xor_assoc : (a b c : ℕ) → bit_xor (bit_xor a b) c ≡ bit_xor a (bit_xor b c)
xor_assoc a b c =
    same_from_bits (bit_xor (bit_xor a b) c) (bit_xor a (bit_xor b c)) (λ i.
    bit_at_xor (bit_xor a b) c i
    ∙ ap (λ (n : ℕ). (n + bit_at c i) % 2) (bit_at_xor a b i)
    ∙ plus_regrouped (bit_at a i) (bit_at b i) (bit_at c i)
    ∙ sym (bit_at_xor a (bit_xor b c) i ∙ ap (λ (n : ℕ). (bit_at a i + n) % 2) (bit_at_xor b c i)))

xor_swapped : (a k b : ℕ) → bit_xor (bit_xor a k) b ≡ bit_xor (bit_xor a b) k
xor_swapped a k b =
    same_from_bits (bit_xor (bit_xor a k) b) (bit_xor (bit_xor a b) k) (λ i.
    bit_at_xor (bit_xor a k) b i
    ∙ ap (λ (n : ℕ). (n + bit_at b i) % 2) (bit_at_xor a k i)
    ∙ plus_swapped (bit_at a i) (bit_at k i) (bit_at b i)
    ∙ sym (bit_at_xor (bit_xor a b) k i ∙ ap (λ (n : ℕ). (n + bit_at k i) % 2) (bit_at_xor a b i)))

xor_cancelled : (a b k : ℕ) → bit_xor (bit_xor a k) (bit_xor b k) ≡ bit_xor a b
xor_cancelled a b k =
    same_from_bits (bit_xor (bit_xor a k) (bit_xor b k)) (bit_xor a b) (λ i.
    bit_at_xor (bit_xor a k) (bit_xor b k) i
    ∙ (λ j. (bit_at_xor a k i j + bit_at_xor b k i j) % 2)
    ∙ plus_cancelled (bit_at a i) (bit_at b i) (bit_at k i)
    ∙ sym (bit_at_xor a b i))

xor_half : (a b : ℕ) → bit_xor a b / 2 ≡ bit_xor (a / 2) (b / 2)
xor_half a b = xor_shr a b 1

xor_rest : (a b : ℕ) → bit_xor a b % 2 ≡ (a + b) % 2
xor_rest a b =
    sym (bit_at_lowest (bit_xor a b))
    ∙ bit_at_xor a b 0
    ∙ (λ i. (bit_at_lowest a i + bit_at_lowest b i) % 2)
    ∙ plus_rests a b

-- ---- a bit

register_after_bit_odd : (r : ℕ) → r % 2 ≡ 1 → register_after_bit r ≡ bit_xor (r / 2) 0x82F63B78
register_after_bit_odd r h = let t : eqb (r % 2) 1 ≡ true = eq-eqb (r % 2) 1 h in rw t refl

register_after_bit_even : (r : ℕ) → r % 2 ≡ 0 → register_after_bit r ≡ r / 2
register_after_bit_even r h = let f : eqb (r % 2) 1 ≡ false = ne_eqb (r % 2) 1 (omega arith) in rw f refl

register_after_bit_xor : (a b : ℕ) → register_after_bit (bit_xor a b) ≡ bit_xor (register_after_bit a) (register_after_bit b)
register_after_bit_xor a b =
    let rest = xor_rest a b in
    let half = xor_half a b in
    elim (cases_eq (a % 2) 1) [
      | inl p ↦ elim (cases_eq (b % 2) 1) [
        | inl q ↦
            register_after_bit_even (bit_xor a b) (omega arith) ∙ half ∙ sym (xor_cancelled (a / 2) (b / 2) 0x82F63B78)
            ∙ sym (λ i. bit_xor (register_after_bit_odd a p i) (register_after_bit_odd b q i))
        | inr q ↦
            register_after_bit_odd (bit_xor a b) (omega arith) ∙ ap (λ (n : ℕ). bit_xor n 0x82F63B78) half ∙ sym (xor_swapped (a / 2) 0x82F63B78 (b / 2))
            ∙ sym (λ i. bit_xor (register_after_bit_odd a p i) (register_after_bit_even b (omega arith) i))
      ]
      | inr p ↦ elim (cases_eq (b % 2) 1) [
        | inl q ↦
            register_after_bit_odd (bit_xor a b) (omega arith) ∙ ap (λ (n : ℕ). bit_xor n 0x82F63B78) half ∙ xor_assoc (a / 2) (b / 2) 0x82F63B78
            ∙ sym (λ i. bit_xor (register_after_bit_even a (omega arith) i) (register_after_bit_odd b q i))
        | inr q ↦
            register_after_bit_even (bit_xor a b) (omega arith) ∙ half
            ∙ sym (λ i. bit_xor (register_after_bit_even a (omega arith) i) (register_after_bit_even b (omega arith) i))
      ]
    ]

-- ---- bits

register_after_bits_xor : (bits a b : ℕ) → register_after_bits bits (bit_xor a b) ≡ bit_xor (register_after_bits bits a) (register_after_bits bits b)
unfolding register_after_bits
register_after_bits_xor zero a b = refl
register_after_bits_xor (suc bits) a b = ap register_after_bit (register_after_bits_xor bits a b) ∙ register_after_bit_xor (register_after_bits bits a) (register_after_bits bits b)

-- the power of two
power : ℕ → ℕ
power zero = 1
power (suc bits) = 2 * power bits

times_doubled : (x p : ℕ) → x * (2 * p) ≡ (2 * x) * p
times_doubled x p = omega arith

-- zeros are shifted out
register_after_zeros : (bits x : ℕ) → register_after_bits bits (x * power bits) ≡ x
unfolding register_after_bits power
register_after_zeros zero x = omega arith
register_after_zeros (suc bits) x =
    ap (λ (n : ℕ). register_after_bit (register_after_bits bits n)) (times_doubled x (power bits))
    ∙ ap register_after_bit (register_after_zeros bits (2 * x))
    ∙ register_after_bit_even (2 * x) (omega arith)
    ∙ halved
  where
    halved : 2 * x / 2 ≡ x
    halved = omega arith

register_after_octet_of_zeros : (x : ℕ) → register_after_bits 8 (x * 256) ≡ x
unfolding power
register_after_octet_of_zeros x = register_after_zeros 8 x

-- a register is its least octet and the others
xor_octets : (r : ℕ) → bit_xor (r % 256) (r / 256 * 256) ≡ r
xor_octets r =
    let low : 0 * 256 + r % 256 ≡ r % 256 = omega arith in
    let high : r / 256 * 256 + 0 ≡ r / 256 * 256 = omega arith in
    let parts : r / 256 * 256 + r % 256 ≡ r = omega arith in
    sym (λ i. bit_xor (low i) (high i))
    ∙ xor_block 8 0 (r / 256) (r % 256) 0 (omega arith) (omega arith)
    ∙ (λ i. (xor_comm 0 (r / 256) ∙ xor_zero (r / 256)) i * 256 + xor_zero (r % 256) i)
    ∙ parts

pub table_entry_xor : (r : ℕ) → bit_xor (register_after_bits 8 (r % 256)) (r / 256) ≡ register_after_bits 8 r
table_entry_xor r =
    sym (ap (register_after_bits 8) (sym (xor_octets r)) ∙ register_after_bits_xor 8 (r % 256) (r / 256 * 256) ∙ ap (λ (n : ℕ). bit_xor (register_after_bits 8 (r % 256)) n) (register_after_octet_of_zeros (r / 256)))

-- ---- words: the octets of a word are exclusive-ored one after another, each shifted by those before it

none_plus : (n : ℕ) → 0 + n ≡ n
none_plus n = omega arith

next_plus : (m n : ℕ) → suc m + n ≡ suc (m + n)
next_plus m n = omega arith

bits_after_bits : (m n r : ℕ) → register_after_bits m (register_after_bits n r) ≡ register_after_bits (m + n) r
unfolding register_after_bits
bits_after_bits zero n r = sym (ap (λ (k : ℕ). register_after_bits k r) (none_plus n))
bits_after_bits (suc m) n r = ap register_after_bit (bits_after_bits m n r) ∙ sym (ap (λ (k : ℕ). register_after_bits k r) (next_plus m n))

-- an octet that comes after bits is one of a longer register
octet_after_bits : (bits r octet : ℕ) → register_after_bits 8 (bit_xor (register_after_bits bits r) octet) ≡ register_after_bits (8 + bits) (bit_xor r (octet * power bits))
octet_after_bits bits r octet =
    ap (λ (n : ℕ). register_after_bits 8 (bit_xor (register_after_bits bits r) n)) (sym (register_after_zeros bits octet))
    ∙ ap (register_after_bits 8) (sym (register_after_bits_xor bits r (octet * power bits)))
    ∙ bits_after_bits 8 bits (bit_xor r (octet * power bits))

two_octets : (r a b : ℕ) → register_after_bits 8 (bit_xor (register_after_bits 8 (bit_xor r a)) b) ≡ register_after_bits 16 (bit_xor (bit_xor r a) (b * 256))
unfolding power
two_octets r a b = octet_after_bits 8 (bit_xor r a) b

third_octet : (r c : ℕ) → register_after_bits 8 (bit_xor (register_after_bits 16 r) c) ≡ register_after_bits 24 (bit_xor r (c * 65536))
unfolding power
third_octet r c = octet_after_bits 16 r c

fourth_octet : (r d : ℕ) → register_after_bits 8 (bit_xor (register_after_bits 24 r) d) ≡ register_after_bits 32 (bit_xor r (d * 16777216))
unfolding power
fourth_octet r d = octet_after_bits 24 r d

word_regrouped : (r a b c d : ℕ) → bit_xor (bit_xor (bit_xor (bit_xor r a) b) c) d ≡ bit_xor r (bit_xor (bit_xor (bit_xor a b) c) d)
word_regrouped r a b c d =
    ap (λ (n : ℕ). bit_xor (bit_xor n c) d) (xor_assoc r a b)
    ∙ ap (λ (n : ℕ). bit_xor n d) (xor_assoc r (bit_xor a b) c)
    ∙ xor_assoc r (bit_xor (bit_xor a b) c) d

abbrev pub word : ℕ → ℕ → ℕ → ℕ → ℕ
word a b c d = bit_xor (bit_xor (bit_xor a (b * 256)) (c * 65536)) (d * 16777216)

after_word : (r a b c d : ℕ) → register_after r (a ∷ b ∷ c ∷ d ∷ []) ≡ register_after_bits 32 (bit_xor r (word a b c d))
after_word r a b c d =
    ap (λ (n : ℕ). register_after_bits 8 (bit_xor (register_after_bits 8 (bit_xor n c)) d)) (two_octets r a b)
    ∙ ap (λ (n : ℕ). register_after_bits 8 (bit_xor n d)) (third_octet (bit_xor (bit_xor r a) (b * 256)) c)
    ∙ fourth_octet (bit_xor (bit_xor (bit_xor r a) (b * 256)) (c * 65536)) d
    ∙ ap (register_after_bits 32) (word_regrouped r a (b * 256) (c * 65536) (d * 16777216))

-- ---- eight octets

pub eight_by_words : (r : ℕ) (a b c d e f g h : ℕ) (rest : List ℕ)
    → register_after (register_after_bits 32 (bit_xor (register_after_bits 32 (bit_xor r (word a b c d))) (word e f g h))) rest
    ≡ register_after r (a ∷ b ∷ c ∷ d ∷ e ∷ f ∷ g ∷ h ∷ rest)
eight_by_words r a b c d e f g h rest =
    ap (λ (n : ℕ). register_after (register_after_bits 32 (bit_xor n (word e f g h))) rest) (sym (after_word r a b c d))
    ∙ ap (λ (n : ℕ). register_after n rest) (sym (after_word (register_after r (a ∷ b ∷ c ∷ d ∷ [])) e f g h))

pub eight_of_list : (r : ℕ) (octets : List ℕ) → 8 ≤ length octets
    → register_after (register_after_bits 32 (bit_xor (register_after_bits 32 (bit_xor r (word (get_or octets 0 0) (get_or octets 1 0) (get_or octets 2 0) (get_or octets 3 0)))) (word (get_or octets 4 0) (get_or octets 5 0) (get_or octets 6 0) (get_or octets 7 0)))) (take (length octets - 8) (drop 8 octets))
    ≡ register_after r octets
eight_of_list r ([]) least = omega arith
eight_of_list r (a ∷ []) least = omega arith
eight_of_list r (a ∷ b ∷ []) least = omega arith
eight_of_list r (a ∷ b ∷ c ∷ []) least = omega arith
eight_of_list r (a ∷ b ∷ c ∷ d ∷ []) least = omega arith
eight_of_list r (a ∷ b ∷ c ∷ d ∷ e ∷ []) least = omega arith
eight_of_list r (a ∷ b ∷ c ∷ d ∷ e ∷ f ∷ []) least = omega arith
eight_of_list r (a ∷ b ∷ c ∷ d ∷ e ∷ f ∷ g ∷ []) least = omega arith
eight_of_list r (a ∷ b ∷ c ∷ d ∷ e ∷ f ∷ g ∷ h ∷ rest) least =
    let left : length (a ∷ b ∷ c ∷ d ∷ e ∷ f ∷ g ∷ h ∷ rest) - 8 ≡ length rest = omega arith in
    let after = register_after_bits 32 (bit_xor (register_after_bits 32 (bit_xor r (word a b c d))) (word e f g h)) in
    ap (λ (n : ℕ). register_after after (take n rest)) left
    ∙ ap (register_after after) (take-length rest)
    ∙ eight_by_words r a b c d e f g h rest

pub words_apart : (first second : ℕ) → bit_xor (register_after_bits 64 first) (register_after_bits 32 second) ≡ register_after_bits 32 (bit_xor (register_after_bits 32 first) second)
words_apart first second =
    ap (λ (n : ℕ). bit_xor n (register_after_bits 32 second)) (sym (bits_after_bits 32 32 first))
    ∙ sym (register_after_bits_xor 32 (register_after_bits 32 first) second)

-- ---- a word by tables

octet_apart : (bits r : ℕ) → bit_xor (register_after_bits (bits + 8) (r % 256)) (register_after_bits bits (r / 256)) ≡ register_after_bits (bits + 8) r
octet_apart bits r =
    ap (λ (n : ℕ). bit_xor n (register_after_bits bits (r / 256))) (sym (bits_after_bits bits 8 (r % 256)))
    ∙ sym (register_after_bits_xor bits (register_after_bits 8 (r % 256)) (r / 256))
    ∙ ap (register_after_bits bits) (table_entry_xor r)
    ∙ bits_after_bits bits 8 r

word_apart : (bits w : ℕ)
    → bit_xor (bit_xor (bit_xor (register_after_bits (bits + 8 + 8 + 8) (w % 256)) (register_after_bits (bits + 8 + 8) (w / 256 % 256))) (register_after_bits (bits + 8) (w / 65536 % 256))) (register_after_bits bits (w / 16777216))
    ≡ register_after_bits (bits + 8 + 8 + 8) w
word_apart bits w =
    let third : w / 65536 / 256 ≡ w / 16777216 = omega arith in
    let second : w / 256 / 256 ≡ w / 65536 = omega arith in
    let p = register_after_bits (bits + 8 + 8 + 8) (w % 256) in
    let q = register_after_bits (bits + 8 + 8) (w / 256 % 256) in
    let s = register_after_bits (bits + 8) (w / 65536 % 256) in
    ap (λ (n : ℕ). bit_xor (bit_xor (bit_xor p q) s) (register_after_bits bits n)) (sym third)
    ∙ xor_assoc (bit_xor p q) s (register_after_bits bits (w / 65536 / 256))
    ∙ ap (bit_xor (bit_xor p q)) (octet_apart bits (w / 65536))
    ∙ ap (λ (n : ℕ). bit_xor (bit_xor p q) (register_after_bits (bits + 8) n)) (sym second)
    ∙ xor_assoc p q (register_after_bits (bits + 8) (w / 256 / 256))
    ∙ ap (bit_xor p) (octet_apart (bits + 8) (w / 256))
    ∙ octet_apart (bits + 8 + 8) w

pub first_word_by_tables : (w : ℕ)
    → bit_xor (bit_xor (bit_xor (register_after_bits 64 (w % 256)) (register_after_bits 56 (w / 256 % 256))) (register_after_bits 48 (w / 65536 % 256))) (register_after_bits 40 (w / 16777216)) ≡ register_after_bits 64 w
first_word_by_tables w = word_apart 40 w

pub second_word_by_tables : (w : ℕ)
    → bit_xor (bit_xor (bit_xor (register_after_bits 32 (w % 256)) (register_after_bits 24 (w / 256 % 256))) (register_after_bits 16 (w / 65536 % 256))) (register_after_bits 8 (w / 16777216)) ≡ register_after_bits 32 w
second_word_by_tables w = word_apart 8 w

-- ---- tables

pub next_table : (bits : ℕ) (octets table after : List ℕ)
    → ((k : ℕ) → k < 256 → slice_index octets k ≡ register_after_bits 8 k)
    → ((k : ℕ) → k < 256 → slice_index table k ≡ register_after_bits bits k)
    → ((k : ℕ) → k < 256 → slice_index after k ≡ bit_xor (slice_index octets (slice_index table k % 256)) (slice_index table k / 256))
    → (k : ℕ) → k < 256 → slice_index after k ≡ register_after_bits (8 + bits) k
next_table bits octets table after of_octets of_table steps k below =
    let register = slice_index table k in
    let low : register % 256 < 256 = omega arith in
    steps k below
    ∙ ap (λ (n : ℕ). bit_xor n (register / 256)) (of_octets (register % 256) low)
    ∙ table_entry_xor register
    ∙ ap (register_after_bits 8) (of_table k below)
    ∙ bits_after_bits 8 bits k
