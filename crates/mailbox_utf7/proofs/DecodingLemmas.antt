use Rattle.std.proofs.Common.{◌≡◌, ◌≢◌, ℕ, zero, suc, ◌+◌, ◌-◌, ◌*◌, ◌/◌, ◌%◌, ◌<◌, ◌≤◌, Bool, true, false, cond, not, ◌==◌, List, [], ◌∷◌, ◌++◌, map, ap, sym, ◌∙◌, arith, refl, append_assoc, inl, inr, Option, Some, None, slice_index, flat_map, encode_utf8, IsUtf8, is_some, lt-ltb, le-ltb, le-leb}
use Rattle.std.proofs.lemmas.Bool.{cases_Bool, cases_lt, and_parts, eqb-true, leb-true, lt-leb}
use Rattle.std.proofs.Math.Utf8.{scalar, scalar_cases}
use Rattle.std.proofs.lemmas.List.{append-nil}
use Rattle.std.proofs.lemmas.Str.{encode_ascii, encodes-append, encodes-chars, scalars-chars, utf16_chars-nil, utf16_chars_lone, utf16_chars_pair}
use Rattle.std.specs.Char.Escape.{encode_utf16}
use Rattle.std.specs.Char.Utf16.{lone_unit_char, surrogate_pair_char, utf16_chars}
use Rattle.std.specs.List.{list_all, list_any}
use Rattle.std.specs.Option.{unwrap_or}
use Rattle.std.proofs.lemmas.Slice.Eq.{bytes_eq-Decides}
use Rattle.std.specs.Str.{all_scalars, bytes_eq, chars, encode_utf8_all}
use Rattle.base64.specs.GeneralPurpose.{IsBytes}
use Rattle.base64.specs.Rfc4648.{encode_symbols}
use Rattle.mailbox_utf7.specs.ModifiedUtf7.{IsDecoding, Run, direct_octets, encoding_of, in_shift, is_direct, octets_of_run, octets_of_units, runs_of, shift_of, symbols, utf16_octets}
use Rattle.mailbox_utf7.specs.ModifiedUtf7.Run.{Direct, Shifted}
use Rattle.mailbox_utf7.specs.Reading.{joined, text_of_octets, text_of_shift, text_of_units, text_read}
use Rattle.mailbox_utf7.proofs.ShiftLemmas.{units_of_octets}

-- a decoder that decodes what was encoded
abbrev pub DecodesAgain : (List ℕ → Option (List ℕ)) → Type 0
DecodesAgain d = (octets : List ℕ) → IsBytes octets → d (encode_symbols symbols octets) ≡ Some octets

-- no symbol is a hyphen
abbrev pub HasNoHyphen : List ℕ → Type 0
HasNoHyphen [] = Unit {0}
HasNoHyphen (x ∷ xs) = ((x == 45) ≡ false) × HasNoHyphen xs

abbrev is_other : ℕ → Bool
is_other x = not (x == 45)

other_tells : (x : ℕ) → is_other x ≡ true → (x == 45) ≡ false
other_tells x h = elim (cases_Bool (x == 45)) [ inl t ↦ absurd (let k : not true ≡ true = ap not (sym t) ∙ h in cc) | inr f ↦ f ]

symbol_at : (xs : List ℕ) (i : ℕ) → list_all is_other xs ≡ true → (slice_index xs i == 45) ≡ false
symbol_at [] i h = refl
symbol_at (x ∷ xs) zero h = other_tells x ((and_parts _ _ h).0)
symbol_at (x ∷ xs) (suc i) h = symbol_at xs i ((and_parts _ _ h).1)

no_hyphen_at : (i : ℕ) → (slice_index symbols i == 45) ≡ false
no_hyphen_at i = symbol_at symbols i refl

symbols_no_hyphen : (octets : List ℕ) → HasNoHyphen (encode_symbols symbols octets)
unfolding encode_symbols
symbols_no_hyphen [] = tt
symbols_no_hyphen (a ∷ []) = (no_hyphen_at (a / 4), (no_hyphen_at (a % 4 * 16), tt))
symbols_no_hyphen (a ∷ b ∷ []) = (no_hyphen_at (a / 4), (no_hyphen_at (a % 4 * 16 + b / 16), (no_hyphen_at (b % 16 * 4), tt)))
symbols_no_hyphen (a ∷ b ∷ c ∷ rest) = (no_hyphen_at (a / 4), (no_hyphen_at (a % 4 * 16 + b / 16), (no_hyphen_at (b % 16 * 4 + c / 64), (no_hyphen_at (c % 64), symbols_no_hyphen rest))))

-- symbols up to the hyphen
symbols_read : (d : List ℕ → Option (List ℕ)) (front syms rest : List ℕ) → HasNoHyphen syms → text_read d true front (syms ++ 45 ∷ rest) ≡ joined (text_of_shift d (front ++ syms)) (text_read d false [] rest)
symbols_read d front [] rest h = ap (λ s. joined (text_of_shift d s) (text_read d false [] rest)) (sym (append-nil front))
symbols_read d front (s ∷ syms) rest h =
    rw h.0 (symbols_read d (front ++ s ∷ []) syms rest h.1
    ∙ ap (λ s. joined (text_of_shift d s) (text_read d false [] rest)) (append_assoc front (s ∷ []) syms))

-- some octets have some symbols
some_encoded : (d : List ℕ → Option (List ℕ)) (a : ℕ) (octets : List ℕ) → text_of_shift d (encode_symbols symbols (a ∷ octets)) ≡ text_of_octets (d (encode_symbols symbols (a ∷ octets)))
unfolding encode_symbols
some_encoded d a [] = refl
some_encoded d a (b ∷ []) = refl
some_encoded d a (b ∷ c ∷ rest) = refl

-- units of scalars
abbrev AreUnits : List ℕ → Type 0
AreUnits [] = Unit {0}
AreUnits (u ∷ us) = (u < 65536) × AreUnits us

units-append : (us vs : List ℕ) → AreUnits us → AreUnits vs → AreUnits (us ++ vs)
units-append [] vs h k = k
units-append (u ∷ us) vs h k = (h.0, units-append us vs h.1 k)

bytes-cons : (x : ℕ) (xs : List ℕ) → x < 256 → IsBytes xs → IsBytes (x ∷ xs)
bytes-cons x xs h k zero = h
bytes-cons x xs h k (suc i) = k i

bytes_of_units : (us : List ℕ) → AreUnits us → IsBytes (octets_of_units us)
bytes_of_units [] h = λ i. omega arith
bytes_of_units (u ∷ us) h = let l = h.0 in bytes-cons (u / 256) (u % 256 ∷ octets_of_units us) (omega arith) (bytes-cons (u % 256) (octets_of_units us) (omega arith) (bytes_of_units us h.1))

-- a scalar is no surrogate
abbrev IsScalarNumber : ℕ → Type 0
IsScalarNumber c = (c < 1114112) × (55296 ≤ c → 57344 ≤ c)

scalar_number : (c : ℕ) (cs : List ℕ) → all_scalars (c ∷ cs) ≡ true → IsScalarNumber c × (all_scalars cs ≡ true)
scalar_number c cs h =
    let p = and_parts (scalar c) (all_scalars cs) h in
    (elim (scalar_cases c p.0) [ inl l ↦ (omega arith, λ k. omega arith) | inr l ↦ let a = l.0 in let b = l.1 in (omega arith, λ k. omega arith) ], p.1)

units_of_char : (c : ℕ) → IsScalarNumber c → AreUnits (encode_utf16 c)
units_of_char c s =
    let l = s.0 in
    elim (cases_lt c 65536) [
      | inl t ↦ rw (lt-ltb c 65536 t) (t, tt)
      | inr f ↦ rw (le-ltb c 65536 f) (omega arith, (omega arith, tt))
    ]

units_of_chars : (cs : List ℕ) → all_scalars cs ≡ true → AreUnits (flat_map encode_utf16 cs)
units_of_chars [] h = tt
units_of_chars (c ∷ cs) h =
    let s = scalar_number c cs h in units-append (encode_utf16 c) (flat_map encode_utf16 cs) (units_of_char c s.0) (units_of_chars cs s.1)

low_units : (c : ℕ) → c < 65536 → encode_utf16 c ≡ c ∷ []
low_units c l = rw (lt-ltb c 65536 l) refl

high_units : (c : ℕ) → 65536 ≤ c → encode_utf16 c ≡ (55296 + (c - 65536) / 1024) ∷ (56320 + (c - 65536) % 1024) ∷ []
high_units c l = rw (le-ltb c 65536 l) refl

lone_char : (u : ℕ) → IsScalarNumber u → lone_unit_char u ≡ Some u
lone_char u s = elim (cases_lt u 55296) [
  | inl l ↦ rw (lt-leb 55296 u l) refl
  | inr l ↦ let k = s.1 l in rw (le-leb 55296 u l, le-ltb u 57344 k) refl
]

chars_of_units : (cs : List ℕ) → all_scalars cs ≡ true → utf16_chars (flat_map encode_utf16 cs) ≡ map Some cs
chars_of_units [] h = utf16_chars-nil
chars_of_units (c ∷ cs) h =
    let s = scalar_number c cs h in
    let rest = flat_map encode_utf16 cs in
    let next = chars_of_units cs s.1 in
    elim (cases_lt c 65536) [
      | inl l ↦
          ap (λ us. utf16_chars (us ++ rest)) (low_units c l)
          ∙ utf16_chars_lone c rest (λ p. let a = p.0 in let b = p.1 in let k = s.0.1 a in omega arith)
          ∙ (λ i. lone_char c s.0 i ∷ next i)
      | inr l ↦
          let b = s.0.0 in
          let u = 55296 + (c - 65536) / 1024 in
          let v = 56320 + (c - 65536) % 1024 in
          let e : surrogate_pair_char u v ≡ c = omega arith in
          ap (λ us. utf16_chars (us ++ rest)) (high_units c l)
          ∙ utf16_chars_pair u v rest (omega arith, omega arith, omega arith, omega arith)
          ∙ (λ i. Some (e i) ∷ next i)
    ]

-- the text of these characters
none_unpaired : (cs : List ℕ) → list_any (λ o. not (is_some o)) (map Some cs) ≡ false
none_unpaired [] = refl
none_unpaired (c ∷ cs) = none_unpaired cs

all_found : (cs : List ℕ) → map (λ o. unwrap_or o 65533) (map Some cs) ≡ cs
all_found [] = refl
all_found (c ∷ cs) = ap (λ xs. c ∷ xs) (all_found cs)

text_of_found : (os : List (Option ℕ)) (cs : List ℕ) → os ≡ map Some cs
    → cond (list_any (λ o. not (is_some o)) os) None (Some (encode_utf8_all (map (λ o. unwrap_or o 65533) os))) ≡ Some (encode_utf8_all cs)
text_of_found os cs e = rw (e, none_unpaired cs, all_found cs) refl

text_of_scalars : (cs : List ℕ) → all_scalars cs ≡ true → text_of_units (Some (flat_map encode_utf16 cs)) ≡ Some (encode_utf8_all cs)
text_of_scalars cs h = text_of_found (utf16_chars (flat_map encode_utf16 cs)) cs (chars_of_units cs h)

shift_of_units : (d : List ℕ → Option (List ℕ)) (us : List ℕ) → DecodesAgain d → us ≢ [] → AreUnits us → text_of_shift d (encode_symbols symbols (octets_of_units us)) ≡ text_of_units (Some us)
shift_of_units d [] a n h = absurd (n refl)
shift_of_units d (u ∷ us) a n h =
    some_encoded d (u / 256) (u % 256 ∷ octets_of_units us)
    ∙ ap text_of_octets (a (octets_of_units (u ∷ us)) (bytes_of_units (u ∷ us) h))
    ∙ ap text_of_units (units_of_octets (u ∷ us))

has_units : (c : ℕ) (cs : List ℕ) → flat_map encode_utf16 (c ∷ cs) ≢ []
has_units c cs = elim (cases_lt c 65536) [
  | inl l ↦ rw (lt-ltb c 65536 l) (λ e. cc)
  | inr l ↦ rw (le-ltb c 65536 l) (λ e. cc)
]

text_again : (d : List ℕ → Option (List ℕ)) (c : ℕ) (cs : List ℕ) → DecodesAgain d → all_scalars (c ∷ cs) ≡ true → text_of_shift d (encode_symbols symbols (utf16_octets (c ∷ cs))) ≡ Some (encode_utf8_all (c ∷ cs))
text_again d c cs a h =
    shift_of_units d (flat_map encode_utf16 (c ∷ cs)) a (has_units c cs) (units_of_chars (c ∷ cs) h) ∙ text_of_scalars (c ∷ cs) h

-- the runs of a name
chars_of_run : Run → List ℕ
chars_of_run (Direct c) = c ∷ []
chars_of_run (Shifted cs) = cs

AreReadable : List Run → Type 0
AreReadable [] = Unit {0}
AreReadable (Direct c ∷ runs) = (is_direct c ≡ true) × AreReadable runs
AreReadable (Shifted [] ∷ runs) = ⊥
AreReadable (Shifted (c ∷ cs) ∷ runs) = (all_scalars (c ∷ cs) ≡ true) × AreReadable runs

readable-in_shift : (c : ℕ) (runs : List Run) → scalar c ≡ true → AreReadable runs → AreReadable (in_shift c runs)
unfolding AreReadable
readable-in_shift c [] s h = (rw s refl, tt)
readable-in_shift c (Direct x ∷ runs) s h = (rw s refl, h)
readable-in_shift c (Shifted [] ∷ runs) s h = absurd h
readable-in_shift c (Shifted (x ∷ xs) ∷ runs) s h = (rw s h.0, h.1)

readable_runs : (cs : List ℕ) → all_scalars cs ≡ true → AreReadable (runs_of cs)
unfolding AreReadable
readable_runs [] h = tt
readable_runs (c ∷ cs) h =
    let p = and_parts (scalar c) (all_scalars cs) h in
    elim (cases_Bool (is_direct c)) [
      | inl t ↦ rw t (t, readable_runs cs p.1)
      | inr f ↦ rw f (readable-in_shift c (runs_of cs) p.0 (readable_runs cs p.1))
    ]

chars-in_shift : (c : ℕ) (runs : List Run) → flat_map chars_of_run (in_shift c runs) ≡ c ∷ flat_map chars_of_run runs
unfolding chars_of_run
chars-in_shift c [] = refl
chars-in_shift c (Direct x ∷ runs) = refl
chars-in_shift c (Shifted xs ∷ runs) = refl

chars_of_runs : (cs : List ℕ) → flat_map chars_of_run (runs_of cs) ≡ cs
unfolding chars_of_run
chars_of_runs [] = refl
chars_of_runs (c ∷ cs) =
    elim (cases_Bool (is_direct c)) [
      | inl t ↦ rw t (ap (λ xs. c ∷ xs) (chars_of_runs cs))
      | inr f ↦ rw f (chars-in_shift c (runs_of cs) ∙ ap (λ xs. c ∷ xs) (chars_of_runs cs))
    ]

-- a run is read
direct_small : (c : ℕ) → is_direct c ≡ true → c < 128
direct_small c t = let l : c ≤ 126 = leb-true c 126 ((and_parts _ _ t).1) in omega arith

direct_again : (d : List ℕ → Option (List ℕ)) (c : ℕ) (rest : List ℕ) → is_direct c ≡ true → text_read d false [] (direct_octets c ++ rest) ≡ joined (Some (encode_utf8 c)) (text_read d false [] rest)
direct_again d c rest t =
    elim (cases_Bool (c == 38)) [
      | inl k ↦ let e : c ≡ 38 = eqb-true c 38 k in rw (e, encode_ascii 38 (omega arith)) refl
      | inr f ↦ rw (f, f) refl
    ]

shift_again : (d : List ℕ → Option (List ℕ)) (c : ℕ) (cs rest : List ℕ) → DecodesAgain d → all_scalars (c ∷ cs) ≡ true
    → text_read d false [] (shift_of (c ∷ cs) ++ rest) ≡ joined (Some (encode_utf8_all (c ∷ cs))) (text_read d false [] rest)
shift_again d c cs rest a h =
    let syms = encode_symbols symbols (utf16_octets (c ∷ cs)) in
    ap (text_read d true []) (append_assoc syms (45 ∷ []) rest)
    ∙ symbols_read d [] syms rest (symbols_no_hyphen (utf16_octets (c ∷ cs)))
    ∙ ap (λ t. joined t (text_read d false [] rest)) (text_again d c cs a h)

runs_read : (d : List ℕ → Option (List ℕ)) (runs : List Run) → DecodesAgain d → AreReadable runs → text_read d false [] (flat_map octets_of_run runs) ≡ Some (encode_utf8_all (flat_map chars_of_run runs))
unfolding AreReadable chars_of_run
runs_read d [] a h = refl
runs_read d (Direct c ∷ runs) a h =
    direct_again d c (flat_map octets_of_run runs) h.0 ∙ ap (joined (Some (encode_utf8 c))) (runs_read d runs a h.1)
runs_read d (Shifted [] ∷ runs) a h = absurd h
runs_read d (Shifted (c ∷ cs) ∷ runs) a h =
    shift_again d c cs (flat_map octets_of_run runs) a h.0
    ∙ ap (joined (Some (encode_utf8_all (c ∷ cs)))) (runs_read d runs a h.1)
    ∙ ap Some (sym (encodes-append (c ∷ cs) (flat_map chars_of_run runs)))

-- an encoding is read as its name
pub name_again : (d : List ℕ → Option (List ℕ)) (name : List ℕ) → DecodesAgain d → IsUtf8 name → text_read d false [] (encoding_of name) ≡ Some name
name_again d name a u =
    runs_read d (runs_of (chars name)) a (readable_runs (chars name) (scalars-chars name u))
    ∙ ap (λ cs. Some (encode_utf8_all cs)) (chars_of_runs (chars name))
    ∙ ap Some (encodes-chars name u)

-- what is decoded
pub decodes_none : (d : List ℕ → Option (List ℕ)) (octets : List ℕ) → DecodesAgain d → None ≡ text_read d false [] octets → IsDecoding octets None
decodes_none d octets a n name u = (
  λ e. absurd (let k : ◌≡◌ {A = Option (List ℕ)} None (Some name) = e in cc),
  λ e. n ∙ ap (text_read d false []) (sym e) ∙ name_again d name a u,
)

pub decodes_other : (d : List ℕ → Option (List ℕ)) (octets text : List ℕ) → DecodesAgain d → Some text ≡ text_read d false [] octets → encoding_of text ≢ octets → IsDecoding octets None
decodes_other d octets text a r n name u = (
  λ e. absurd (let k : ◌≡◌ {A = Option (List ℕ)} None (Some name) = e in cc),
  λ e.
      let k : ◌≡◌ {A = Option (List ℕ)} (Some text) (Some name) = r ∙ ap (text_read d false []) (sym e) ∙ name_again d name a u in
      let t : text ≡ name = cc in
      absurd (n (ap encoding_of t ∙ e)),
)

pub decodes_name : (d : List ℕ → Option (List ℕ)) (octets text : List ℕ) → DecodesAgain d → Some text ≡ text_read d false [] octets → encoding_of text ≡ octets → IsDecoding octets (Some text)
decodes_name d octets text a r h name u = (
  λ e. let t : text ≡ name = (let k : ◌≡◌ {A = Option (List ℕ)} (Some text) (Some name) = e in cc) in ap encoding_of (sym t) ∙ h,
  λ e. r ∙ ap (text_read d false []) (sym e) ∙ name_again d name a u,
)

pub names_differ : (d : List ℕ → Option (List ℕ)) → DecodesAgain d → (one other : List ℕ) → IsUtf8 one → IsUtf8 other → encoding_of one ≡ encoding_of other → one ≡ other
names_differ d a one other u v e =
    let k : ◌≡◌ {A = Option (List ℕ)} (Some one) (Some other) = sym (name_again d one a u) ∙ ap (text_read d false []) e ∙ name_again d other a v in cc

-- two texts that were compared
pub differs : (one other : List ℕ) (test : Bool) → test ≡ not (bytes_eq one other) → test ≡ true → one ≢ other
differs one other test e t s =
    let k : bytes_eq one other ≡ true = (bytes_eq-Decides one other).1 s in
    let n : true ≡ false = sym t ∙ e ∙ ap not k in cc

pub agrees : (one other : List ℕ) (test : Bool) → test ≡ not (bytes_eq one other) → test ≡ false → one ≡ other
agrees one other test e f =
    elim (cases_Bool (bytes_eq one other)) [
      | inl t ↦ (bytes_eq-Decides one other).0 t
      | inr g ↦ absurd (let n : false ≡ true = sym f ∙ e ∙ ap not g in cc)
    ]
