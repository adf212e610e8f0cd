use Rattle.std.proofs.Common.{◌≡◌, ◌≢◌, ◌++◌, ◌^◌, ◌<◌, ◌≤◌, ◌⊎◌, inl, inr, ℕ, zero, suc, Bool, true, false, not, cond, ◌&&◌, eqb, eqb-true, eq-eqb, leb, le-leb, leb-true, List, [], ◌∷◌, Option, Some, None, Result, Ok, Err, refl, sym, ap, ◌∙◌, subst, arith, rules, length, get_or}
use Rattle.std.proofs.lemmas.Bool.{and_parts, and_from, cases_Bool, eqb-false, false≢true, ne_eqb}
use Rattle.std.proofs.lemmas.List.Folds.{list_all-append}
use Rattle.std.proofs.lemmas.Fmt.{IsAscii-from_digits, decimal-digits_value, digits_decimal, digits_value-decimal, first_decimal, decimal_nonempty, decimal_digit}
use Rattle.std.proofs.lemmas.Str.{IsUtf8-from_ascii}
use Rattle.std.proofs.lemmas.Str.Parse.{IsNumeralModel, numerals_by_value, parse_digits}
use Rattle.std.specs.Char.{is_ascii_digit}
use Rattle.std.specs.Fmt.{decimal}
use Rattle.std.specs.List.{list_all}
use Rattle.std.specs.Option.{SomeIff}
use Rattle.std.specs.Result.{OkIff, result_ok}
use Rattle.std.specs.Str.{IsUtf8}
use Rattle.std.specs.Str.Parse.{ParsesUnsigned, digits_value}
use Rattle.text_fields.specs.FieldReading.{◌>>=◌, cut_at, has_no_leading_zero, id_at, before_first_part, number_at, pair_at, positive, replica_at}
use Rattle.text_fields.specs.Fields.{IsEntry, IsId, IsNumber, IsReplica, entry_text, id_text}
use Rattle.tags_clocks.specs.declared.id.OpId.{OpId}

-- texts of decimal digits
pub digits_model : IsNumeralModel (λ ds. list_all is_ascii_digit ds ≡ true) (digits_value 10)
digits_model = numerals_by_value (λ ds. list_all is_ascii_digit ds ≡ true) (search rules)

pub utf8_digits : (ds : List ℕ) → list_all is_ascii_digit ds ≡ true → IsUtf8 ds
utf8_digits ds h = IsUtf8-from_ascii ds (IsAscii-from_digits ds (digits_model.to ds h))

pub some_digit : (ds : List ℕ) → has_no_leading_zero ds ≡ true → 0 < length ds
some_digit [] h = absurd (let k : false ≡ true = h in cc)
some_digit (d ∷ ds) h = omega arith

ok_part : {E : Type 0} (r : Result ℕ E) (len value : ℕ) → 0 < len → OkIff r ((0 < len) × (value < 2 ^ 64)) value → SomeIff (result_ok r) (value < 2 ^ 64) value
ok_part (Ok n) len value l h = (h.0.1, h.1)
ok_part (Err e) len value l h = λ k. h (l, k)

pub parsed_digits : {E : Type 0} (ds : List ℕ) (r : Result ℕ E) → has_no_leading_zero ds ≡ true → list_all is_ascii_digit ds ≡ true → ParsesUnsigned 64 10 ds r → SomeIff (result_ok r) (digits_value 10 ds < 2 ^ 64) (digits_value 10 ds)
parsed_digits ds r z d h = ok_part r (length ds) (digits_value 10 ds) (some_digit ds z) (parse_digits digits_model 64 ds r h d)

-- digits without a leading zero are the text of the number that they spell
one_digit : (ds : List ℕ) → has_no_leading_zero ds ≡ true → get_or ds 0 0 ≡ 48 → length ds ≡ 1
one_digit [] h k = absurd (let e : false ≡ true = h in cc)
one_digit (d ∷ []) h k = refl
one_digit (d ∷ e ∷ ds) h k = absurd (let t : eqb d 48 ≡ true = eq-eqb d 48 k in let n : false ≡ true = rw t at h in cc)

no_zero_before : (ds : List ℕ) → 0 < length ds → (get_or ds 0 0 ≡ 48 → length ds ≡ 1) → has_no_leading_zero ds ≡ true
no_zero_before [] l h = absurd (omega arith)
no_zero_before (d ∷ []) l h = refl
no_zero_before (d ∷ e ∷ ds) l h =
    elim (cases_Bool (eqb d 48)) [
      | inl t ↦ absurd (let n : suc (suc (length ds)) ≡ 1 = h (eqb-true d 48 t) in omega arith)
      | inr f ↦ rw f refl
    ]

pub some_of : {A : Type 0} (b : Bool) (x y : A) → ◌≡◌ {A = Option A} (cond b (Some x) None) (Some y) → (b ≡ true) × (x ≡ y)
some_of true x y h = (refl, cc)
some_of false x y h = absurd cc

pub number_sound : (limit n : ℕ) (text : List ℕ) → limit < 2 ^ 64 → number_at limit text ≡ Some n → (n ≤ limit) × (text ≡ decimal n)
unfolding number_at
number_sound limit n text l h =
    let s = some_of _ (digits_value 10 text) n h in
    let p = and_parts _ _ s.0 in
    let q = and_parts _ _ p.0 in
    let le : digits_value 10 text ≤ limit = leb-true _ _ p.1 in
    let value : digits_value 10 text ≡ n = s.1 in (
      omega arith,
      sym (decimal-digits_value digits_model text q.1 (some_digit text q.0) (one_digit text q.0) (omega arith)) ∙ ap decimal value,
    )

decimal_start : (n : ℕ) → n < 2 ^ 64 → get_or (decimal n) 0 0 ≡ 48 → length (decimal n) ≡ 1
decimal_start zero l h = ap length (decimal_digit 0 (omega arith))
decimal_start (suc n) l h = absurd (let f = first_decimal (suc n) (omega arith) l in omega arith)

pub number_complete : (limit n : ℕ) → limit < 2 ^ 64 → n ≤ limit → number_at limit (decimal n) ≡ Some n
unfolding number_at
number_complete limit n l h =
    let small : n < 2 ^ 64 = omega arith in
    let value : digits_value 10 (decimal n) ≡ n = digits_value-decimal digits_model n small in
    let digits : list_all is_ascii_digit (decimal n) ≡ true = digits_decimal digits_model n small in
    let start : has_no_leading_zero (decimal n) ≡ true = no_zero_before (decimal n) (decimal_nonempty n small) (decimal_start n small) in
    let within : leb (digits_value 10 (decimal n)) limit ≡ true = le-leb _ _ (omega arith) in
    let all = and_from _ _ (and_from _ _ start digits) within in
    rw all (ap (λ (m : ℕ). Some m) value)

pub parsed_text : {E : Type 0} (ds text : List ℕ) (r : Result ℕ E) (o : Option ℕ) → (has_no_leading_zero ds && list_all is_ascii_digit ds) ≡ true → text ≡ ds → ParsesUnsigned 64 10 text r → o ≡ result_ok r → SomeIff o (digits_value 10 ds < 2 ^ 64) (digits_value 10 ds)
parsed_text ds text r o p t h e =
    let q = and_parts (has_no_leading_zero ds) (list_all is_ascii_digit ds) p in
    subst (λ (o : Option ℕ). SomeIff o (digits_value 10 ds < 2 ^ 64) (digits_value 10 ds)) (sym e)
    (parsed_digits ds r q.0 q.1 (subst (λ (t : List ℕ). ParsesUnsigned 64 10 t r) t h))

pub utf8_number : (ds : List ℕ) → (has_no_leading_zero ds && list_all is_ascii_digit ds) ≡ true → IsUtf8 ds
utf8_number ds p = utf8_digits ds (and_parts (has_no_leading_zero ds) (list_all is_ascii_digit ds) p).1

-- steps that may fail
pub bind_some : {A B : Type 0} (r : Option A) (f : A → Option B) (y : B) → (r >>= f) ≡ Some y → (x : A) × (r ≡ Some x) × (f x ≡ Some y)
bind_some None f y h = absurd cc
bind_some (Some x) f y h = (x, refl, h)

pub bound : {A B : Type 0} (r : Option A) (f : A → Option B) (x : A) → r ≡ Some x → (r >>= f) ≡ f x
bound r f x h = ap (λ o. o >>= f) h

pub before_first_part_some : (front : List ℕ) (r : Option (List ℕ × List ℕ)) (x : List ℕ × List ℕ) → before_first_part front r ≡ Some x → (y : List ℕ × List ℕ) × (r ≡ Some y) × (x.0 ≡ front ++ y.0) × (x.1 ≡ y.1)
before_first_part_some front None x h = absurd cc
before_first_part_some front (Some y) x h =
    let e : ◌≡◌ {A = List ℕ × List ℕ} (front ++ y.0, y.1) x = cc in (y, refl, sym (ap (λ z. z.0) e), sym (ap (λ z. z.1) e))

pub chosen : {A : Type 0} (b : Bool) (x y z : A) → cond b x y ≡ z → ((b ≡ true) × (x ≡ z)) ⊎ ((b ≡ false) × (y ≡ z))
chosen true x y z h = inl (refl, h)
chosen false x y z h = inr (refl, h)

not_true : (b : Bool) → not b ≡ true → b ≡ false
not_true true h = absurd cc
not_true false h = refl

-- the parts of a cut, joined by the separator, are the text
pub cut_sound : (separator : ℕ) (text : List ℕ) (parts : List ℕ × List ℕ) → cut_at separator text ≡ Some parts → text ≡ parts.0 ++ separator ∷ parts.1
cut_sound separator [] parts h = absurd cc
cut_sound separator (octet ∷ octets) parts h =
    elim (chosen (eqb octet separator) (Some ([], octets)) (before_first_part (octet ∷ []) (cut_at separator octets)) (Some parts) h) [
      | inl t ↦
          let e : ◌≡◌ {A = List ℕ × List ℕ} ([], octets) parts = let k = t.1 in cc in
          let s : octet ≡ separator = eqb-true octet separator t.0 in
          (λ i. s i ∷ octets) ∙ ap (λ (z : List ℕ × List ℕ). z.0 ++ separator ∷ z.1) e
      | inr f ↦
          let y = before_first_part_some (octet ∷ []) (cut_at separator octets) parts f.1 in
          ap (λ (t : List ℕ). octet ∷ t) (cut_sound separator octets y.0 y.1) ∙ sym (λ i. y.2 i ++ separator ∷ y.3 i)
    ]

-- two parts joined by a separator that the first one lacks are cut at it
pub cut_complete : (separator : ℕ) (front back : List ℕ) → list_all (λ octet. not (eqb octet separator)) front ≡ true → cut_at separator (front ++ separator ∷ back) ≡ Some (front, back)
cut_complete separator [] back h = let t : eqb separator separator ≡ true = eq-eqb separator separator refl in rw t refl
cut_complete separator (octet ∷ front) back h =
    let p = and_parts (not (eqb octet separator)) (list_all (λ octet. not (eqb octet separator)) front) h in
    let f : eqb octet separator ≡ false = not_true _ p.0 in
    rw f (ap (before_first_part (octet ∷ [])) (cut_complete separator front back p.1))

pub all_of : (p q : ℕ → Bool) → ((octet : ℕ) → p octet ≡ true → q octet ≡ true) → (octets : List ℕ) → list_all p octets ≡ true → list_all q octets ≡ true
all_of p q h [] a = refl
all_of p q h (octet ∷ octets) a =
    let s = and_parts (p octet) (list_all p octets) a in and_from _ _ (h octet s.0) (all_of p q h octets s.1)

-- numbers from 1 on
pub positive_sound : (n m : ℕ) → positive n ≡ Some m → (0 < n) × (n ≡ m)
positive_sound n m h =
    elim (chosen (eqb n 0) None (Some n) (Some m) h) [
      | inl t ↦ absurd (let k = t.1 in cc)
      | inr f ↦ let ne : n ≢ 0 = eqb-false n 0 f.0 in (omega arith, (let k = f.1 in cc))
    ]

pub positive_complete : (n : ℕ) → 0 < n → positive n ≡ Some n
positive_complete n h = let f : eqb n 0 ≡ false = ne_eqb n 0 (omega arith) in rw f refl

-- ---- octets that a text lacks

abbrev pub lacks : ℕ → List ℕ → Bool
lacks delimiter text = list_all (λ octet. not (eqb octet delimiter)) text

pub both : (p : ℕ → Bool) (xs ys : List ℕ) → list_all p xs ≡ true → list_all p ys ≡ true → list_all p (xs ++ ys) ≡ true
both p xs ys h k = list_all-append p xs ys ∙ and_from (list_all p xs) (list_all p ys) h k

pub digit_apart : (delimiter octet : ℕ) → is_ascii_digit delimiter ≡ false → is_ascii_digit octet ≡ true → not (eqb octet delimiter) ≡ true
digit_apart delimiter octet h k =
    elim (cases_Bool (eqb octet delimiter)) [
      | inl t ↦ absurd (let e : is_ascii_digit octet ≡ false = ap is_ascii_digit (eqb-true octet delimiter t) ∙ h in let z : false ≡ true = sym e ∙ k in false≢true z)
      | inr f ↦ ap not f
    ]

pub decimal_lacks : (delimiter n : ℕ) → is_ascii_digit delimiter ≡ false → n < 2 ^ 64 → lacks delimiter (decimal n) ≡ true
decimal_lacks delimiter n h l = all_of is_ascii_digit (λ octet. not (eqb octet delimiter)) (λ octet k. digit_apart delimiter octet h k) (decimal n) (digits_decimal digits_model n l)

pub id_lacks : (delimiter : ℕ) (id : OpId) → is_ascii_digit delimiter ≡ false → not (eqb 58 delimiter) ≡ true → IsId id → lacks delimiter (id_text id) ≡ true
id_lacks delimiter id h k w =
    both (λ octet. not (eqb octet delimiter)) (decimal id.replica) (58 ∷ decimal id.number) (decimal_lacks delimiter id.replica h (omega arith))
    (and_from (not (eqb 58 delimiter)) (lacks delimiter (decimal id.number)) k (decimal_lacks delimiter id.number h (omega arith)))

pub entry_lacks : (delimiter : ℕ) (entry : ℕ × ℕ) → is_ascii_digit delimiter ≡ false → not (eqb 61 delimiter) ≡ true → IsEntry entry → lacks delimiter (entry_text entry) ≡ true
entry_lacks delimiter entry h k w =
    both (λ octet. not (eqb octet delimiter)) (decimal entry.0) (61 ∷ decimal entry.1) (decimal_lacks delimiter entry.0 h (omega arith))
    (and_from (not (eqb 61 delimiter)) (lacks delimiter (decimal entry.1)) k (decimal_lacks delimiter entry.1 h (omega arith)))

-- ---- replicas, ids and entries

pub replica_sound : (text : List ℕ) (replica : ℕ) → replica_at text ≡ Some replica → IsReplica replica × (text ≡ decimal replica)
unfolding replica_at
replica_sound text replica h =
    let n = bind_some (number_at 65535 text) positive replica h in
    let p = positive_sound n.0 replica n.2 in
    let t = number_sound 65535 n.0 text (omega arith) n.1 in
    let small : n.0 ≤ 65535 = t.0 in
    let low : 0 < n.0 = p.0 in
    let same : n.0 ≡ replica = p.1 in
    ((omega arith, omega arith), t.1 ∙ ap decimal same)

pub replica_complete : (replica : ℕ) → IsReplica replica → replica_at (decimal replica) ≡ Some replica
unfolding replica_at
replica_complete replica r = bound (number_at 65535 (decimal replica)) positive replica (number_complete 65535 replica (omega arith) r.1) ∙ positive_complete replica r.0

pub pair_sound : (delimiter : ℕ) (text : List ℕ) (pair : ℕ × ℕ) → pair_at delimiter text ≡ Some pair → IsEntry pair × (text ≡ decimal pair.0 ++ delimiter ∷ decimal pair.1)
unfolding pair_at
pair_sound delimiter text pair h =
    let c = bind_some (cut_at delimiter text) _ pair h in
    let r = bind_some (replica_at c.0.0) _ pair c.2 in
    let s = bind_some (number_at 4294967295 c.0.1) _ pair r.2 in
    let n = bind_some (positive s.0) _ pair s.2 in
    let e : ◌≡◌ {A = ℕ × ℕ} (r.0, n.0) pair = let k = n.2 in cc in
    let b = positive_sound s.0 n.0 n.1 in
    let t = replica_sound c.0.0 r.0 r.1 in
    let u = number_sound 4294967295 s.0 c.0.1 (omega arith) s.1 in
    let second : s.0 ≡ n.0 = b.1 in
    let low' : 0 < s.0 = b.0 in
    let high' : s.0 ≤ 4294967295 = u.0 in
    subst (λ (pair : ℕ × ℕ). IsEntry pair × (text ≡ decimal pair.0 ++ delimiter ∷ decimal pair.1)) e (
      (t.0, (omega arith, omega arith)),
      cut_sound delimiter text c.0 c.1 ∙ (λ i. t.1 i ++ delimiter ∷ (u.1 ∙ ap decimal second) i),
    )

pub pair_complete : (delimiter replica number : ℕ) → is_ascii_digit delimiter ≡ false → IsReplica replica → IsNumber number → pair_at delimiter (decimal replica ++ delimiter ∷ decimal number) ≡ Some (replica, number)
unfolding pair_at
pair_complete delimiter replica number h r n =
    bound (cut_at delimiter (decimal replica ++ delimiter ∷ decimal number)) _ (decimal replica, decimal number) (cut_complete delimiter (decimal replica) (decimal number) (decimal_lacks delimiter replica h (omega arith)))
    ∙ bound (replica_at (decimal replica)) _ replica (replica_complete replica r)
    ∙ bound (number_at 4294967295 (decimal number)) _ number (number_complete 4294967295 number (omega arith) n.1)
    ∙ bound (positive number) _ number (positive_complete number n.0)

pub id_sound : (text : List ℕ) (id : OpId) → id_at text ≡ Some id → IsId id × (text ≡ id_text id)
unfolding id_at
id_sound text id h =
    let p = bind_some (pair_at 58 text) _ id h in
    let e : ◌≡◌ {A = OpId} (record { replica = p.0.0; number = p.0.1 }) id = let k = p.2 in cc in
    let t = pair_sound 58 text p.0 p.1 in
    subst (λ (id : OpId). IsId id × (text ≡ id_text id)) e t

pub id_complete : (id : OpId) → IsId id → id_at (id_text id) ≡ Some id
unfolding id_at
id_complete id w = bound (pair_at 58 (id_text id)) _ (id.replica, id.number) (pair_complete 58 id.replica id.number refl w.0 w.1)
