use Rattle.std.proofs.Common.{◌≡◌, ℕ, zero, suc, ◌+◌, ◌-◌, ◌*◌, ◌/◌, ◌%◌, ◌<◌, ◌≤◌, ◌^◌, Bool, true, false, not, ◌&&◌, ◌||◌, ◌==◌, List, [], ◌∷◌, ◌++◌, length, take, drop, codes, cond, nat_lt, ap, sym, arith, ◌∙◌, refl, append_assoc, inl, inr}
use Rattle.std.proofs.lemmas.Bool.{cases_Bool, lt-ltb, le-ltb, ne_eqb, or_parts}
use Rattle.std.proofs.lemmas.Fmt.{decimal_by_steps}
use Rattle.std.specs.Fmt.{decimal}
use Rattle.std.specs.List.{list_all}
use Rattle.body_print.specs.ReadBack.{AreBounded, AreItemsBounded, IsBounded, IsOnlyReading, IsReading}
use Rattle.body_print.specs.Values.{Joined, Spaced, Value, escaped, is_quotable, joined_text, literal, quoted, spaced_text, string_text, text_of}
use Rattle.body_print.specs.Values.Joined.{JoinedFrom, NoJoined}
use Rattle.body_print.specs.Values.Spaced.{JoinedNext, NoSpaced, NumberNext}
use Rattle.body_print.specs.Values.Value.{ListValue, NilValue, TextValue}

-- the kinds of first octets: NIL's, a string's, a list's, what ends values, a digit's
is_digit : ℕ → Bool
is_digit octet = nat_lt 47 octet && nat_lt octet 58

kind_of : List ℕ → ℕ
kind_of [] = 9
kind_of (octet ∷ octets) =
    cond (octet == 78) 0 (cond ((octet == 34) || (octet == 123)) 1 (cond (octet == 40) 2 (cond ((octet == 32) || (octet == 41)) 3 (cond (is_digit octet) 4 9))))

-- numbers
number_from : ℕ → List ℕ → ℕ × List ℕ
number_from value [] = (value, [])
number_from value (octet ∷ octets) = cond (is_digit octet) (number_from (value * 10 + (octet - 48)) octets) (value, octet ∷ octets)

NumberRead : ℕ → List ℕ → Type 0
NumberRead n ds = (rest : List ℕ) → number_from 0 (ds ++ rest) ≡ number_from n rest

digit_is : (d : ℕ) → d < 10 → is_digit (48 + d) ≡ true
unfolding is_digit
digit_is d h = let a = lt-ltb 47 (48 + d) (omega arith) in let b = lt-ltb (48 + d) 58 (omega arith) in rw (a, b) refl

digit_step : (v d m : ℕ) (rest : List ℕ) → d < 10 → v * 10 + (48 + d - 48) ≡ m → number_from v ((48 + d) ∷ rest) ≡ number_from m rest
unfolding number_from
digit_step v d m rest h e = rw (digit_is d h) (ap (λ k. number_from k rest) e)

number_one : (n : ℕ) → n < 10 → NumberRead n ((48 + n) ∷ [])
unfolding NumberRead
number_one n h = λ rest. digit_step 0 n n rest h (omega arith)

number_more : (n : ℕ) (ds : List ℕ) → 10 ≤ n → NumberRead (n / 10) ds → NumberRead n (ds ++ ((48 + n % 10) ∷ []))
unfolding NumberRead
number_more n ds h r = λ rest.
    ap (number_from 0) (append_assoc ds ((48 + n % 10) ∷ []) rest)
    ∙ r ((48 + n % 10) ∷ rest)
    ∙ digit_step (n / 10) (n % 10) n rest (omega arith) (omega arith)

number_again : (n : ℕ) (rest : List ℕ) → n < 2 ^ 64 → number_from 0 (decimal n ++ rest) ≡ number_from n rest
unfolding NumberRead
number_again n rest h = decimal_by_steps NumberRead number_one number_more n h rest

number_ends : (n octet : ℕ) (rest : List ℕ) → is_digit octet ≡ false → number_from n (octet ∷ rest) ≡ (n, octet ∷ rest)
unfolding number_from
number_ends n octet rest h = rw h refl

decimal_apart : (n m a b : ℕ) (r s : List ℕ) → n < 2 ^ 64 → m < 2 ^ 64 → is_digit a ≡ false → is_digit b ≡ false → decimal n ++ a ∷ r ≡ decimal m ++ b ∷ s → (n ≡ m) × (a ∷ r ≡ b ∷ s)
decimal_apart n m a b r s h k x y e =
    let p : (n, a ∷ r) ≡ (m, b ∷ s) = sym (number_again n (a ∷ r) h ∙ number_ends n a r x) ∙ ap (number_from 0) e ∙ number_again m (b ∷ s) k ∙ number_ends m b s y in
    (ap (λ q. q.0) p, ap (λ q. q.1) p)

Begins : ℕ → List ℕ → Type 0
Begins n ds = (d : ℕ) × (rest : List ℕ) × (ds ≡ d ∷ rest) × (48 ≤ d) × (d ≤ 57)

decimal-begins : (n : ℕ) → n < 2 ^ 64 → Begins n (decimal n)
unfolding Begins
decimal-begins n h = decimal_by_steps Begins (λ m l. (48 + m, [], refl, omega arith, omega arith)) (λ m ds l b. (b.0, b.1 ++ ((48 + m % 10) ∷ []), ap (λ (x : List ℕ). x ++ ((48 + m % 10) ∷ [])) b.2, b.3, b.4)) n h

digit_kind : (d : ℕ) (rest : List ℕ) → 48 ≤ d → d ≤ 57 → kind_of (d ∷ rest) ≡ 4
unfolding kind_of is_digit
digit_kind d rest l h =
    let a = ne_eqb d 78 (λ e. absurd (omega arith)) in
    let b = ne_eqb d 34 (λ e. absurd (omega arith)) in
    let c = ne_eqb d 123 (λ e. absurd (omega arith)) in
    let f = ne_eqb d 40 (λ e. absurd (omega arith)) in
    let g = ne_eqb d 32 (λ e. absurd (omega arith)) in
    let k = ne_eqb d 41 (λ e. absurd (omega arith)) in
    let p = lt-ltb 47 d (omega arith) in
    let q = lt-ltb d 58 (omega arith) in
    rw (a, b, c, f, g, k, p, q) refl

number_kind : (n : ℕ) (rest : List ℕ) → n < 2 ^ 64 → kind_of (decimal n ++ rest) ≡ 4
unfolding Begins
number_kind n rest h =
    let b = decimal-begins n h in
    ap (λ ds. kind_of (ds ++ rest)) b.2 ∙ digit_kind b.0 (b.1 ++ rest) b.3 b.4

-- quoted strings
with_octet : ℕ → List ℕ × List ℕ → List ℕ × List ℕ
with_octet octet read = (octet ∷ read.0, read.1)

quoted_from : List ℕ → List ℕ × List ℕ
quoted_from [] = ([], [])
quoted_from (a ∷ []) = cond (a == 34) ([], []) (a ∷ [], [])
quoted_from (a ∷ b ∷ octets) = cond (a == 34) ([], b ∷ octets) (cond (a == 92) (with_octet b (quoted_from octets)) (with_octet a (quoted_from (b ∷ octets))))

quoted_end : (rest : List ℕ) → quoted_from (34 ∷ rest) ≡ ([], rest)
unfolding quoted_from
quoted_end [] = refl
quoted_end (a ∷ rest) = refl

plain_octet : (o : ℕ) (more : List ℕ) → (o == 34) ≡ false → (o == 92) ≡ false → 0 < length more → quoted_from (o ∷ more) ≡ with_octet o (quoted_from more)
unfolding quoted_from
plain_octet o [] a b l = absurd (omega arith)
plain_octet o (x ∷ more) a b l = rw (a, b) refl

escaped_octet : (o : ℕ) (more : List ℕ) → quoted_from (92 ∷ o ∷ more) ≡ with_octet o (quoted_from more)
unfolding quoted_from
escaped_octet o more = refl

some_left : (xs : List ℕ) (rest : List ℕ) → 0 < length (escaped xs ++ 34 ∷ rest)
some_left [] rest = omega arith
some_left (x ∷ xs) rest = elim (cases_Bool ((x == 34) || (x == 92))) [
  | inl t ↦ rw t (omega arith)
  | inr f ↦ rw f (omega arith)
]

quoted_again : (xs rest : List ℕ) → quoted_from (escaped xs ++ 34 ∷ rest) ≡ (xs, rest)
unfolding with_octet
quoted_again [] rest = quoted_end rest
quoted_again (x ∷ xs) rest = elim (cases_Bool ((x == 34) || (x == 92))) [
  | inl t ↦ rw t (escaped_octet x (escaped xs ++ 34 ∷ rest) ∙ ap (with_octet x) (quoted_again xs rest))
  | inr f ↦ let p = or_parts (x == 34) (x == 92) f in rw f (plain_octet x (escaped xs ++ 34 ∷ rest) p.0 p.1 (some_left xs rest) ∙ ap (with_octet x) (quoted_again xs rest))
]

quoted_apart : (xs ys r s : List ℕ) → quoted xs ++ r ≡ quoted ys ++ s → (xs ≡ ys) × (r ≡ s)
quoted_apart xs ys r s e =
    let p : (xs, r) ≡ (ys, s) = sym (ap quoted_from (append_assoc (escaped xs) (34 ∷ []) r) ∙ quoted_again xs r) ∙ ap (λ t. quoted_from (drop 1 t)) e ∙ ap quoted_from (append_assoc (escaped ys) (34 ∷ []) s) ∙ quoted_again ys s in
    (ap (λ q. q.0) p, ap (λ q. q.1) p)

-- literals
front_of : (xs r : List ℕ) → take (length xs) (xs ++ r) ≡ xs
front_of [] r = refl
front_of (x ∷ xs) r = ap (λ ys. x ∷ ys) (front_of xs r)

back_of : (xs r : List ℕ) → drop (length xs) (xs ++ r) ≡ r
back_of [] r = refl
back_of (x ∷ xs) r = back_of xs r

same_length : (xs ys r s : List ℕ) → length xs ≡ length ys → xs ++ r ≡ ys ++ s → (xs ≡ ys) × (r ≡ s)
same_length xs ys r s l e =
    (sym (front_of xs r) ∙ (λ i. take (l i) (e i)) ∙ front_of ys s, sym (back_of xs r) ∙ (λ i. drop (l i) (e i)) ∙ back_of ys s)

literal_parts : (xs r : List ℕ) → literal xs ++ r ≡ 123 ∷ (decimal (length xs) ++ 125 ∷ 13 ∷ 10 ∷ (xs ++ r))
literal_parts xs r = ap (λ t. 123 ∷ t) (append_assoc (decimal (length xs)) (125 ∷ 13 ∷ 10 ∷ xs) r)

brace_ends : is_digit 125 ≡ false
unfolding is_digit
brace_ends = refl

literal_apart : (xs ys r s : List ℕ) → length xs < 2 ^ 64 → length ys < 2 ^ 64 → literal xs ++ r ≡ literal ys ++ s → (xs ≡ ys) × (r ≡ s)
literal_apart xs ys r s h k e =
    let p : decimal (length xs) ++ 125 ∷ 13 ∷ 10 ∷ (xs ++ r) ≡ decimal (length ys) ++ 125 ∷ 13 ∷ 10 ∷ (ys ++ s) = ap (drop 1) (sym (literal_parts xs r) ∙ e ∙ literal_parts ys s) in
    let q = decimal_apart (length xs) (length ys) 125 125 (13 ∷ 10 ∷ (xs ++ r)) (13 ∷ 10 ∷ (ys ++ s)) h k brace_ends brace_ends p in
    same_length xs ys r s q.0 (ap (drop 3) q.1)

-- strings
head_at : List ℕ → ℕ
head_at [] = 0
head_at (x ∷ xs) = x

string_apart : (xs ys r s : List ℕ) → length xs < 2 ^ 64 → length ys < 2 ^ 64 → string_text xs ++ r ≡ string_text ys ++ s → (xs ≡ ys) × (r ≡ s)
unfolding head_at
string_apart xs ys r s h k e = elim (cases_Bool (list_all is_quotable xs)) [
  | inl t ↦ elim (cases_Bool (list_all is_quotable ys)) [
    | inl u ↦ quoted_apart xs ys r s (ap (λ b. cond b (quoted xs) (literal xs) ++ r) (sym t) ∙ e ∙ ap (λ b. cond b (quoted ys) (literal ys) ++ s) u)
    | inr v ↦ absurd (let n : 34 ≡ 123 = ap (λ b. head_at (cond b (quoted xs) (literal xs) ++ r)) (sym t) ∙ ap head_at e ∙ ap (λ b. head_at (cond b (quoted ys) (literal ys) ++ s)) v in omega (arith, n))
  ]
  | inr f ↦ elim (cases_Bool (list_all is_quotable ys)) [
    | inl u ↦ absurd (let n : 123 ≡ 34 = ap (λ b. head_at (cond b (quoted xs) (literal xs) ++ r)) (sym f) ∙ ap head_at e ∙ ap (λ b. head_at (cond b (quoted ys) (literal ys) ++ s)) u in omega (arith, n))
    | inr v ↦ literal_apart xs ys r s h k (ap (λ b. cond b (quoted xs) (literal xs) ++ r) (sym f) ∙ e ∙ ap (λ b. cond b (quoted ys) (literal ys) ++ s) v)
  ]
]

string_kind : (xs r : List ℕ) → kind_of (string_text xs ++ r) ≡ 1
unfolding kind_of
string_kind xs r = elim (cases_Bool (list_all is_quotable xs)) [
  | inl t ↦ rw t refl
  | inr f ↦ rw f refl
]

-- values
nil_kind : (r : List ℕ) → kind_of (codes "NIL" ++ r) ≡ 0
unfolding kind_of
nil_kind r = refl

list_kind : (xs : List ℕ) → kind_of (40 ∷ xs) ≡ 2
unfolding kind_of
list_kind xs = refl

close_kind : (xs : List ℕ) → kind_of (41 ∷ xs) ≡ 3
unfolding kind_of
close_kind xs = refl

blank_kind : (xs : List ℕ) → kind_of (32 ∷ xs) ≡ 3
unfolding kind_of
blank_kind xs = refl

value_kind : (v : Value) (r : List ℕ) → kind_of (text_of v ++ r) ≤ 2
value_kind NilValue r = let k = nil_kind r in omega (arith, k)
value_kind (TextValue xs) r = let k = string_kind xs r in omega (arith, k)
value_kind (ListValue j s) r = let k = list_kind ((joined_text j ++ (spaced_text s ++ 41 ∷ [])) ++ r) in omega (arith, k)

items_kind : (s : Spaced) (r : List ℕ) → kind_of (spaced_text s ++ 41 ∷ r) ≡ 3
items_kind NoSpaced r = close_kind r
items_kind (JoinedNext j s) r = blank_kind ((joined_text j ++ spaced_text s) ++ 41 ∷ r)
items_kind (NumberNext n s) r = blank_kind ((decimal n ++ spaced_text s) ++ 41 ∷ r)

not_both : (xs ys : List ℕ) (n m : ℕ) → xs ≡ ys → kind_of xs ≡ n → kind_of ys ≡ m → n ≡ m
not_both xs ys n m e a b = sym a ∙ ap kind_of e ∙ b

-- what follows a number is a blank or a parenthesis
number_next : (n m : ℕ) (x y : Spaced) (r s : List ℕ) → n < 2 ^ 64 → m < 2 ^ 64 → decimal n ++ (spaced_text x ++ 41 ∷ r) ≡ decimal m ++ (spaced_text y ++ 41 ∷ s)
    → (n ≡ m) × (spaced_text x ++ 41 ∷ r ≡ spaced_text y ++ 41 ∷ s)
unfolding is_digit
number_next n m NoSpaced NoSpaced r s h k e = decimal_apart n m 41 41 r s h k refl refl e
number_next n m NoSpaced (JoinedNext j y) r s h k e = decimal_apart n m 41 32 r ((joined_text j ++ spaced_text y) ++ 41 ∷ s) h k refl refl e
number_next n m NoSpaced (NumberNext o y) r s h k e = decimal_apart n m 41 32 r ((decimal o ++ spaced_text y) ++ 41 ∷ s) h k refl refl e
number_next n m (JoinedNext i x) NoSpaced r s h k e = decimal_apart n m 32 41 ((joined_text i ++ spaced_text x) ++ 41 ∷ r) s h k refl refl e
number_next n m (JoinedNext i x) (JoinedNext j y) r s h k e = decimal_apart n m 32 32 ((joined_text i ++ spaced_text x) ++ 41 ∷ r) ((joined_text j ++ spaced_text y) ++ 41 ∷ s) h k refl refl e
number_next n m (JoinedNext i x) (NumberNext o y) r s h k e = decimal_apart n m 32 32 ((joined_text i ++ spaced_text x) ++ 41 ∷ r) ((decimal o ++ spaced_text y) ++ 41 ∷ s) h k refl refl e
number_next n m (NumberNext p x) NoSpaced r s h k e = decimal_apart n m 32 41 ((decimal p ++ spaced_text x) ++ 41 ∷ r) s h k refl refl e
number_next n m (NumberNext p x) (JoinedNext j y) r s h k e = decimal_apart n m 32 32 ((decimal p ++ spaced_text x) ++ 41 ∷ r) ((joined_text j ++ spaced_text y) ++ 41 ∷ s) h k refl refl e
number_next n m (NumberNext p x) (NumberNext o y) r s h k e = decimal_apart n m 32 32 ((decimal p ++ spaced_text x) ++ 41 ∷ r) ((decimal o ++ spaced_text y) ++ 41 ∷ s) h k refl refl e

list_parts : (j : Joined) (s : Spaced) (r : List ℕ) → text_of (ListValue j s) ++ r ≡ 40 ∷ (joined_text j ++ (spaced_text s ++ 41 ∷ r))
list_parts j s r = ap (λ t. 40 ∷ t) (append_assoc (joined_text j) (spaced_text s ++ 41 ∷ []) r ∙ ap (λ t. joined_text j ++ t) (append_assoc (spaced_text s) (41 ∷ []) r))

differ : (a b : ℕ) (xs ys : List ℕ) → a ∷ xs ≡ b ∷ ys → a ≡ b
unfolding head_at
differ a b xs ys e = ap head_at e

mixed : (j : Joined) (r : List ℕ) (n : ℕ) (s : List ℕ) → kind_of r ≡ 3 → n < 2 ^ 64 → joined_text j ++ r ≡ decimal n ++ s → ⊥
mixed NoJoined r n s g h e = let k = not_both _ _ 3 4 e g (number_kind n s h) in omega (arith, k)
mixed (JoinedFrom v j) r n s g h e =
    let k = ap kind_of (sym (append_assoc (text_of v) (joined_text j) r) ∙ e) ∙ number_kind n s h in let l = value_kind v (joined_text j ++ r) in omega (arith, k, l)

-- values whose texts begin two equal texts are the same, and so are the rests
mutual
  value_apart : (v w : Value) (r s : List ℕ) → IsBounded v → IsBounded w → text_of v ++ r ≡ text_of w ++ s → (v ≡ w) × (r ≡ s)
  value_apart NilValue NilValue r s a b e = (refl, ap (drop 3) e)
  value_apart NilValue (TextValue ys) r s a b e = absurd (let k = not_both _ _ 0 1 e (nil_kind r) (string_kind ys s) in omega (arith, k))
  value_apart NilValue (ListValue k y) r s a b e = absurd (let q = not_both _ _ 0 2 e (nil_kind r) (list_kind _) in omega (arith, q))
  value_apart (TextValue xs) NilValue r s a b e = absurd (let k = not_both _ _ 1 0 e (string_kind xs r) (nil_kind s) in omega (arith, k))
  value_apart (TextValue xs) (TextValue ys) r s a b e = let p = string_apart xs ys r s a b e in (ap TextValue p.0, p.1)
  value_apart (TextValue xs) (ListValue k y) r s a b e = absurd (let q = not_both _ _ 1 2 e (string_kind xs r) (list_kind _) in omega (arith, q))
  value_apart (ListValue j x) NilValue r s a b e = absurd (let q = not_both _ _ 2 0 e (list_kind _) (nil_kind s) in omega (arith, q))
  value_apart (ListValue j x) (TextValue ys) r s a b e = absurd (let q = not_both _ _ 2 1 e (list_kind _) (string_kind ys s) in omega (arith, q))
  value_apart (ListValue j x) (ListValue k y) r s a b e =
      let p : joined_text j ++ (spaced_text x ++ 41 ∷ r) ≡ joined_text k ++ (spaced_text y ++ 41 ∷ s) = ap (drop 1) (sym (list_parts j x r) ∙ e ∙ list_parts k y s) in
      let q = joined_apart j k (spaced_text x ++ 41 ∷ r) (spaced_text y ++ 41 ∷ s) a.0 b.0 (items_kind x r) (items_kind y s) p in
      let t = items_apart x y r s a.1 b.1 q.1 in
      ((λ i. ListValue (q.0 i) (t.0 i)), t.1)

  joined_apart : (j k : Joined) (r s : List ℕ) → AreBounded j → AreBounded k → kind_of r ≡ 3 → kind_of s ≡ 3 → joined_text j ++ r ≡ joined_text k ++ s → (j ≡ k) × (r ≡ s)
  joined_apart NoJoined NoJoined r s a b g h e = (refl, e)
  joined_apart NoJoined (JoinedFrom w k) r s a b g h e =
      absurd (let p = ap kind_of (e ∙ append_assoc (text_of w) (joined_text k) s) in let l = value_kind w (joined_text k ++ s) in omega (arith, p, l, g))
  joined_apart (JoinedFrom v j) NoJoined r s a b g h e =
      absurd (let p = ap kind_of (sym (append_assoc (text_of v) (joined_text j) r) ∙ e) in let l = value_kind v (joined_text j ++ r) in omega (arith, p, l, h))
  joined_apart (JoinedFrom v j) (JoinedFrom w k) r s a b g h e =
      let p = value_apart v w (joined_text j ++ r) (joined_text k ++ s) a.0 b.0 (sym (append_assoc (text_of v) (joined_text j) r) ∙ e ∙ append_assoc (text_of w) (joined_text k) s) in
      let q = joined_apart j k r s a.1 b.1 g h p.1 in
      ((λ i. JoinedFrom (p.0 i) (q.0 i)), q.1)

  items_apart : (x y : Spaced) (r s : List ℕ) → AreItemsBounded x → AreItemsBounded y → spaced_text x ++ 41 ∷ r ≡ spaced_text y ++ 41 ∷ s → (x ≡ y) × (r ≡ s)
  items_apart NoSpaced NoSpaced r s a b e = (refl, ap (drop 1) e)
  items_apart NoSpaced (JoinedNext k y) r s a b e = absurd (let n = differ 41 32 _ _ e in omega (arith, n))
  items_apart NoSpaced (NumberNext m y) r s a b e = absurd (let n = differ 41 32 _ _ e in omega (arith, n))
  items_apart (JoinedNext j x) NoSpaced r s a b e = absurd (let n = differ 32 41 _ _ e in omega (arith, n))
  items_apart (NumberNext n x) NoSpaced r s a b e = absurd (let m = differ 32 41 _ _ e in omega (arith, m))
  items_apart (JoinedNext j x) (JoinedNext k y) r s a b e =
      let p = ap (drop 1) (sym (ap (λ t. 32 ∷ t) (append_assoc (joined_text j) (spaced_text x) (41 ∷ r))) ∙ e ∙ ap (λ t. 32 ∷ t) (append_assoc (joined_text k) (spaced_text y) (41 ∷ s))) in
      let q = joined_apart j k (spaced_text x ++ 41 ∷ r) (spaced_text y ++ 41 ∷ s) a.0 b.0 (items_kind x r) (items_kind y s) p in
      let t = items_apart x y r s a.1 b.1 q.1 in
      ((λ i. JoinedNext (q.0 i) (t.0 i)), t.1)
  items_apart (NumberNext n x) (NumberNext m y) r s a b e =
      let p = ap (drop 1) (sym (ap (λ t. 32 ∷ t) (append_assoc (decimal n) (spaced_text x) (41 ∷ r))) ∙ e ∙ ap (λ t. 32 ∷ t) (append_assoc (decimal m) (spaced_text y) (41 ∷ s))) in
      let q = number_next n m x y r s a.0 b.0 p in
      let t = items_apart x y r s a.1 b.1 q.1 in
      ((λ i. NumberNext (q.0 i) (t.0 i)), t.1)
  items_apart (JoinedNext j x) (NumberNext m y) r s a b e =
      absurd (mixed j (spaced_text x ++ 41 ∷ r) m (spaced_text y ++ 41 ∷ s) (items_kind x r) b.0 (ap (drop 1) (sym (ap (λ t. 32 ∷ t) (append_assoc (joined_text j) (spaced_text x) (41 ∷ r))) ∙ e ∙ ap (λ t. 32 ∷ t) (append_assoc (decimal m) (spaced_text y) (41 ∷ s)))))
  items_apart (NumberNext n x) (JoinedNext k y) r s a b e =
      absurd (mixed k (spaced_text y ++ 41 ∷ s) n (spaced_text x ++ 41 ∷ r) (items_kind y s) a.0 (ap (drop 1) (sym (ap (λ t. 32 ∷ t) (append_assoc (joined_text k) (spaced_text y) (41 ∷ s))) ∙ sym e ∙ ap (λ t. 32 ∷ t) (append_assoc (decimal n) (spaced_text x) (41 ∷ r)))))

pub one_reading : (text : List ℕ) (v w : Value) (r s : List ℕ) → IsReading text v r → IsReading text w s → (v ≡ w) × (r ≡ s)
one_reading text v w r s a b = value_apart v w r s a.bounded b.bounded (sym a.text_is ∙ b.text_is)

pub reads_back : (v : Value) (more : List ℕ) → IsBounded v → IsOnlyReading (text_of v ++ more) v more
reads_back v more b =
    let r : IsReading (text_of v ++ more) v more = record { bounded = b; text_is = refl } in
    record { read = r; only = λ other rest s. one_reading (text_of v ++ more) other v rest more s r }
