use Rattle.std.proofs.Common.{◌≡◌, ◌≢◌, subst, inl, inr, ℕ, ◌+◌, ◌≤◌, Bool, true, false, ltb, Option, None, Some, Result, Ok, Err, OnErr, List, [], ◌∷◌, ◌++◌, length, refl, sym, ap, ◌∙◌, append-nil, arith, if◌then◌else◌}
use Rattle.std.specs.BTreeMap.{insert_entry, is_at}
use Rattle.std.specs.Global.{Global, Vec}
use Rattle.std.specs.List.{list_any}
use Rattle.std.specs.Map.{KeepsOthers, lookup, remove_entry, values_of}
use Rattle.std.specs.Option.{option_map_or}
use Rattle.std.specs.Ordering.{nat_cmp}
use Rattle.std.specs.Str.{bytes_eq}
use Rattle.std.specs.declared.cmp.Ordering.TheVariants.{Greater}
use Rattle.std.specs.declared.collections.VecDeque.{VecDeque}
use Rattle.std.proofs.lemmas.Bool.{cases_Bool}
use Rattle.std.proofs.lemmas.Bool.Decides.{nat_tests}
use Rattle.mail_audit.specs.Counts.{count_of}
use Rattle.mail_audit.specs.NumberedCommands.{AreRising, stored_for, numbers_of}
use Rattle.mail_audit.specs.Transcripts.{without_ended}
use Rattle.mail_audit.specs.declared.in_progress.RunningCommand.{RunningCommand}
use Rattle.mail_audit.proofs.SessionLemmas.{same_name}

-- some commands pass a test exactly when the count of these commands isn't 0
pub any_counted : (p : RunningCommand → Bool) (rs : List RunningCommand) → ltb 0 (count_of p rs) ≡ list_any p rs
any_counted p [] = refl
any_counted p (r ∷ rs) =
    elim (cases_Bool (p r)) [
      | inl t ↦ rw t (grind (arith, nat_tests))
      | inr f ↦ rw f (any_counted p rs)
    ]

pub counted_most : (p : RunningCommand → Bool) (rs : List RunningCommand) → count_of p rs ≤ length rs
counted_most p [] = omega arith
counted_most p (r ∷ rs) =
    let m = counted_most p rs in
    elim (cases_Bool (p r)) [
      | inl t ↦ rw t (omega (arith, m))
      | inr f ↦ rw f (omega (arith, m))
    ]

pub counted_append : (p : RunningCommand → Bool) (rs : List RunningCommand) (r : RunningCommand) → count_of p (rs ++ r ∷ []) ≡ count_of p rs + (if p r then 1 else 0)
counted_append p [] r =
    elim (cases_Bool (p r)) [
      | inl t ↦ rw t refl
      | inr f ↦ rw f refl
    ]
counted_append p (x ∷ rs) r =
    let m = counted_append p rs r in
    elim (cases_Bool (p x)) [
      | inl t ↦ rw t (omega (arith, m))
      | inr f ↦ rw f m
    ]

-- ---- commands by their numbers

abbrev Numbered : Type 0
Numbered = ℕ × RunningCommand

pub rising_bounds : (low high : ℕ) (es : List Numbered) → AreRising low high es → low ≤ high
rising_bounds low high [] a = a
rising_bounds low high (e ∷ es) a = let m = rising_bounds (1 + e.0) high es a.1 in omega (arith, a.0, m)

rising_from : (low mid high : ℕ) (es : List Numbered) → low ≤ mid → AreRising mid high es → AreRising low high es
rising_from low mid high [] l a = omega (arith, l, a)
rising_from low mid high (e ∷ es) l a = (omega (arith, l, a.0), a.1)

-- there are no more commands than numbers
pub rising_length : (low high : ℕ) (es : List Numbered) → AreRising low high es → low + length (values_of es) ≤ high
rising_length low high [] a = omega (arith, a)
rising_length low high (e ∷ es) a = let m = rising_length (1 + e.0) high es a.1 in omega (arith, a.0, m)

-- a command with the next number is inserted at the end
pub insert_last : (low high : ℕ) (es : List Numbered) (r : RunningCommand) → AreRising low high es → insert_entry nat_cmp es high r ≡ es ++ (high, r) ∷ []
insert_last low high [] r a = refl
insert_last low high (e ∷ es) r a =
    let m = rising_bounds (1 + e.0) high es a.1 in
    let g : nat_cmp high e.0 ≡ Greater = grind (arith, nat_tests, m) in
    rw g (ap (λ (xs : List Numbered). e ∷ xs) (insert_last (1 + e.0) high es r a.1))

pub rising_append : (low high : ℕ) (es : List Numbered) (r : RunningCommand) → AreRising low high es → AreRising low (high + 1) (es ++ (high, r) ∷ [])
rising_append low high [] r a = (a, omega arith)
rising_append low high (e ∷ es) r a = (a.0, rising_append (1 + e.0) high es r a.1)

pub values_append : (es : List Numbered) (n : ℕ) (r : RunningCommand) → values_of (es ++ (n, r) ∷ []) ≡ values_of es ++ r ∷ []
values_append [] n r = refl
values_append (e ∷ es) n r = ap (λ (rs : List RunningCommand). e.1 ∷ rs) (values_append es n r)

pub numbers_append : (tag : List ℕ) (es : List Numbered) (n : ℕ) (r : RunningCommand) → numbers_of tag (es ++ (n, r) ∷ []) ≡ numbers_of tag es ++ (if bytes_eq tag r.tag then n ∷ [] else [])
numbers_append tag [] n r =
    elim (cases_Bool (bytes_eq tag r.tag)) [
      | inl t ↦ rw t refl
      | inr f ↦ rw f refl
    ]
numbers_append tag (e ∷ es) n r =
    let m = numbers_append tag es n r in
    elim (cases_Bool (bytes_eq tag e.1.tag)) [
      | inl t ↦ rw t (ap (λ (ns : List ℕ). e.0 ∷ ns) m)
      | inr f ↦ rw f m
    ]

-- removing that command gives the earlier commands
pub remove_appended : (low high : ℕ) (es : List Numbered) (r : RunningCommand) → AreRising low high es → remove_entry (is_at (nat_cmp high)) (es ++ (high, r) ∷ []) ≡ es
remove_appended low high [] r a =
    let t : is_at (nat_cmp high) high ≡ true = grind (arith, nat_tests) in
    rw t refl
remove_appended low high (e ∷ es) r a =
    let m = rising_bounds (1 + e.0) high es a.1 in
    let f : is_at (nat_cmp high) e.0 ≡ false = grind (arith, nat_tests, m) in
    rw f (ap (λ (xs : List Numbered). e ∷ xs) (remove_appended (1 + e.0) high es r a.1))

-- ---- the first command with a tag

first_bounds : (low high : ℕ) (tag : List ℕ) (es : List Numbered) (n : ℕ) (ns : List ℕ) → AreRising low high es → numbers_of tag es ≡ n ∷ ns → low ≤ n
first_bounds low high tag [] n ns a e = absurd (cc e)
first_bounds low high tag (x ∷ es) n ns a e =
    elim (cases_Bool (bytes_eq tag x.1.tag)) [
      | inl t ↦ let k = rw t at e in let q : x.0 ≡ n = cc k in omega (arith, a.0, q)
      | inr f ↦ let k = rw f at e in let m = first_bounds (1 + x.0) high tag es n ns a.1 k in omega (arith, a.0, m)
    ]

own_number : (x n : ℕ) → x ≡ n → is_at (nat_cmp n) x ≡ true
own_number x n q = grind (arith, nat_tests, q)

other_number : (x n : ℕ) → 1 + x ≤ n → is_at (nat_cmp n) x ≡ false
other_number x n l = grind (arith, nat_tests, l)

-- the first command with a tag is the one that ends
pub first_ended : (low high : ℕ) (tag : List ℕ) (es : List Numbered) (n : ℕ) (ns : List ℕ) → AreRising low high es → numbers_of tag es ≡ n ∷ ns
    → without_ended tag (values_of es) ≡ values_of (remove_entry (is_at (nat_cmp n)) es)
first_ended low high tag [] n ns a e = absurd (cc e)
first_ended low high tag (x ∷ es) n ns a e =
    elim (cases_Bool (bytes_eq tag x.1.tag)) [
      | inl t ↦ let k = rw t at e in let o = own_number x.0 n (cc k) in rw (t, o) refl
      | inr f ↦
          let k = rw f at e in
          let o = other_number x.0 n (first_bounds (1 + x.0) high tag es n ns a.1 k) in
          rw (f, o) (ap (λ (rs : List RunningCommand). x.1 ∷ rs) (first_ended (1 + x.0) high tag es n ns a.1 k))
    ]

pub first_numbers : (low high : ℕ) (tag : List ℕ) (es : List Numbered) (n : ℕ) (ns : List ℕ) → AreRising low high es → numbers_of tag es ≡ n ∷ ns
    → numbers_of tag (remove_entry (is_at (nat_cmp n)) es) ≡ ns
first_numbers low high tag [] n ns a e = absurd (cc e)
first_numbers low high tag (x ∷ es) n ns a e =
    elim (cases_Bool (bytes_eq tag x.1.tag)) [
      | inl t ↦ let k = rw t at e in let o = own_number x.0 n (cc k) in rw o (cc k)
      | inr f ↦
          let k = rw f at e in
          let o = other_number x.0 n (first_bounds (1 + x.0) high tag es n ns a.1 k) in
          rw o (rw f (first_numbers (1 + x.0) high tag es n ns a.1 k))
    ]

pub first_others : (low high : ℕ) (tag other : List ℕ) (es : List Numbered) (n : ℕ) (ns : List ℕ) → AreRising low high es → numbers_of tag es ≡ n ∷ ns → bytes_eq other tag ≡ false
    → numbers_of other (remove_entry (is_at (nat_cmp n)) es) ≡ numbers_of other es
first_others low high tag other [] n ns a e d = absurd (cc e)
first_others low high tag other (x ∷ es) n ns a e d =
    elim (cases_Bool (bytes_eq tag x.1.tag)) [
      | inl t ↦
          let k = rw t at e in
          let o = own_number x.0 n (cc k) in
          let apart : bytes_eq other x.1.tag ≡ false = ap (bytes_eq other) (sym (same_name tag x.1.tag t)) ∙ d in
          rw (o, apart) refl
      | inr f ↦
          let k = rw f at e in
          let o = other_number x.0 n (first_bounds (1 + x.0) high tag es n ns a.1 k) in
          let m = first_others (1 + x.0) high tag other es n ns a.1 k d in
          rw o (elim (cases_Bool (bytes_eq other x.1.tag)) [
            | inl y ↦ rw y (ap (λ (ms : List ℕ). x.0 ∷ ms) m)
            | inr z ↦ rw z m
          ])
    ]

pub first_exists : (tag : List ℕ) (es : List Numbered) (n : ℕ) (ns : List ℕ) → numbers_of tag es ≡ n ∷ ns → None ≢ lookup (is_at (nat_cmp n)) es
first_exists tag [] n ns e = absurd (cc e)
first_exists tag (x ∷ es) n ns e =
    elim (cases_Bool (is_at (nat_cmp n) x.0)) [
      | inl o ↦ λ z. let y = rw o at z in absurd (cc y)
      | inr o ↦ λ z.
          let y = rw o at z in
          elim (cases_Bool (bytes_eq tag x.1.tag)) [
            | inl t ↦ let k = rw t at e in let p = own_number x.0 n (cc k) in absurd (cc (o, p))
            | inr f ↦ let k = rw f at e in first_exists tag es n ns k y
          ]
    ]

-- if no command has the tag, none ends
pub none_ended : (tag : List ℕ) (es : List Numbered) → numbers_of tag es ≡ [] → without_ended tag (values_of es) ≡ values_of es
none_ended tag [] e = refl
none_ended tag (x ∷ es) e =
    elim (cases_Bool (bytes_eq tag x.1.tag)) [
      | inl t ↦ let k = rw t at e in absurd (cc k)
      | inr f ↦ let k = rw f at e in rw f (ap (λ (rs : List RunningCommand). x.1 ∷ rs) (none_ended tag es k))
    ]

-- without one of the commands, the numbers still ascend
pub rising_remove : (low high : ℕ) (test : ℕ → Bool) (es : List Numbered) → AreRising low high es → AreRising low high (remove_entry test es)
rising_remove low high test [] a = a
rising_remove low high test (e ∷ es) a =
    elim (cases_Bool (test e.0)) [
      | inl t ↦ rw t (rising_from low (1 + e.0) high es (omega (arith, a.0)) a.1)
      | inr f ↦ rw f (a.0, rising_remove (1 + e.0) high test es a.1)
    ]

pub counted_remove : (p : RunningCommand → Bool) (test : ℕ → Bool) (es : List Numbered) (r : RunningCommand) → Some r ≡ lookup test es
    → count_of p (values_of (remove_entry test es)) + (if p r then 1 else 0) ≡ count_of p (values_of es)
counted_remove p test [] r e = absurd (cc e)
counted_remove p test (x ∷ es) r e =
    elim (cases_Bool (test x.0)) [
      | inl t ↦
          let k = rw t at e in
          let q : x.1 ≡ r = cc k in
          rw (t, sym q) (elim (cases_Bool (p x.1)) [
            | inl y ↦ rw y (omega arith)
            | inr z ↦ rw z (omega arith)
          ])
      | inr f ↦
          let k = rw f at e in
          let m = counted_remove p test es r k in
          rw f (elim (cases_Bool (p x.1)) [
            | inl y ↦ rw y (omega (arith, m))
            | inr z ↦ rw z m
          ])
    ]

pub at_error : {T E : Type 0} (r : Result T E) (P : Type 0) → P → OnErr r P
at_error (Ok t) P h = tt
at_error (Err e) P h = h

-- ---- the numbers stored for each tag

abbrev pub Stored : Type 0
Stored = Vec ℕ × VecDeque ℕ Global

abbrev same_key : Vec ℕ → Vec ℕ → Bool
same_key a b = bytes_eq a.items b.items

abbrev has_tag : List ℕ → Vec ℕ → Bool
has_tag tag key = bytes_eq tag key.items

-- a change at a tag leaves the numbers of other tags unchanged
pub stored_elsewhere : (tag : List ℕ) (old new : List Stored) → KeepsOthers same_key (has_tag tag) old new → (other : List ℕ) → bytes_eq other tag ≡ false → stored_for other new ≡ stored_for other old
unfolding KeepsOthers
stored_elsewhere tag old new keeps other d =
    ap (λ (o : Option (VecDeque ℕ Global)). option_map_or (λ (q : VecDeque ℕ Global). q.items) o [])
    (keeps (has_tag other)
    (λ x y t. ap (λ (name : List ℕ). bytes_eq name y.items) (same_name other x.items t))
    (λ k t. ap (bytes_eq other) (sym (same_name tag k.items t)) ∙ d))

pub stored_at : (tag : List ℕ) (stored : List Stored) (numbers : VecDeque ℕ Global) → lookup (has_tag tag) stored ≡ Some numbers → stored_for tag stored ≡ numbers.items
stored_at tag stored numbers e = ap (λ (o : Option (VecDeque ℕ Global)). option_map_or (λ (q : VecDeque ℕ Global). q.items) o []) e

pub none_stored : (tag : List ℕ) (stored : List Stored) → lookup (has_tag tag) stored ≡ None → stored_for tag stored ≡ []
none_stored tag stored e = ap (λ (o : Option (VecDeque ℕ Global)). option_map_or (λ (q : VecDeque ℕ Global). q.items) o []) e

pub stored_same : (tag : List ℕ) (old new : List Stored) → KeepsOthers same_key (has_tag tag) old new → stored_for tag new ≡ stored_for tag old → (other : List ℕ) → stored_for other new ≡ stored_for other old
stored_same tag old new keeps e other =
    elim (cases_Bool (bytes_eq other tag)) [
      | inl t ↦ subst (λ (o : List ℕ). stored_for o new ≡ stored_for o old) (sym (same_name other tag t)) e
      | inr f ↦ stored_elsewhere tag old new keeps other f
    ]

pub stored_append : (tag : List ℕ) (old new : List Stored) (n : ℕ) → KeepsOthers same_key (has_tag tag) old new → stored_for tag new ≡ stored_for tag old ++ n ∷ []
    → (other : List ℕ) → stored_for other new ≡ stored_for other old ++ (if bytes_eq other tag then n ∷ [] else [])
stored_append tag old new n keeps e other =
    elim (cases_Bool (bytes_eq other tag)) [
      | inl t ↦ rw t (subst (λ (o : List ℕ). stored_for o new ≡ stored_for o old ++ n ∷ []) (sym (same_name other tag t)) e)
      | inr f ↦ rw f (stored_elsewhere tag old new keeps other f ∙ sym (append-nil (stored_for other old)))
    ]

-- after the first number stored for a tag is taken out, the remaining numbers are those of the
-- commands without the first command with this tag
pub first_taken : (low high : ℕ) (tag : List ℕ) (es : List Numbered) (n : ℕ) (old new : List Stored) → AreRising low high es → ((other : List ℕ) → numbers_of other es ≡ stored_for other old)
    → stored_for tag old ≡ n ∷ stored_for tag new → ((other : List ℕ) → bytes_eq other tag ≡ false → stored_for other new ≡ stored_for other old)
    → (other : List ℕ) → numbers_of other (remove_entry (is_at (nat_cmp n)) es) ≡ stored_for other new
first_taken low high tag es n old new a same taken others other =
    let e = same tag ∙ taken in
    elim (cases_Bool (bytes_eq other tag)) [
      | inl t ↦ subst (λ (o : List ℕ). numbers_of o (remove_entry (is_at (nat_cmp n)) es) ≡ stored_for o new) (sym (same_name other tag t)) (first_numbers low high tag es n (stored_for tag new) a e)
      | inr f ↦ first_others low high tag other es n (stored_for tag new) a e f ∙ same other ∙ sym (others other f)
    ]
