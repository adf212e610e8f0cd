use Rattle.std.proofs.Common.{◌≡◌, inl, inr, ℕ, min, zero, suc, ◌+◌, ◌-◌, ◌≤◌, Bool, true, false, cond, eqb, List, [], ◌∷◌, ◌++◌, length, take, drop, replicate, refl, sym, ap, ◌∙◌, arith, append_assoc}
use Rattle.std.proofs.lemmas.Bool.{and_parts, cases_lt}
use Rattle.std.proofs.lemmas.List.{append-nil, drop-drop, drop_at, length-append, length-drop, length-replicate, length-take, length-take-le, take-append-drop, take-append-le, take-take, take_all, take_at}
use Rattle.text_fields.proofs.FieldLemmas.{both}
use Rattle.op_log.specs.Crashes.{IsPrefixOf}
use Rattle.op_log.specs.Entries.{lines_of}
use Rattle.op_log.specs.Recovery.{IsRecovered}
use Rattle.op_log.specs.declared.entry.Entry.{Entry}
use Rattle.durable_log.specs.Devices.{IsPadded, are_zeros, with_octets_at}

-- ---- zeros

zeros_drop : (n : ℕ) (zeros : List ℕ) → are_zeros zeros ≡ true → are_zeros (drop n zeros) ≡ true
zeros_drop zero zeros h = h
zeros_drop (suc n) [] h = refl
zeros_drop (suc n) (octet ∷ zeros) h = zeros_drop n zeros (and_parts (eqb octet 0) (are_zeros zeros) h).1

zeros_take : (n : ℕ) (zeros : List ℕ) → are_zeros zeros ≡ true → are_zeros (take n zeros) ≡ true
zeros_take zero zeros h = refl
zeros_take (suc n) [] h = refl
zeros_take (suc n) (octet ∷ zeros) h =
    let p = and_parts (eqb octet 0) (are_zeros zeros) h in
    rw p.0 (zeros_take n zeros p.1)

zeros_both : (xs ys : List ℕ) → are_zeros xs ≡ true → are_zeros ys ≡ true → are_zeros (xs ++ ys) ≡ true
zeros_both xs ys h k = both (λ octet. eqb octet 0) xs ys h k

pub zeros_replicate : (n : ℕ) → are_zeros (replicate n 0) ≡ true
zeros_replicate zero = refl
zeros_replicate (suc n) = zeros_replicate n

take_nil : (n : ℕ) → ◌≡◌ {A = List ℕ} (take n []) []
take_nil zero = refl
take_nil (suc n) = refl

-- an empty list that was filled up with zeros
resized : (count had : ℕ) (old new : List ℕ) → old ≡ [] → new ≡ take count old ++ replicate (count - had) 0 → new ≡ replicate (count - had) 0
resized count had old new none e = e ∙ ap (λ (xs : List ℕ). take count xs ++ replicate (count - had) 0) none ∙ ap (λ (xs : List ℕ). xs ++ replicate (count - had) 0) (take_nil count)

pub zeros_resized : (count had : ℕ) (old new : List ℕ) → old ≡ [] → new ≡ take count old ++ replicate (count - had) 0 → are_zeros new ≡ true
zeros_resized count had old new none e = ap are_zeros (resized count had old new none e) ∙ zeros_replicate (count - had)

pub length_resized : (count had : ℕ) (old new : List ℕ) → old ≡ [] → had ≡ length old → new ≡ take count old ++ replicate (count - had) 0 → length new ≡ count
length_resized count had old new none is e =
    let long : length new ≡ count - had = ap (λ (xs : List ℕ). length xs) (resized count had old new none e) ∙ length-replicate (count - had) 0 in
    let zero_had : had ≡ 0 = is ∙ ap (λ (xs : List ℕ). length xs) none in
    omega arith

take_past : (xs ys : List ℕ) (m n : ℕ) → m ≡ length xs + n → take m (xs ++ ys) ≡ xs ++ take n ys
take_past [] ys m n is = let same : m ≡ n = omega arith in ap (λ (k : ℕ). take k ys) same
take_past (x ∷ xs) ys zero n is = absurd (omega arith)
take_past (x ∷ xs) ys (suc m) n is = ap (λ (l : List ℕ). x ∷ l) (take_past xs ys m n (omega arith))

drop_past : (xs ys : List ℕ) (m n : ℕ) → m ≡ length xs + n → drop m (xs ++ ys) ≡ drop n ys
drop_past xs ys m n is = ap (λ (k : ℕ). drop k (xs ++ ys)) is ∙ sym (drop-drop n (length xs) (xs ++ ys)) ∙ ap (drop n) (drop_at xs ys (length xs) refl)

pub take_both : (m n : ℕ) (xs : List ℕ) → take n (take m xs) ≡ take (min m n) xs
take_both m n xs =
    elim (cases_lt m n) [
      | inl l ↦
          let long : length (take m xs) ≡ min m (length xs) = length-take m xs in
          let least : m ≡ min m n = omega arith in
          take_all n (take m xs) (omega arith) ∙ ap (λ (k : ℕ). take k xs) least
      | inr l ↦ let least : n ≡ min m n = omega arith in take-take n m xs l ∙ ap (λ (k : ℕ). take k xs) least
    ]

pub take_before : (m n : ℕ) (xs more : List ℕ) → n ≤ length xs → take (min m n) (take n xs ++ more) ≡ take n (take m xs)
take_before m n xs more w =
    let long : length (take n xs) ≡ n = length-take-le n xs w in
    take-append-le (min m n) (take n xs) more (omega arith) ∙ take-take (min m n) n xs (omega arith) ∙ sym (take_both m n xs)

-- what was synced, of a place that was cut
pub take_cut : (m n : ℕ) (xs : List ℕ) → take (min m n) (take n xs) ≡ take n (take m xs)
take_cut m n xs = take-take (min m n) n xs (omega arith) ∙ sym (take_both m n xs)

-- ---- octets before zeros

-- others are written after them
pub padded_write : (front octets contents : List ℕ) (place : ℕ) → IsPadded front contents → place ≡ length front → IsPadded (front ++ octets) (with_octets_at place octets contents)
padded_write front octets contents place h e =
    let zeros = h.0 in
    let n = length octets in
    let first : take place (front ++ zeros) ≡ front = take_at front zeros place (sym e) in
    let rest : drop (place + n) (front ++ zeros) ≡ drop n zeros = sym (drop-drop n place (front ++ zeros)) ∙ ap (drop n) (drop_at front zeros place (sym e)) in (
      drop n zeros,
      ap (with_octets_at place octets) h.1 ∙ (λ i. first i ++ (octets ++ rest i)) ∙ sym (append_assoc front octets (drop n zeros)),
      zeros_drop n zeros h.2,
    )

-- some of the zeros are left
pub padded_take : (front octets : List ℕ) (place : ℕ) → IsPadded front octets → length front ≤ place → IsPadded front (take place octets)
padded_take front octets place h l =
    let n = place - length front in
    (take n h.0, ap (take place) h.1 ∙ take_past front h.0 place n (omega arith), zeros_take n h.0 h.2)

-- zeros are written over some of the zeros, and after them
pub padded_grow : (front zeros contents : List ℕ) (place : ℕ) → IsPadded front contents → length front ≤ place → are_zeros zeros ≡ true → IsPadded front (with_octets_at place zeros contents)
padded_grow front zeros contents place h l z =
    let n = length zeros in
    let m = (place + n) - length front in
    let p = padded_take front contents place h l in
    let rest : drop (place + n) contents ≡ drop m h.0 = ap (drop (place + n)) h.1 ∙ drop_past front h.0 (place + n) m (omega arith) in
    let parts : with_octets_at place zeros contents ≡ (front ++ p.0) ++ (zeros ++ drop m h.0) = λ i. p.1 i ++ (zeros ++ rest i) in (
      p.0 ++ (zeros ++ drop m h.0),
      parts ∙ append_assoc front p.0 (zeros ++ drop m h.0),
      zeros_both p.0 (zeros ++ drop m h.0) p.2 (zeros_both zeros (drop m h.0) z (zeros_drop m h.0 h.2)),
    )

-- what follows a place, whatever was written there, was cut off
pub padded_cut : (front contents more : List ℕ) (place : ℕ) → IsPadded front contents → length front ≤ place → place ≤ length contents → IsPadded front (take place (take place contents ++ more))
padded_cut front contents more place h l w =
    let p = padded_take front contents place h l in
    (p.0, take_at (take place contents) more place (length-take-le place contents w) ∙ p.1, p.2)

-- a place that was within is, if what is before it was unchanged
pub place_within : (place : ℕ) (before contents : List ℕ) → place ≤ length before → IsPrefixOf (take place before) contents → place ≤ length contents
place_within place before contents w front =
    let first : length (take place before) ≡ place = length-take-le place before w in
    let long : length contents ≡ length (take place before) + length front.0 = ap (λ (xs : List ℕ). length xs) front.1 ∙ length-append (take place before) front.0 in
    omega arith

pub length_cut : (contents more : List ℕ) (place : ℕ) → place ≤ length contents → length (take place (take place contents ++ more)) ≡ place
length_cut contents more place w =
    let first : length (take place contents) ≡ place = length-take-le place contents w in
    ap (λ (xs : List ℕ). length xs) (take_at (take place contents) more place first) ∙ first

pub prefix_of_padded : (front octets : List ℕ) → IsPadded front octets → IsPrefixOf front octets
prefix_of_padded front octets h = (h.0, h.1)

-- a log with what follows it, if only zeros do
pub padded_log : (b : Bool) (log : List ℕ) (entries : List Entry) (octets : ℕ) → IsRecovered log entries octets → b ≡ are_zeros (drop octets log) → IsPadded (lines_of entries) (cond b log (take octets log))
padded_log true log entries octets read e =
    let rest : drop octets log ≡ read.after = ap (drop octets) read.split ∙ drop_at (lines_of entries) read.after octets (sym read.octets_are) in
    (read.after, read.split, sym (e ∙ ap are_zeros rest))
padded_log false log entries octets read e =
    ([], ap (take octets) read.split ∙ take_at (lines_of entries) read.after octets (sym read.octets_are) ∙ sym (append-nil (lines_of entries)), refl)

-- an empty device
pub padded_new : (octets contents : List ℕ) → IsPadded octets (with_octets_at 0 octets (take 0 contents))
padded_new octets contents = ([], ap (λ (xs : List ℕ). octets ++ xs) (drop_nil (0 + length octets)), refl)
  where
    drop_nil : (n : ℕ) → ◌≡◌ {A = List ℕ} (drop n []) []
    drop_nil zero = refl
    drop_nil (suc n) = refl

pub length_of_padded : (front octets : List ℕ) → IsPadded front octets → length front ≤ length octets
length_of_padded front octets h = let long : length octets ≡ length front + length h.0 = ap length h.1 ∙ length-append front h.0 in omega arith

pub length_written : (place : ℕ) (octets contents : List ℕ) → place ≤ length contents → length (with_octets_at place octets contents) ≡ place + (length octets + (length contents - (place + length octets)))
length_written place octets contents h =
    let n = length octets in
    let first : length (take place contents) ≡ place = length-take-le place contents h in
    let rest : length (octets ++ drop (place + n) contents) ≡ n + (length contents - (place + n)) = length-append octets (drop (place + n) contents) ∙ ap (λ (k : ℕ). n + k) (length-drop (place + n) contents) in
    length-append (take place contents) (octets ++ drop (place + n) contents) ∙ (λ i. first i + rest i)

-- ---- octets that are written again

pub rewritten : (place octets : ℕ) (log : List ℕ) → place ≤ octets → octets ≤ length log → with_octets_at place (take (octets - place) (drop place log)) log ≡ log
rewritten place octets log l m =
    let rest = drop place log in
    let n = octets - place in
    let some : length rest ≡ length log - place = length-drop place log in
    let count : length (take n rest) ≡ n = length-take-le n rest (omega arith) in
    let at : place + length (take n rest) ≡ place + n = ap (λ (k : ℕ). place + k) count in
    ap (λ (k : ℕ). take place log ++ (take n rest ++ drop k log)) at
    ∙ ap (λ (xs : List ℕ). take place log ++ (take n rest ++ xs)) (sym (drop-drop n place log))
    ∙ ap (λ (xs : List ℕ). take place log ++ xs) (take-append-drop n rest)
    ∙ take-append-drop place log

-- octets and what follows them
pub split_again : (front back log : List ℕ) → log ≡ front ++ back → log ≡ front ++ drop (length front) log
split_again front back log e = e ∙ ap (λ (xs : List ℕ). front ++ xs) (sym (ap (drop (length front)) e ∙ drop_at front back (length front) refl))
