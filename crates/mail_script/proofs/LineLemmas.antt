use Rattle.std.proofs.Common.{◌≡◌, ◌≢◌, ◌++◌, ◌+◌, take_all, ◌-◌, ◌≤◌, inl, inr, ℕ, eqb, List, [], ◌∷◌, Option, Some, None, refl, sym, ap, ◌∙◌, arith, length, take, drop, append_assoc, length-drop, length-append}
use Rattle.std.proofs.lemmas.Bool.{cases_Bool}
use Rattle.std.proofs.Math.Seq.{drop-append_seam, take-append_seam}
use Rattle.std.proofs.lemmas.List.{length-take-le, drop-drop, take-append-drop}
use Rattle.mail_script.specs.Lines.{IsSearched, prepend_octet, lines_of}
use Rattle.mail_script.specs.Reading.{cut_at, before_first_part}
use Rattle.text_fields.proofs.FieldLemmas.{chosen, cut_sound, before_first_part_some}

-- a cut stays the same if text is added at the end
pub lines_next : (text line rest more : List ℕ) → cut_at 10 text ≡ Some (line, rest) → lines_of (text ++ more) ≡ line ∷ lines_of (rest ++ more)
lines_next [] line rest more h = absurd cc
lines_next (octet ∷ octets) line rest more h =
    elim (chosen (eqb octet 10) (Some ([], octets)) (before_first_part (octet ∷ []) (cut_at 10 octets)) (Some (line, rest)) h) [
      | inl t ↦
          let e : ◌≡◌ {A = List ℕ × List ℕ} ([], octets) (line, rest) = let k = t.1 in cc in
          rw (t.0) (ap (λ (z : List ℕ × List ℕ). z.0 ∷ lines_of (z.1 ++ more)) e)
      | inr f ↦
          let y = before_first_part_some (octet ∷ []) (cut_at 10 octets) (line, rest) f.1 in
          let i = lines_next octets y.0.0 y.0.1 more y.1 in
          let l : line ≡ octet ∷ y.0.0 = y.2 in
          let r : rest ≡ y.0.1 = y.3 in
          rw (f.0) (ap (prepend_octet octet) i ∙ sym (λ k. l k ∷ lines_of (r k ++ more)))
    ]

none_front : (octet : ℕ) (r : Option (List ℕ × List ℕ)) → before_first_part (octet ∷ []) r ≡ None → r ≡ None
none_front octet None h = refl
none_front octet (Some y) h = absurd cc

joined : (front line after : List ℕ) → (front ++ (line ++ 10 ∷ [])) ++ after ≡ front ++ (line ++ 10 ∷ after)
joined front line after = simp append_assoc

no_front : (r : Option (List ℕ × List ℕ)) → r ≡ before_first_part [] r
no_front None = refl
no_front (Some y) = refl

more_front : (octet : ℕ) (front : List ℕ) (r : Option (List ℕ × List ℕ)) → before_first_part (octet ∷ []) (before_first_part front r) ≡ before_first_part (octet ∷ front) r
more_front octet front None = refl
more_front octet front (Some y) = refl

pub lines_last : (text : List ℕ) → cut_at 10 text ≡ None → text ≢ [] → lines_of text ≡ text ∷ []
lines_last [] h n = absurd (n refl)
lines_last (octet ∷ []) h n =
    elim (cases_Bool (eqb octet 10)) [ inl t ↦ absurd (let k = rw t at h in cc) | inr f ↦ rw f refl ]
lines_last (octet ∷ next ∷ octets) h n =
    elim (chosen (eqb octet 10) (Some ([], next ∷ octets)) (before_first_part (octet ∷ []) (cut_at 10 (next ∷ octets))) None h) [
      | inl t ↦ absurd (let k = t.1 in cc)
      | inr f ↦ rw (f.0) (ap (prepend_octet octet) (lines_last (next ∷ octets) (none_front octet (cut_at 10 (next ∷ octets)) f.1) (λ k. cc)))
    ]

-- text that has no separator joins the part before the cut
cut_past : (front back : List ℕ) → cut_at 10 front ≡ None → cut_at 10 (front ++ back) ≡ before_first_part front (cut_at 10 back)
cut_past [] back h = no_front (cut_at 10 back)
cut_past (octet ∷ front) back h =
    elim (chosen (eqb octet 10) (Some ([], front)) (before_first_part (octet ∷ []) (cut_at 10 front)) None h) [
      | inl t ↦ absurd (let k = t.1 in cc)
      | inr f ↦ rw (f.0) (ap (before_first_part (octet ∷ [])) (cut_past front back (none_front octet (cut_at 10 front) f.1)) ∙ more_front octet front (cut_at 10 back))
    ]

-- the octets after those taken are those searched and the rest
searched_parts : (taken searched : ℕ) (octets : List ℕ) → taken ≤ searched → drop taken octets ≡ take (searched - taken) (drop taken octets) ++ drop searched octets
searched_parts taken searched octets h =
    sym (take-append-drop (searched - taken) (drop taken octets))
    ∙ ap (λ (t : List ℕ). take (searched - taken) (drop taken octets) ++ t) (drop-drop (searched - taken) taken octets ∙ ap (λ n. drop n octets) (let e : taken + (searched - taken) ≡ searched = omega arith in e))

pub cut_on : (taken searched : ℕ) (octets : List ℕ) → IsSearched taken searched octets → cut_at 10 (drop taken octets) ≡ before_first_part (take (searched - taken) (drop taken octets)) (cut_at 10 (drop searched octets))
cut_on taken searched octets h =
    ap (cut_at 10) (searched_parts taken searched octets h.taken_first)
    ∙ cut_past (take (searched - taken) (drop taken octets)) (drop searched octets) h.no_end

-- everything was searched
pub all_searched : (taken searched len : ℕ) (octets own : List ℕ) → IsSearched taken searched octets → len ≡ length octets → None ≡ cut_at 10 (drop searched octets) → own ≡ drop taken octets → (cut_at 10 own ≡ None) × IsSearched taken len octets
all_searched taken searched len octets own h l c o =
    let whole : cut_at 10 (drop taken octets) ≡ None = cut_on taken searched octets h ∙ ap (before_first_part (take (searched - taken) (drop taken octets))) (sym c) in
    let low = h.taken_first in
    let high = h.within in (
      ap (cut_at 10) o ∙ whole,
      record {
        taken_first = omega arith;
        within = omega arith;
        no_end = ap (cut_at 10) (take_all (len - taken) (drop taken octets) (let d = length-drop taken octets in omega arith)) ∙ whole;
      },
    )

-- the end of the line is in range
pub end_fits : (taken searched : ℕ) (octets front after : List ℕ) → IsSearched taken searched octets → ◌≡◌ {A = Option (List ℕ × List ℕ)} (Some (front, after)) (cut_at 10 (drop searched octets)) → searched + length front + 1 + length after ≡ length octets
end_fits taken searched octets front after h c =
    let e : drop searched octets ≡ front ++ 10 ∷ after = cut_sound 10 (drop searched octets) (front, after) (sym c) in
    let m = ap length e in
    let n = length-append front (10 ∷ after) in
    let d = length-drop searched octets in
    let w = h.within in
    omega arith

front_of : (count : ℕ) (front after : List ℕ) → count ≡ length front → (take count (front ++ 10 ∷ after) ≡ front) × (drop (count + 1) (front ++ 10 ∷ after) ≡ after)
front_of count front after k =
    let one : length (front ++ 10 ∷ []) ≡ count + 1 = length-append front (10 ∷ []) ∙ (let j = k in omega arith) in (
      ap (λ n. take n (front ++ 10 ∷ after)) k ∙ take-append_seam front (10 ∷ after),
      (λ i. drop (sym one i) (sym (append_assoc front (10 ∷ []) after) i)) ∙ drop-append_seam (front ++ 10 ∷ []) after,
    )

-- the line up to the LF that the search reached
pub next_line_is : (taken searched : ℕ) (octets own front after copied : List ℕ) → IsSearched taken searched octets → own ≡ drop taken octets → ◌≡◌ {A = Option (List ℕ × List ℕ)} (Some (front, after)) (cut_at 10 (drop searched octets)) → copied ≡ take (searched - taken + length front) own → cut_at 10 own ≡ Some (copied, drop (taken + (searched - taken + length front + 1)) octets)
next_line_is taken searched octets own front after copied h o c k =
    let before : List ℕ = take (searched - taken) (drop taken octets) in
    let low = h.taken_first in
    let high = h.within in
    let d = length-drop taken octets in
    let b : length before ≡ searched - taken = length-take-le (searched - taken) (drop taken octets) (omega arith) in
    let cut_is : cut_at 10 (drop taken octets) ≡ Some (before ++ front, after) = cut_on taken searched octets h ∙ ap (before_first_part before) (sym c) in
    let whole : drop taken octets ≡ (before ++ front) ++ 10 ∷ after = cut_sound 10 (drop taken octets) (before ++ front, after) cut_is in
    let count : searched - taken + length front ≡ length (before ++ front) = sym (length-append before front ∙ ap (λ n. n + length front) b) in
    let f = front_of (searched - taken + length front) (before ++ front) after count in
    let line : copied ≡ before ++ front = k ∙ ap (take (searched - taken + length front)) (o ∙ whole) ∙ f.0 in
    let rest : drop (taken + (searched - taken + length front + 1)) octets ≡ after =
    sym (drop-drop (searched - taken + length front + 1) taken octets) ∙ ap (drop (searched - taken + length front + 1)) whole ∙ f.1 in
    ap (cut_at 10) o ∙ cut_is ∙ (λ i. Some (sym line i, sym rest i))

-- no octet lies between those taken and those searched
pub none_between : (n : ℕ) (octets : List ℕ) → n ≤ length octets → IsSearched n n octets
none_between n octets h =
    let z : n - n ≡ 0 = omega arith in
    record { taken_first = omega arith; within = h; no_end = ap (λ k. cut_at 10 (take k (drop n octets))) z }

-- a part up to the end
pub part_is : (n : ℕ) (xs ys : List ℕ) → ys ≡ xs → take (length ys - n) (drop n ys) ≡ drop n xs
part_is n xs ys e =
    take_all (length ys - n) (drop n ys) (let d = length-drop n ys in omega arith) ∙ ap (drop n) e

pub count_fits : (taken searched : ℕ) (octets own rest front after : List ℕ) → IsSearched taken searched octets → own ≡ drop taken octets → rest ≡ own → ◌≡◌ {A = Option (List ℕ × List ℕ)} (Some (front, after)) (cut_at 10 (drop searched octets)) → searched - taken + length front ≡ length (take (searched - taken + length front) rest)
count_fits taken searched octets own rest front after h o r c =
    let f = end_fits taken searched octets front after h c in
    let l : length rest ≡ length (drop taken octets) = ap length (r ∙ o) in
    let d = length-drop taken octets in
    let low = h.taken_first in
    sym (length-take-le (searched - taken + length front) rest (omega arith))

pub taken_fits : (taken searched : ℕ) (octets front after : List ℕ) → IsSearched taken searched octets → ◌≡◌ {A = Option (List ℕ × List ℕ)} (Some (front, after)) (cut_at 10 (drop searched octets)) → taken + (searched - taken + length front + 1) ≤ length octets
taken_fits taken searched octets front after h c =
    let f = end_fits taken searched octets front after h c in
    let low = h.taken_first in
    omega arith
