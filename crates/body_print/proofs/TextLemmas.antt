use Rattle.std.proofs.Common.{◌≡◌, ℕ, Bool, List, [], ◌∷◌, ◌++◌, length, Result, Ok, Err, OnOk, ap, sym, ◌∙◌, refl, append_assoc}
use Rattle.std.proofs.lemmas.List.{append-nil}
use Rattle.std.specs.Prelude.{if◌then◌else◌}
use Rattle.std.specs.Result.{is_ok}
use Rattle.std.specs.Fmt.{decimal}
use Rattle.body_print.specs.Bodies.{Media, extension, line_count, message_value, part_items}
use Rattle.body_print.specs.Envelopes.{envelope_of}
use Rattle.body_print.specs.Values.{Joined, Spaced, joined_text, next, spaced_text, string_text, text_of}
use Rattle.body_print.specs.Values.Spaced.{JoinedNext, NoSpaced, NumberNext}

-- items with further ones after them
abbrev pub spaced_append : Spaced → Spaced → Spaced
spaced_append NoSpaced more = more
spaced_append (JoinedNext joined spaced) more = JoinedNext joined (spaced_append spaced more)
spaced_append (NumberNext number spaced) more = NumberNext number (spaced_append spaced more)

pub spaced-append : (x y : Spaced) → spaced_text (spaced_append x y) ≡ spaced_text x ++ spaced_text y
spaced-append NoSpaced y = refl
spaced-append (JoinedNext j x) y = ap (λ t. 32 ∷ (joined_text j ++ t)) (spaced-append x y) ∙ ap (λ t. 32 ∷ t) (sym (append_assoc (joined_text j) (spaced_text x) (spaced_text y)))
spaced-append (NumberNext n x) y = ap (λ t. 32 ∷ (decimal n ++ t)) (spaced-append x y) ∙ ap (λ t. 32 ∷ t) (sym (append_assoc (decimal n) (spaced_text x) (spaced_text y)))

-- a part's items are those up to its size and those after it
items-append : (header body : List ℕ) (media : Media) (more : Spaced) → spaced_text (part_items header body media more) ≡ spaced_text (part_items header body media NoSpaced) ++ spaced_text more
items-append header body media more = spaced-append (part_items header body media NoSpaced) more

-- an envelope and a blank after a part's items
pub items_appended : (header body inner : List ℕ) (media : Media) (old items blank enveloped new : List ℕ) → items ≡ old ++ (40 ∷ (string_text media.0.0 ++ spaced_text (part_items header body media NoSpaced))) → blank ≡ items ++ 32 ∷ []
    → enveloped ≡ blank ++ text_of (envelope_of inner) → new ≡ enveloped ++ 32 ∷ []
    → new ≡ old ++ (40 ∷ (string_text media.0.0 ++ (spaced_text (part_items header body media (next (envelope_of inner) NoSpaced)) ++ 32 ∷ [])))
items_appended header body inner media old items blank enveloped new a b c d =
    let all : (major s t : List ℕ) → (((old ++ (40 ∷ (major ++ s))) ++ 32 ∷ []) ++ t) ++ 32 ∷ [] ≡ old ++ (40 ∷ (major ++ ((s ++ (32 ∷ t)) ++ 32 ∷ []))) = λ major s t. simp append_assoc in
    let text = text_of (envelope_of inner) in
    let before = spaced_text (part_items header body media NoSpaced) in
    d
    ∙ ap (λ x. x ++ 32 ∷ []) (c ∙ ap (λ x. x ++ text) (b ∙ ap (λ x. x ++ 32 ∷ []) a))
    ∙ all (string_text media.0.0) before text
    ∙ ap (λ x. old ++ (40 ∷ (string_text media.0.0 ++ ((before ++ (32 ∷ x)) ++ 32 ∷ [])))) (sym (append-nil (text ++ []) ∙ append-nil text))
    ∙ ap (λ x. old ++ (40 ∷ (string_text media.0.0 ++ (x ++ 32 ∷ [])))) (sym (items-append header body media (next (envelope_of inner) NoSpaced)))

-- a message's list: its items, the bodies among them, and the items after those
message_joined : (old begun bodied new major items bodies more : List ℕ) → begun ≡ old ++ (40 ∷ (major ++ (items ++ 32 ∷ []))) → bodied ≡ begun ++ bodies → new ≡ bodied ++ (more ++ 41 ∷ [])
    → new ≡ old ++ (40 ∷ ((major ++ []) ++ ((items ++ (32 ∷ (bodies ++ more))) ++ 41 ∷ [])))
message_joined old begun bodied new major items bodies more a b c =
    let all : ((old ++ (40 ∷ (major ++ (items ++ 32 ∷ [])))) ++ bodies) ++ (more ++ 41 ∷ []) ≡ old ++ (40 ∷ (major ++ ((items ++ (32 ∷ (bodies ++ more))) ++ 41 ∷ []))) = simp append_assoc in
    c
    ∙ ap (λ x. x ++ (more ++ 41 ∷ [])) (b ∙ ap (λ x. x ++ bodies) a)
    ∙ all
    ∙ ap (λ x. old ++ (40 ∷ (x ++ ((items ++ (32 ∷ (bodies ++ more))) ++ 41 ∷ [])))) (sym (append-nil major))

pub message_appended : (extended : Bool) (header body inner shown : List ℕ) (media : Media) (bodies : Joined) (old begun bodied new : List ℕ) → inner ≡ shown
    → begun ≡ old ++ (40 ∷ (string_text media.0.0 ++ (spaced_text (part_items header body media (next (envelope_of inner) NoSpaced)) ++ 32 ∷ []))) → bodied ≡ begun ++ joined_text bodies
    → new ≡ bodied ++ (spaced_text (NumberNext (line_count body) (extension extended header)) ++ 41 ∷ []) → new ≡ old ++ text_of (message_value extended header body media shown bodies)
message_appended extended header body inner shown media bodies old begun bodied new i a b c =
    let items = part_items header body media (next (envelope_of inner) NoSpaced) in
    let more = NumberNext (line_count body) (extension extended header) in
    message_joined old begun bodied new (string_text media.0.0) (spaced_text items) (joined_text bodies) (spaced_text more) a b c
    ∙ ap (λ x. old ++ (40 ∷ ((string_text media.0.0 ++ []) ++ (x ++ 41 ∷ [])))) (sym (spaced-append items (JoinedNext bodies more)))
    ∙ ap (λ (x : List ℕ). old ++ text_of (message_value extended header body media x bodies)) i

-- what a call that succeeded says, by what is known
pub on_ok : {T E : Type 0} (r : Result T E) {P Q : Type 0} → (P → Q) → OnOk r P → OnOk r Q
on_ok (Ok x) f h = f h
on_ok (Err e) f h = h

-- what a call appends if it succeeds
pub if_ok : {T E : Type 0} (r : Result T E) (new full old : List ℕ) → new ≡ (if is_ok r then full else old) → OnOk r (new ≡ full)
if_ok (Ok x) new full old e = e
if_ok (Err f) new full old e = tt
