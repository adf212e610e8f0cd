use Rattle.std.proofs.Common.{◌≡◌, ◌≢◌, ℕ, zero, suc, ◌+◌, ◌<◌, ◌≤◌, Bool, true, false, List, [], ◌∷◌, ◌++◌, length, drop, get_or, codes, ap, sym, ◌∙◌, arith, refl, append_assoc, Option, Some, None, Result, Ok, Err, IfOk, OnOk, encode_utf8, ne_eqb, drop-cons, add-one}
use Rattle.std.proofs.lemmas.List.{append-nil}
use Rattle.std.specs.Result.{result_ok}
use Rattle.base64.specs.GeneralPurpose.{decode_of, decoded_of}
use Rattle.base64.specs.declared.decode.DecodeError.{DecodeError}
use Rattle.base64.specs.declared.engine.general_purpose.GeneralPurpose.{GeneralPurpose}
use Rattle.mailbox_utf7.specs.Reading.{joined, text_of_octets, text_of_shift, text_read, text_read_after, text_read_next}

pub if_ok : {T E : Type 0} (r : Result T E) (P Q : T → Type 0) → ((x : T) → P x → Q x) → IfOk r P → IfOk r Q
if_ok (Ok x) P Q f h = f x h
if_ok (Err e) P Q f h = tt

pub on_ok : {T E : Type 0} (r : Result T E) (P Q : Type 0) → (P → Q) → OnOk r P → OnOk r Q
on_ok (Ok x) P Q f h = f h
on_ok (Err e) P Q f h = tt

-- the symbols of a shift
pub no_symbols : (d : List ℕ → Option (List ℕ)) (symbols text : List ℕ) → length symbols ≡ 0 → text ≡ codes "&" → Some text ≡ text_of_shift d symbols
no_symbols d [] text l e = ap Some e
no_symbols d (s ∷ symbols) text l e = absurd (omega arith)

pub some_symbols : (d : List ℕ → Option (List ℕ)) (symbols : List ℕ) → length symbols ≢ 0 → text_of_shift d symbols ≡ text_of_octets (d symbols)
some_symbols d [] n = absurd (n refl)
some_symbols d (s ∷ symbols) n = refl

pub decoded_of_err : (e : GeneralPurpose) (s : List ℕ) (f : DecodeError) → decode_of e s ≡ Err f → decoded_of e s ≡ None
unfolding decoded_of
decoded_of_err e s f h = ap result_ok h

-- texts after one another
pub joined_none : (text : Option (List ℕ)) → joined (Some []) text ≡ text
joined_none None = refl
joined_none (Some text) = refl

pub joined_twice : (one two : List ℕ) (text : Option (List ℕ)) → joined (Some one) (joined (Some two) text) ≡ joined (Some (one ++ two)) text
joined_twice one two None = refl
joined_twice one two (Some text) = ap Some (sym (append_assoc one two text))

-- an octet within a shift
pub shift_grows : (d : List ℕ → Option (List ℕ)) (name symbols after rest : List ℕ) (octet : ℕ) (is_shifted : Bool) → is_shifted ≡ true → octet ≢ 45 → after ≡ symbols ++ octet ∷ []
    → text_read_after d name is_shifted symbols (octet ∷ rest) ≡ text_read_after d name true after rest
shift_grows d name symbols after rest octet is_shifted s n a =
    ap (λ b. text_read_after d name b symbols (octet ∷ rest)) s ∙ rw (ne_eqb octet 45 n, a) refl

-- the end of a shift
pub shift_ends : (d : List ℕ → Option (List ℕ)) (name text new symbols after rest : List ℕ) (octet : ℕ) (is_shifted : Bool) → is_shifted ≡ true → octet ≡ 45 → Some text ≡ text_of_shift d symbols
    → new ≡ name ++ text → after ≡ [] → text_read_after d name is_shifted symbols (octet ∷ rest) ≡ text_read_after d new false after rest
shift_ends d name text new symbols after rest octet is_shifted s e t n a =
    (λ i. text_read_after d name (s i) symbols (e i ∷ rest))
    ∙ ap (λ o. joined (Some name) (joined o (text_read d false [] rest))) (sym t)
    ∙ joined_twice name text (text_read d false [] rest)
    ∙ (λ i. joined (Some (sym n i)) (text_read d false (sym a i) rest))

-- a shift without a text
pub shift_fails : (d : List ℕ → Option (List ℕ)) (name symbols rest : List ℕ) (octet : ℕ) (is_shifted : Bool) → is_shifted ≡ true → octet ≡ 45 → None ≡ text_of_shift d symbols
    → text_read_after d name is_shifted symbols (octet ∷ rest) ≡ None
shift_fails d name symbols rest octet is_shifted s e t =
    (λ i. text_read_after d name (s i) symbols (e i ∷ rest))
    ∙ ap (λ o. joined (Some name) (joined o (text_read d false [] rest))) (sym t)

-- an octet outside
pub direct_read : (d : List ℕ → Option (List ℕ)) (name new symbols after rest : List ℕ) (octet character : ℕ) → octet ≢ 38 → character ≡ octet → new ≡ name ++ encode_utf8 character → after ≡ []
    → text_read_after d name false symbols (octet ∷ rest) ≡ text_read_after d new false after rest
direct_read d name new symbols after rest octet character n c e a =
    let f : new ≡ name ++ encode_utf8 octet = e ∙ ap (λ x. name ++ encode_utf8 x) c in
    rw (ne_eqb octet 38 n) (joined_twice name (encode_utf8 octet) (text_read d false [] rest))
    ∙ (λ i. joined (Some (sym f i)) (text_read d false (sym a i) rest))

-- the next octet of all
pub next_read : (d : List ℕ → Option (List ℕ)) (name new symbols after octets : List ℕ) (k : ℕ) (is_shifted : Bool) (next : Option Bool) (octet : ℕ) (all : Option (List ℕ)) → k < length octets
    → octet ≡ get_or octets k 0
    → ((rest : List ℕ) → text_read_after d name is_shifted symbols (octet ∷ rest) ≡ text_read_next d new next after rest)
    → text_read_after d name is_shifted symbols (drop k octets) ≡ all → text_read_next d new next after (drop (k + 1) octets) ≡ all
next_read d name new symbols after octets k is_shifted next octet all l o s h =
    let e : octet ∷ drop (k + 1) octets ≡ drop k octets = rw (o, add-one) (sym (drop-cons octets k 0 l)) in
    sym (s (drop (k + 1) octets)) ∙ ap (text_read_after d name is_shifted symbols) e ∙ h

drop_end : (octets : List ℕ) (k : ℕ) → length octets ≤ k → drop k octets ≡ []
drop_end [] zero l = refl
drop_end [] (suc k) l = refl
drop_end (o ∷ octets) zero l = absurd (omega arith)
drop_end (o ∷ octets) (suc k) l = drop_end octets k (omega arith)

-- the end of all
pub ends_in_shift : (d : List ℕ → Option (List ℕ)) (name symbols octets : List ℕ) (k : ℕ) (is_shifted : Bool) (all : Option (List ℕ)) → length octets ≤ k → is_shifted ≡ true
    → text_read_after d name is_shifted symbols (drop k octets) ≡ all → None ≡ all
ends_in_shift d name symbols octets k is_shifted all l s h =
    sym (λ i. text_read_after d name (s i) symbols (drop_end octets k l i)) ∙ h

pub ends_outside : (d : List ℕ → Option (List ℕ)) (name symbols octets : List ℕ) (k : ℕ) (is_shifted : Bool) (all : Option (List ℕ)) → length octets ≤ k → is_shifted ≡ false
    → text_read_after d name is_shifted symbols (drop k octets) ≡ all → Some name ≡ all
ends_outside d name symbols octets k is_shifted all l s h =
    ap Some (sym (append-nil name)) ∙ sym (λ i. text_read_after d name (s i) symbols (drop_end octets k l i)) ∙ h
