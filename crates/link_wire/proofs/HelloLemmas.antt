use Rattle.std.proofs.Common.{◌≡◌, ◌≢◌, ℕ, zero, suc, ◌*◌, ◌/◌, ◌%◌, ◌≤◌, true, not, cond, eqb, List, [], ◌∷◌, ◌++◌, Option, Some, None, Result, Ok, Err, MatchOption, length, get_or, refl, sym, ap, ◌∙◌, subst, arith, append_assoc, codes}
use Rattle.std.proofs.lemmas.Bool.{and_parts, and_from}
use Rattle.std.proofs.lemmas.Slice.Eq.{bytes_eq-Decides}
use Rattle.std.proofs.lemmas.Fmt.{decimal_digit}
use Rattle.std.specs.Fmt.{decimal}
use Rattle.std.specs.Str.{bytes_eq}
use Rattle.hex.specs.declared.error.FromHexError.{FromHexError}
use Rattle.hex.specs.Hex.{decode_sized, encode_lower, encode_with, lower_digits}
use Rattle.hex.proofs.HexLemmas.{decode_of-ok, decode_sized-encode_lower, decode_sized-ok, decode_sized-twice}
use Rattle.text_fields.specs.FieldReading.{cut_at, number_at, replica_at}
use Rattle.text_fields.proofs.FieldLemmas.{bind_some, bound, cut_complete, cut_sound, decimal_lacks, lacks, number_complete, number_sound, replica_complete, replica_sound, some_of}
use Rattle.link_wire.specs.declared.hello.Hello.{Hello}
use Rattle.link_wire.specs.declared.hello.HelloFault.TheVariants.{NotInForm}
use Rattle.link_wire.specs.Hello.{AreOctetsOf, HasOtherVersion, IsHello, IsHelloFault, IsHelloSpelled, IsProofSpelled, after_word, hello_at, octets_at, octets_of, proof_at, version_at}
use Rattle.link_wire.proofs.LineReadingLemmas.{bytes_by_octets, octets_by_bytes}

-- ---- octets in hex

octets_sound : (count : ℕ) (text octets : List ℕ) → octets_at count text ≡ Some octets → AreOctetsOf count octets × (text ≡ encode_lower octets)
unfolding octets_at
octets_sound count text octets h = by_decoded (decode_sized text count) refl h
  where
    by_decoded : (d : Result (List ℕ) FromHexError) → decode_sized text count ≡ d → octets_of text d ≡ Some octets → AreOctetsOf count octets × (text ≡ encode_lower octets)
    by_decoded (Err e) d k = absurd cc
    by_decoded (Ok bytes) d k =
        let s = some_of (bytes_eq (encode_lower bytes) text) bytes octets k in
        let twice = decode_sized-ok text count bytes d in
        let read = decode_of-ok text bytes (sym (decode_sized-twice text count twice) ∙ d) in
        let same : length text ≡ 2 * length bytes = read.2 in
        let long : length bytes ≡ count = omega (arith, twice, same) in
        subst (λ (octets : List ℕ). AreOctetsOf count octets × (text ≡ encode_lower octets)) s.1
        ((octets_by_bytes bytes read.3, long), sym ((bytes_eq-Decides (encode_lower bytes) text).0 s.0))

octets_complete : (count : ℕ) (octets : List ℕ) → AreOctetsOf count octets → octets_at count (encode_lower octets) ≡ Some octets
unfolding octets_at
octets_complete count octets w =
    ap (octets_of (encode_lower octets)) (decode_sized-encode_lower octets count w.1 (bytes_by_octets octets w.0))
    ∙ ap (λ b. cond b (Some octets) None) ((bytes_eq-Decides (encode_lower octets) (encode_lower octets)).1 refl)

digit_lacks_space : (digits : List ℕ) (i : ℕ) → lacks 32 digits ≡ true → not (eqb (get_or digits i 0) 32) ≡ true
digit_lacks_space [] i h = refl
digit_lacks_space (d ∷ ds) zero h = (and_parts (not (eqb d 32)) (lacks 32 ds) h).0
digit_lacks_space (d ∷ ds) (suc i) h = digit_lacks_space ds i (and_parts (not (eqb d 32)) (lacks 32 ds) h).1

hex_lacks_space : (digits octets : List ℕ) → lacks 32 digits ≡ true → lacks 32 (encode_with digits octets) ≡ true
unfolding encode_with
hex_lacks_space digits [] h = refl
hex_lacks_space digits (octet ∷ octets) h =
    and_from _ _ (digit_lacks_space digits (octet / 16) h) (and_from _ _ (digit_lacks_space digits (octet % 16) h) (hex_lacks_space digits octets h))

-- ---- first words

after_word_sound : (word line fields : List ℕ) → after_word word line ≡ Some fields → line ≡ word ++ 32 ∷ fields
unfolding after_word
after_word_sound word line fields h =
    let p = bind_some (cut_at 32 line) _ fields h in
    let s = some_of (bytes_eq p.0.0 word) p.0.1 fields p.2 in
    cut_sound 32 line p.0 p.1 ∙ (λ i. (bytes_eq-Decides p.0.0 word).0 s.0 i ++ 32 ∷ s.1 i)

after_word_complete : (word fields : List ℕ) → lacks 32 word ≡ true → after_word word (word ++ 32 ∷ fields) ≡ Some fields
unfolding after_word
after_word_complete word fields h =
    bound (cut_at 32 (word ++ 32 ∷ fields)) (λ parts. cond (bytes_eq parts.0 word) (Some parts.1) None) (word, fields) (cut_complete 32 word fields h)
    ∙ ap (λ b. cond b (Some fields) None) ((bytes_eq-Decides word word).1 refl)

-- ---- hellos

hello_sound : (fields : List ℕ) (hello : Hello) → hello_at fields ≡ Some hello → IsHelloSpelled hello (codes "link 1 " ++ fields)
unfolding hello_at
hello_sound fields hello h =
    let first = bind_some (cut_at 32 fields) _ hello h in
    let own = bind_some (replica_at first.0.0) _ hello first.2 in
    let second = bind_some (cut_at 32 first.0.1) _ hello own.2 in
    let other = bind_some (replica_at second.0.0) _ hello second.2 in
    let third = bind_some (cut_at 32 second.0.1) _ hello other.2 in
    let run = bind_some (octets_at 16 third.0.0) _ hello third.2 in
    let nonce = bind_some (octets_at 32 third.0.1) _ hello run.2 in
    let e : ◌≡◌ {A = Option Hello} (Some (record { own = own.0; other = other.0; run = run.0; nonce = nonce.0 })) (Some hello) = nonce.2 in
    let same : ◌≡◌ {A = Hello} (record { own = own.0; other = other.0; run = run.0; nonce = nonce.0 }) hello = cc in
    let a = replica_sound first.0.0 own.0 own.1 in
    let b = replica_sound second.0.0 other.0 other.1 in
    let c = octets_sound 16 third.0.0 run.0 run.1 in
    let d = octets_sound 32 third.0.1 nonce.0 nonce.1 in
    let last : second.0.1 ≡ encode_lower run.0 ++ 32 ∷ encode_lower nonce.0 = cut_sound 32 second.0.1 third.0 third.1 ∙ (λ i. c.1 i ++ 32 ∷ d.1 i) in
    let later : first.0.1 ≡ decimal other.0 ++ 32 ∷ (encode_lower run.0 ++ 32 ∷ encode_lower nonce.0) = cut_sound 32 first.0.1 second.0 second.1 ∙ (λ i. b.1 i ++ 32 ∷ last i) in
    let whole : fields ≡ decimal own.0 ++ 32 ∷ (decimal other.0 ++ 32 ∷ (encode_lower run.0 ++ 32 ∷ encode_lower nonce.0)) = cut_sound 32 fields first.0 first.1 ∙ (λ i. a.1 i ++ 32 ∷ later i) in
    subst (λ (hello : Hello). IsHelloSpelled hello (codes "link 1 " ++ fields)) same
    (record { own = a.0; other = b.0; run = c.0; nonce = d.0 }, ap (λ (xs : List ℕ). codes "link 1 " ++ xs) whole)

hello_complete : (hello : Hello) → IsHello hello → hello_at (decimal hello.own ++ 32 ∷ (decimal hello.other ++ 32 ∷ (encode_lower hello.run ++ 32 ∷ encode_lower hello.nonce))) ≡ Some hello
unfolding hello_at
hello_complete hello w =
    let own_low = w.own.0 in
    let own_high = w.own.1 in
    let other_low = w.other.0 in
    let other_high = w.other.1 in
    let third : List ℕ = encode_lower hello.run ++ 32 ∷ encode_lower hello.nonce in
    let second : List ℕ = decimal hello.other ++ 32 ∷ third in
    bound (cut_at 32 (decimal hello.own ++ 32 ∷ second)) _ (decimal hello.own, second) (cut_complete 32 (decimal hello.own) second (decimal_lacks 32 hello.own refl (omega arith)))
    ∙ bound (replica_at (decimal hello.own)) _ hello.own (replica_complete hello.own w.own)
    ∙ bound (cut_at 32 second) _ (decimal hello.other, third) (cut_complete 32 (decimal hello.other) third (decimal_lacks 32 hello.other refl (omega arith)))
    ∙ bound (replica_at (decimal hello.other)) _ hello.other (replica_complete hello.other w.other)
    ∙ bound (cut_at 32 third) _ (encode_lower hello.run, encode_lower hello.nonce) (cut_complete 32 (encode_lower hello.run) (encode_lower hello.nonce) (hex_lacks_space lower_digits hello.run refl))
    ∙ bound (octets_at 16 (encode_lower hello.run)) _ hello.run (octets_complete 16 hello.run w.run)
    ∙ bound (octets_at 32 (encode_lower hello.nonce)) _ hello.nonce (octets_complete 32 hello.nonce w.nonce)

-- ---- versions

version_sound : (line : List ℕ) (found : ℕ × List ℕ) → version_at line ≡ Some found → (found.0 ≤ 4294967295) × (line ≡ codes "link " ++ decimal found.0 ++ 32 ∷ found.1)
unfolding version_at
version_sound line found h =
    let f = bind_some (after_word (codes "link") line) _ found h in
    let p = bind_some (cut_at 32 f.0) _ found f.2 in
    let v = bind_some (number_at 4294967295 p.0.0) _ found p.2 in
    let e : ◌≡◌ {A = Option (ℕ × List ℕ)} (Some (v.0, p.0.1)) (Some found) = v.2 in
    let same : ◌≡◌ {A = ℕ × List ℕ} (v.0, p.0.1) found = cc in
    let n = number_sound 4294967295 v.0 p.0.0 (omega arith) v.1 in
    subst (λ (found : ℕ × List ℕ). (found.0 ≤ 4294967295) × (line ≡ codes "link " ++ decimal found.0 ++ 32 ∷ found.1)) same
    (n.0, after_word_sound (codes "link") line f.0 f.1 ∙ ap (λ (xs : List ℕ). codes "link " ++ xs) (cut_sound 32 f.0 p.0 p.1 ∙ ap (λ (xs : List ℕ). xs ++ 32 ∷ p.0.1) n.1))

version_complete : (version : ℕ) (fields : List ℕ) → version ≤ 4294967295 → version_at (codes "link " ++ decimal version ++ 32 ∷ fields) ≡ Some (version, fields)
unfolding version_at
version_complete version fields h =
    bound (after_word (codes "link") (codes "link " ++ decimal version ++ 32 ∷ fields)) _ (decimal version ++ 32 ∷ fields) (after_word_complete (codes "link") (decimal version ++ 32 ∷ fields) refl)
    ∙ bound (cut_at 32 (decimal version ++ 32 ∷ fields)) _ (decimal version, fields) (cut_complete 32 (decimal version) fields (decimal_lacks 32 version refl (omega arith)))
    ∙ bound (number_at 4294967295 (decimal version)) _ version (number_complete 4294967295 version (omega arith) h)

-- the version of a line that spells a hello is 1
one_text : decimal 1 ≡ codes "1"
one_text = decimal_digit 1 (omega arith)

version_of_hello : (line : List ℕ) (hello : Hello) → IsHelloSpelled hello line → version_at line ≡ Some (1, decimal hello.own ++ 32 ∷ (decimal hello.other ++ 32 ∷ (encode_lower hello.run ++ 32 ∷ encode_lower hello.nonce)))
version_of_hello line hello s =
    let fields : List ℕ = decimal hello.own ++ 32 ∷ (decimal hello.other ++ 32 ∷ (encode_lower hello.run ++ 32 ∷ encode_lower hello.nonce)) in
    ap version_at (s.1 ∙ ap (λ (one : List ℕ). codes "link " ++ one ++ 32 ∷ fields) (sym one_text)) ∙ version_complete 1 fields (omega arith)

same_found : (found other : ℕ × List ℕ) (read : Option (ℕ × List ℕ)) → read ≡ Some found → read ≡ Some other → (found.0 ≡ other.0) × (found.1 ≡ other.1)
same_found found other read e f =
    let k : ◌≡◌ {A = Option (ℕ × List ℕ)} (Some found) (Some other) = sym e ∙ f in
    let same : found ≡ other = cc in
    (ap (λ (x : ℕ × List ℕ). x.0) same, ap (λ (x : ℕ × List ℕ). x.1) same)

-- ---- what the readers answer

-- no version is read
pub no_version : (line : List ℕ) → version_at line ≡ None → IsHelloFault NotInForm line
no_version line n = (
  λ hello s. let k : ◌≡◌ {A = Option (ℕ × List ℕ)} None (Some (1, _)) = sym n ∙ version_of_hello line hello s in cc,
  λ v. let k : ◌≡◌ {A = Option (ℕ × List ℕ)} None (Some (v.version, v.fields)) = sym n ∙ ap version_at v.text_is ∙ version_complete v.version v.fields v.small in cc,
)

-- another version is read
pub other_version : (line : List ℕ) (found : ℕ × List ℕ) → version_at line ≡ Some found → found.0 ≢ 1 → HasOtherVersion line
other_version line found v ne = let t = version_sound line found v in record { version = found.0; fields = found.1; small = t.0; other = ne; text_is = t.1 }

-- version 1 is read, and its fields aren't those of a hello
pub no_hello : (line : List ℕ) (found : ℕ × List ℕ) → version_at line ≡ Some found → found.0 ≡ 1 → hello_at found.1 ≡ None → IsHelloFault NotInForm line
no_hello line found v one n = (
  λ hello s.
      let same = same_found found _ (version_at line) v (version_of_hello line hello s) in
      let k : ◌≡◌ {A = Option Hello} None (Some hello) = sym n ∙ ap hello_at same.1 ∙ hello_complete hello s.0 in cc,
  λ o.
      let same = same_found found (o.version, o.fields) (version_at line) v (ap version_at o.text_is ∙ version_complete o.version o.fields o.small) in
      o.other (sym same.0 ∙ one),
)

pub found_hello : (line : List ℕ) (found : ℕ × List ℕ) (hello : Hello) → version_at line ≡ Some found → found.0 ≡ 1 → hello_at found.1 ≡ Some hello → IsHelloSpelled hello line
found_hello line found hello v one h =
    let t = version_sound line found v in
    let text : line ≡ codes "link 1 " ++ found.1 = t.1 ∙ ap (λ (n : ℕ). codes "link " ++ decimal n ++ 32 ∷ found.1) one ∙ ap (λ (digits : List ℕ). codes "link " ++ digits ++ 32 ∷ found.1) one_text in
    subst (IsHelloSpelled hello) (sym text) (hello_sound found.1 hello h)

pub one_hello-by : (line : List ℕ) (hello other : Hello) → IsHelloSpelled hello line → IsHelloSpelled other line → hello ≡ other
one_hello-by line hello other s t =
    let same = same_found _ _ (version_at line) (version_of_hello line hello s) (version_of_hello line other t) in
    let k : ◌≡◌ {A = Option Hello} (Some hello) (Some other) = sym (hello_complete hello s.0) ∙ ap hello_at same.1 ∙ hello_complete other t.0 in cc

-- ---- proofs of the secret

proof_sound : (line digest : List ℕ) → proof_at line ≡ Some digest → IsProofSpelled digest line
unfolding proof_at
proof_sound line digest h =
    let f = bind_some (after_word (codes "proof") line) _ digest h in
    let o = octets_sound 32 f.0 digest f.2 in
    (o.0, after_word_sound (codes "proof") line f.0 f.1 ∙ ap (λ (xs : List ℕ). codes "proof " ++ xs) o.1)

proof_complete : (line digest : List ℕ) → IsProofSpelled digest line → proof_at line ≡ Some digest
unfolding proof_at
proof_complete line digest s =
    bound (after_word (codes "proof") line) (λ fields. octets_at 32 fields) (encode_lower digest) (ap (after_word (codes "proof")) s.1 ∙ after_word_complete (codes "proof") (encode_lower digest) refl)
    ∙ octets_complete 32 digest s.0

pub reads_proof : (line : List ℕ) (read : Option (List ℕ)) → read ≡ proof_at line → MatchOption read ((digest : List ℕ) → ¬ IsProofSpelled digest line) (λ digest. IsProofSpelled digest line)
reads_proof line None e = λ digest s. let k : ◌≡◌ {A = Option (List ℕ)} None (Some digest) = e ∙ proof_complete line digest s in cc
reads_proof line (Some digest) e = proof_sound line digest (sym e)

pub one_proof-by : (line digest other : List ℕ) → IsProofSpelled digest line → IsProofSpelled other line → digest ≡ other
one_proof-by line digest other s t =
    let k : ◌≡◌ {A = Option (List ℕ)} (Some digest) (Some other) = sym (proof_complete line digest s) ∙ proof_complete line other t in cc

-- ---- how a hello is written

-- the names, what was drawn, and the end of the line
pub hello_parts : (before own other run nonce : List ℕ) → ((before ++ (codes "link 1 " ++ own ++ 32 ∷ other)) ++ 32 ∷ (run ++ 32 ∷ nonce)) ++ 10 ∷ [] ≡ before ++ ((codes "link 1 " ++ own ++ 32 ∷ (other ++ 32 ∷ (run ++ 32 ∷ nonce))) ++ 10 ∷ [])
hello_parts before own other run nonce = simp append_assoc
