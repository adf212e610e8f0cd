use Rattle.std.proofs.Common.{◌≡◌, ◌++◌, ◌<◌, ◌≤◌, ◌^◌, inl, inr, ℕ, Bool, true, false, not, eqb, List, [], ◌∷◌, Some, None, refl, sym, ap, ◌∙◌, subst, arith, codes, IsTrue}
use Rattle.std.proofs.lemmas.Bool.{and_parts}
use Rattle.std.proofs.lemmas.Bool.Decides.{nat_tests}
use Rattle.std.specs.Char.{is_ascii_alphanumeric}
use Rattle.std.specs.Fmt.{decimal}
use Rattle.std.specs.List.{list_all}
use Rattle.std.specs.Str.{bytes_eq}
use Rattle.std.proofs.lemmas.Slice.Eq.{bytes_eq-Decides}
use Rattle.imap_types.specs.Escape.{AreOctets, escape_text, unescape}
use Rattle.imap_types.specs.declared.escape.Escape.TheVariants.{Text}
use Rattle.imap_types.proofs.EscapeLemmas.{unescaped_complete, unescaped_sound}
use Rattle.text_fields.proofs.FieldLemmas.{all_of, bind_some, bound, chosen, cut_complete, cut_sound, decimal_lacks, number_complete, number_sound, positive_complete, positive_sound}
use Rattle.mail_script.specs.Fields.{IsFirstK, IsFirstUid, IsMoment, is_session_name}
use Rattle.mail_script.specs.Reading.{tail_at, counted_at, cut_at, first_numbers_at, before_first_part, moment_at, number_at, positive, session_at, session_and_text_at}
use Rattle.mail_script.specs.Script.{first_numbers_text}

not_true : (b : Bool) → not b ≡ true → b ≡ false
not_true true h = absurd cc
not_true false h = refl

pub cut_none : (separator : ℕ) (text : List ℕ) → list_all (λ octet. not (eqb octet separator)) text ≡ true → cut_at separator text ≡ None
cut_none separator [] h = refl
cut_none separator (octet ∷ octets) h =
    let p = and_parts (not (eqb octet separator)) (list_all (λ octet. not (eqb octet separator)) octets) h in
    let f : eqb octet separator ≡ false = not_true (eqb octet separator) p.0 in
    rw f (ap (before_first_part (octet ∷ [])) (cut_none separator octets p.1))

letter_no_space : (octet : ℕ) → is_ascii_alphanumeric octet ≡ true → not (eqb octet 32) ≡ true
letter_no_space octet h = grind (arith, nat_tests)

pub session_no_space : (name : List ℕ) → is_session_name name ≡ true → list_all (λ octet. not (eqb octet 32)) name ≡ true
session_no_space name h = all_of is_ascii_alphanumeric (λ octet. not (eqb octet 32)) letter_no_space name (and_parts _ _ h).1

pub moment_sound : (text : List ℕ) (moment : ℕ) → moment_at text ≡ Some moment → IsMoment moment × (text ≡ decimal moment)
unfolding moment_at
moment_sound text moment h = number_sound 253402300799 moment text (omega arith) h

pub moment_complete : (moment : ℕ) → IsMoment moment → moment_at (decimal moment) ≡ Some moment
unfolding moment_at
moment_complete moment m = number_complete 253402300799 moment (omega arith) m

pub session_sound : (text name : List ℕ) → session_at text ≡ Some name → IsTrue (is_session_name name) × (text ≡ name)
unfolding session_at
session_sound text name h =
    elim (chosen (is_session_name text) (Some text) None (Some name) h) [
      | inl t ↦ let e : text ≡ name = let k = t.1 in cc in (sym (ap is_session_name e) ∙ t.0, e)
      | inr f ↦ absurd (let k = f.1 in cc)
    ]

pub session_complete : (name : List ℕ) → IsTrue (is_session_name name) → session_at name ≡ Some name
unfolding session_at
session_complete name h = rw h refl

pub spoken_sound : (text : List ℕ) (spoken : List ℕ × List ℕ) → session_and_text_at text ≡ Some spoken → IsTrue (is_session_name spoken.0) × AreOctets spoken.1 × (text ≡ spoken.0 ++ 32 ∷ escape_text Text spoken.1)
unfolding session_and_text_at
spoken_sound text spoken h =
    let c = bind_some (cut_at 32 text) _ spoken h in
    let s = bind_some (session_at c.0.0) _ spoken c.2 in
    let t = bind_some (unescape Text c.0.1) _ spoken s.2 in
    let e : ◌≡◌ {A = List ℕ × List ℕ} (s.0, t.0) spoken = let k = t.2 in cc in
    let n = session_sound c.0.0 s.0 s.1 in
    let u = unescaped_sound Text c.0.1 t.0 t.1 in
    subst (λ (z : List ℕ × List ℕ). IsTrue (is_session_name z.0) × AreOctets z.1 × (text ≡ z.0 ++ 32 ∷ escape_text Text z.1)) e
    (n.0, u.0, cut_sound 32 text c.0 c.1 ∙ (λ i. n.1 i ++ 32 ∷ u.1 i))

pub spoken_complete : (session text : List ℕ) → IsTrue (is_session_name session) → AreOctets text → session_and_text_at (session ++ 32 ∷ escape_text Text text) ≡ Some (session, text)
unfolding session_and_text_at
spoken_complete session text s a =
    bound (cut_at 32 (session ++ 32 ∷ escape_text Text text)) _ (session, escape_text Text text) (cut_complete 32 session (escape_text Text text) (session_no_space session s))
    ∙ bound (session_at session) _ session (session_complete session s)
    ∙ bound (unescape Text (escape_text Text text)) _ text (unescaped_complete Text text a)

pub counted_sound : (limit : ℕ) (text : List ℕ) (number : ℕ) → limit < 2 ^ 64 → counted_at limit text ≡ Some number → (0 < number) × (number ≤ limit) × (text ≡ decimal number)
unfolding counted_at
counted_sound limit text number l h =
    let n = bind_some (number_at limit text) positive number h in
    let p = positive_sound n.0 number n.2 in
    let t = number_sound limit n.0 text l n.1 in
    let e : n.0 ≡ number = p.1 in
    subst (λ (m : ℕ). (0 < m) × (m ≤ limit) × (text ≡ decimal m)) e (p.0, t.0, t.1)

pub counted_complete : (limit number : ℕ) → limit < 2 ^ 64 → 0 < number → number ≤ limit → counted_at limit (decimal number) ≡ Some number
unfolding counted_at
counted_complete limit number l p h =
    bound (number_at limit (decimal number)) positive number (number_complete limit number l h) ∙ positive_complete number p

tail_sound : (word text rest : List ℕ) → tail_at word text ≡ Some rest → text ≡ word ++ 32 ∷ rest
unfolding tail_at
tail_sound word text rest h =
    let c = bind_some (cut_at 32 text) _ rest h in
    elim (chosen (bytes_eq c.0.0 word) (Some c.0.1) None (Some rest) c.2) [
      | inl t ↦
          let same : c.0.0 ≡ word = (bytes_eq-Decides c.0.0 word).0 t.0 in
          let e : c.0.1 ≡ rest = let k = t.1 in cc in
          cut_sound 32 text c.0 c.1 ∙ (λ i. same i ++ 32 ∷ e i)
      | inr f ↦ absurd (let k = f.1 in cc)
    ]

tail_complete : (word rest : List ℕ) → list_all (λ octet. not (eqb octet 32)) word ≡ true → tail_at word (word ++ 32 ∷ rest) ≡ Some rest
unfolding tail_at
tail_complete word rest l =
    bound (cut_at 32 (word ++ 32 ∷ rest)) _ (word, rest) (cut_complete 32 word rest l)
    ∙ (let t : bytes_eq word word ≡ true = (bytes_eq-Decides word word).1 refl in rw t refl)

pub first_numbers_sound : (text : List ℕ) (numbers : ℕ × ℕ) → first_numbers_at text ≡ Some numbers → IsFirstUid numbers.0 × IsFirstK numbers.1 × (32 ∷ text ≡ first_numbers_text numbers.0 numbers.1)
unfolding first_numbers_at
first_numbers_sound text numbers h =
    let a = bind_some (tail_at (codes "uid") text) _ numbers h in
    let c = bind_some (cut_at 32 a.0) _ numbers a.2 in
    let u = bind_some (counted_at 4294967295 c.0.0) _ numbers c.2 in
    let b = bind_some (tail_at (codes "k") c.0.1) _ numbers u.2 in
    let k = bind_some (counted_at 65536 b.0) _ numbers b.2 in
    let e : ◌≡◌ {A = ℕ × ℕ} (u.0, k.0) numbers = let z = k.2 in cc in
    let s = counted_sound 4294967295 c.0.0 u.0 (omega arith) u.1 in
    let t = counted_sound 65536 b.0 k.0 (omega arith) k.1 in
    let last : c.0.1 ≡ codes "k " ++ decimal k.0 = tail_sound (codes "k") c.0.1 b.0 b.1 ∙ ap (λ (z : List ℕ). codes "k " ++ z) t.2 in
    let rest : a.0 ≡ decimal u.0 ++ 32 ∷ (codes "k " ++ decimal k.0) = cut_sound 32 a.0 c.0 c.1 ∙ (λ i. s.2 i ++ 32 ∷ last i) in
    subst (λ (z : ℕ × ℕ). IsFirstUid z.0 × IsFirstK z.1 × (32 ∷ text ≡ first_numbers_text z.0 z.1)) e
    ((s.0, s.1), (t.0, t.1), ap (λ (z : List ℕ). 32 ∷ z) (tail_sound (codes "uid") text a.0 a.1) ∙ ap (λ (z : List ℕ). codes " uid " ++ z) rest)

-- The first numbers without the space before them.
abbrev pub numbers_text : ℕ → ℕ → List ℕ
numbers_text uid k = codes "uid " ++ (decimal uid ++ (codes " k " ++ decimal k))

pub first_numbers_complete : (uid k : ℕ) → IsFirstUid uid → IsFirstK k → first_numbers_at (numbers_text uid k) ≡ Some (uid, k)
unfolding first_numbers_at
first_numbers_complete uid k u i =
    let last : List ℕ = codes "k " ++ decimal k in
    bound (tail_at (codes "uid") (numbers_text uid k)) _ (decimal uid ++ 32 ∷ last) (tail_complete (codes "uid") (decimal uid ++ 32 ∷ last) refl)
    ∙ bound (cut_at 32 (decimal uid ++ 32 ∷ last)) _ (decimal uid, last) (cut_complete 32 (decimal uid) last (decimal_lacks 32 uid refl (omega arith)))
    ∙ bound (counted_at 4294967295 (decimal uid)) _ uid (counted_complete 4294967295 uid (omega arith) u.0 u.1)
    ∙ bound (tail_at (codes "k") last) _ (decimal k) (tail_complete (codes "k") (decimal k) refl)
    ∙ bound (counted_at 65536 (decimal k)) _ k (counted_complete 65536 k (omega arith) i.0 i.1)
