-- Octets that are read as keys of SEARCH, one token after another.
use Rattle.std.proofs.Common.{◌≡◌, ℕ, suc, ◌+◌, ◌-◌, ◌≤◌, Bool, false, ◌||◌, List, [], ◌∷◌, ◌++◌, length, take, drop, min, None, refl, sym, ap, ◌∙◌, append_assoc, length-append, arith}
use Rattle.std.proofs.Math.Seq.{drop-append_seam, take-append_seam}
use Rattle.imap_syntax.specs.Strings.{text_of}
use Rattle.imap_syntax.specs.declared.octet_class.OctetClass.TheVariants.{Pattern}
use Rattle.imap_grammar.specs.Reading.{text_at}
use Rattle.imap_grammar.proofs.ReaderLaws.{IsWordEnd}
use Rattle.imap_grammar.proofs.Texts.{text_complete}
use Rattle.rev1_front.specs.SearchReading.{ReadKey, first_key, key_of_word, key_word, keys_read, same_key, text_len, texts_len, token_end, token_len}
use Rattle.rev1_front.specs.declared.search_days.SentDay.{SentDay}
use Rattle.rev1_front.specs.declared.search_keys.KeyWord.{KeyWord}
use Rattle.rev1_front.specs.declared.search_keys.KeyWord.TheVariants as words
use Rattle.rev1_front.proofs.KeyLemmas.{joined_keys, key_added, or_assoc}

twice_joined : (o p : List ℕ) (a b : Bool) (k : List ℕ × Bool) → joined_keys o a (joined_keys p b k) ≡ joined_keys (o ++ p) (a || b) k
twice_joined o p a b k = λ i. (sym (append_assoc o p k.0) i, sym (or_assoc a b k.1) i)

-- Before `rest` a text is read to `out`, from any number of keys that may be read on.
abbrev pub Reads : List SentDay → List ℕ → List ℕ → Bool → List ℕ → Type 0
Reads days text out asks rest =
    (n : ℕ) → (m : ℕ) × (n ≤ m) × (keys_read (n + length text) days (text ++ rest) ≡ joined_keys out asks (keys_read m days rest))

-- two texts, one after another
pub reads_both : (days : List SentDay) (t u o p rest : List ℕ) (a b : Bool) → Reads days t o a (u ++ rest) → Reads days u p b rest → Reads days (t ++ u) (o ++ p) (a || b) rest
reads_both days t u o p rest a b f g n =
    let x = f (n + length u) in
    let y = g (x.0 - length u) in
    let size : n + length (t ++ u) ≡ (n + length u) + length t = omega (arith, length-append t u) in
    let back : x.0 ≡ (x.0 - length u) + length u = omega arith in (
      y.0,
      omega arith,
      ap (λ k. keys_read k days ((t ++ u) ++ rest)) size ∙ ap (keys_read ((n + length u) + length t) days) (append_assoc t u rest) ∙ x.2
          ∙ ap (λ k. joined_keys o a (keys_read k days (u ++ rest))) back ∙ ap (joined_keys o a) y.2 ∙ twice_joined o p a b (keys_read y.0 days rest),
    )

-- one key
pub reads_key : (days : List SentDay) (text out rest : List ℕ) (asks : Bool) → (text ≡ [] → ⊥) → first_key days (text ++ rest) ≡ record { len = length text; text = out; asks = asks } → Reads days text out asks rest
reads_key days [] out rest asks none e n = absurd (none refl)
reads_key days (b ∷ bs) out rest asks none e n =
    let left : n + length (b ∷ bs) ≡ suc (n + length bs) = omega arith in (
      n + length bs,
      omega arith,
      key_added (n + length (b ∷ bs)) (n + length bs) days ((b ∷ bs) ++ rest) [] false left (λ k. cc)
          ∙ ap (λ (k : ReadKey). joined_keys ([] ++ k.text) (false || k.asks) (keys_read (n + length bs) days (drop k.len ((b ∷ bs) ++ rest)))) e
          ∙ ap (λ r. joined_keys out asks (keys_read (n + length bs) days r)) (drop-append_seam (b ∷ bs) rest),
    )

-- an octet that begins no string and no word
pub reads_octet : (days : List SentDay) (c : ℕ) (rest : List ℕ) → text_at Pattern (c ∷ rest) ≡ None → key_word (c ∷ []) ≡ words.Texts 0 → Reads days (c ∷ []) (c ∷ []) false rest
reads_octet days c rest h k =
    let least : min (length (c ∷ rest)) 1 ≡ 1 = omega arith in
    let one : token_len (c ∷ rest) ≡ 1 = ap (token_end (c ∷ rest)) h ∙ least in
    let e : first_key days (c ∷ rest) ≡ record { len = 1; text = c ∷ []; asks = false } =
    ap (λ l. key_of_word days (c ∷ rest) l (key_word (take l (c ∷ rest)))) one ∙ ap (key_of_word days (c ∷ rest) 1) k in
    reads_key days (c ∷ []) (c ∷ []) rest false (λ z. cc) e

-- a string or a word is a token
pub token_is : (text rest value : List ℕ) → text_of Pattern value text → IsWordEnd rest → token_len (text ++ rest) ≡ length text
token_is text rest value t s =
    let e : length (text ++ rest) ≡ length text + length rest = length-append text rest in
    let n : length (text ++ rest) - length rest ≡ length text = omega arith in
    ap (token_end (text ++ rest)) (text_complete Pattern (text ++ rest) rest value (text, t, refl) s) ∙ n

-- the key of a word
pub key_at : (days : List SentDay) (text rest value : List ℕ) (k : KeyWord) → text_of Pattern value text → IsWordEnd rest → key_word text ≡ k → first_key days (text ++ rest) ≡ key_of_word days (text ++ rest) (length text) k
key_at days text rest value k t s h =
    ap (λ l. key_of_word days (text ++ rest) l (key_word (take l (text ++ rest)))) (token_is text rest value t s)
    ∙ ap (λ (w : List ℕ). key_of_word days (text ++ rest) (length text) (key_word w)) (take-append_seam text rest)
    ∙ ap (key_of_word days (text ++ rest) (length text)) h

-- texts, each after a space
abbrev pub spaced_all : List (List ℕ) → List ℕ
spaced_all [] = []
spaced_all (a ∷ args) = 32 ∷ (a ++ spaced_all args)

abbrev pub AreTexts : List (List ℕ) → Type 0
AreTexts [] = Unit {0}
AreTexts (a ∷ args) = ((value : List ℕ) × text_of Pattern value a) × AreTexts args

pub texts_stop : (args : List (List ℕ)) (rest : List ℕ) → IsWordEnd rest → IsWordEnd (spaced_all args ++ rest)
texts_stop [] rest s = s
texts_stop (a ∷ args) rest s = refl

-- the length of one of them
pub text_len_is : (a more rest : List ℕ) → ((value : List ℕ) × text_of Pattern value a) → IsWordEnd (more ++ rest) → text_len ((32 ∷ (a ++ more)) ++ rest) ≡ suc (length a)
text_len_is a more rest t s = ap (λ o. suc (token_len o)) (append_assoc a more rest) ∙ ap suc (token_is a (more ++ rest) t.0 t.1 s)

pub after_text : (a more rest : List ℕ) → drop (suc (length a)) ((32 ∷ (a ++ more)) ++ rest) ≡ more ++ rest
after_text a more rest = ap (drop (length a)) (append_assoc a more rest) ∙ drop-append_seam a (more ++ rest)

pub texts_len_is : (args : List (List ℕ)) (rest : List ℕ) → AreTexts args → IsWordEnd rest → texts_len (length args) (spaced_all args ++ rest) ≡ length (spaced_all args)
texts_len_is [] rest t s = refl
texts_len_is (a ∷ args) rest t s =
    let size : suc (length a) + length (spaced_all args) ≡ length (32 ∷ (a ++ spaced_all args)) = omega (arith, length-append a (spaced_all args)) in
    ap (λ n. n + texts_len (length args) (drop n ((32 ∷ (a ++ spaced_all args)) ++ rest))) (text_len_is a (spaced_all args) rest t.0 (texts_stop args rest s))
    ∙ ap (λ r. suc (length a) + texts_len (length args) r) (after_text a (spaced_all args) rest)
    ∙ ap (λ n. suc (length a) + n) (texts_len_is args rest t.1 s) ∙ size

pub some_front : (xs ys : List ℕ) → (xs ≡ [] → ⊥) → xs ++ ys ≡ [] → ⊥
some_front [] ys s e = s refl
some_front (x ∷ xs) ys s e = cc

-- octets that stay
abbrev kept : ℕ → List ℕ → ReadKey
kept len text = record { len = len; text = text; asks = false }

pub same_is : (n : ℕ) (text rest : List ℕ) → n ≡ length text → same_key n (text ++ rest) ≡ record { len = length text; text = text; asks = false }
same_is n text rest h =
    ap (λ k. same_key k (text ++ rest)) h
    ∙ ap (λ (t : List ℕ). kept (length text) t) (take-append_seam text rest)

-- a word and the texts after it stay
pub reads_texts : (days : List SentDay) (w rest value : List ℕ) (args : List (List ℕ)) → text_of Pattern value w → (w ≡ [] → ⊥) → key_word w ≡ words.Texts (length args) → AreTexts args → IsWordEnd rest
    → Reads days (w ++ spaced_all args) (w ++ spaced_all args) false rest
reads_texts days w rest value args t some k ts s =
    let whole : (w ++ spaced_all args) ++ rest ≡ w ++ (spaced_all args ++ rest) = append_assoc w (spaced_all args) rest in
    let after : drop (length w) ((w ++ spaced_all args) ++ rest) ≡ spaced_all args ++ rest = ap (drop (length w)) whole ∙ drop-append_seam w (spaced_all args ++ rest) in
    let size : length w + length (spaced_all args) ≡ length (w ++ spaced_all args) = sym (length-append w (spaced_all args)) in
    let len : length w + texts_len (length args) (drop (length w) ((w ++ spaced_all args) ++ rest)) ≡ length (w ++ spaced_all args) =
    ap (λ r. length w + texts_len (length args) r) after ∙ ap (λ n. length w + n) (texts_len_is args rest ts s) ∙ size in
    let key : first_key days ((w ++ spaced_all args) ++ rest) ≡ key_of_word days ((w ++ spaced_all args) ++ rest) (length w) (words.Texts (length args)) =
    ap (first_key days) whole ∙ key_at days w (spaced_all args ++ rest) value (words.Texts (length args)) t (texts_stop args rest s) k
    ∙ ap (λ o. key_of_word days o (length w) (words.Texts (length args))) (sym whole) in
    reads_key days (w ++ spaced_all args) (w ++ spaced_all args) rest false (some_front w (spaced_all args) some) (key ∙ same_is (length w + texts_len (length args) (drop (length w) ((w ++ spaced_all args) ++ rest))) (w ++ spaced_all args) rest len)
