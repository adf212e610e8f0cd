-- Whether a search asks for days doesn't depend on them, nor does one that doesn't ask.
use Rattle.std.proofs.Common.{◌≡◌, ℕ, zero, suc, ◌+◌, Bool, true, false, ◌||◌, List, [], ◌∷◌, ◌++◌, length, take, drop, Option, Some, None, refl, sym, ap, ◌∙◌, subst}
use Rattle.imap_types.specs.declared.day.Day.{Day}
use Rattle.imap_syntax.specs.declared.search.DateRelation.{DateRelation}
use Rattle.rev1_front.specs.SearchReading.{ReadKey, charset_len, day_after_space, first_key, key_of_word, key_word, keys_read, profile_keys, program_read, returned_len, search_read, sent_text, text_len, token_len}
use Rattle.rev1_front.specs.declared.search_days.SentDay.{SentDay}
use Rattle.rev1_front.specs.declared.search_keys.KeyWord.{KeyWord}
use Rattle.rev1_front.specs.declared.search_keys.KeyWord.TheVariants as words

-- a key is as long, and asks as another does; if it doesn't ask, it is the same in the profile
abbrev IsAsOther : ReadKey → ReadKey → Type 0
IsAsOther key other = (key.len ≡ other.len) × (key.asks ≡ other.asks) × (key.asks ≡ false → key.text ≡ other.text)

sent_as_other : (relation : DateRelation) (days others : List SentDay) (len : ℕ) (octets : List ℕ) (day : Option Day) → IsAsOther (sent_text relation days len octets day) (sent_text relation others len octets day)
sent_as_other relation days others len octets None = (refl, refl, λ n. refl)
sent_as_other relation days others len octets (Some day) = (refl, refl, λ n. absurd (let z : true ≡ false = n in cc))

key_as_other : (days others : List SentDay) (octets : List ℕ) (len : ℕ) (word : KeyWord) → IsAsOther (key_of_word days octets len word) (key_of_word others octets len word)
key_as_other days others octets len words.Old = (refl, refl, λ n. refl)
key_as_other days others octets len words.Recent = (refl, refl, λ n. refl)
key_as_other days others octets len words.ModSeq = (refl, refl, λ n. refl)
key_as_other days others octets len (words.Sent relation) = sent_as_other relation days others (len + text_len (drop len octets)) octets (day_after_space (take (text_len (drop len octets)) (drop len octets)))
key_as_other days others octets len (words.Texts count) = (refl, refl, λ n. refl)

-- the same of keys
abbrev AreAsOthers : List ℕ × Bool → List ℕ × Bool → Type 0
AreAsOthers keys others = (keys.1 ≡ others.1) × (keys.1 ≡ false → keys.0 ≡ others.0)

or_first : (a b : Bool) → (a || b) ≡ false → a ≡ false
or_first false b n = refl
or_first true b n = n

or_second : (a b : Bool) → (a || b) ≡ false → b ≡ false
or_second false b n = n
or_second true b n = absurd (let z : true ≡ false = n in cc)

joined_as_others : (key other : ReadKey) (keys others : List ℕ × Bool) → IsAsOther key other → AreAsOthers keys others → AreAsOthers (key.text ++ keys.0, key.asks || keys.1) (other.text ++ others.0, other.asks || others.1)
joined_as_others key other keys others k r = (
  ap (λ b. b || keys.1) k.1 ∙ ap (λ b. other.asks || b) r.0,
  λ n. ap (λ t. t ++ keys.0) (k.2 (or_first key.asks keys.1 n)) ∙ ap (λ t. other.text ++ t) (r.1 (or_second key.asks keys.1 n)),
)

keys_as_others : (n : ℕ) (days others : List SentDay) (octets : List ℕ) → AreAsOthers (keys_read n days octets) (keys_read n others octets)
keys_as_others zero days others octets = (refl, λ n. refl)
keys_as_others (suc n) days others [] = (refl, λ n. refl)
keys_as_others (suc n) days others (o ∷ os) =
    let k = key_as_other days others (o ∷ os) (token_len (o ∷ os)) (key_word (take (token_len (o ∷ os)) (o ∷ os))) in
    joined_as_others (first_key days (o ∷ os)) (first_key others (o ∷ os)) (keys_read n days (drop (first_key days (o ∷ os)).len (o ∷ os))) (keys_read n others (drop (first_key others (o ∷ os)).len (o ∷ os))) k
    (subst (λ (len : ℕ). AreAsOthers (keys_read n days (drop (first_key days (o ∷ os)).len (o ∷ os))) (keys_read n others (drop len (o ∷ os)))) k.0 (keys_as_others n days others (drop (first_key days (o ∷ os)).len (o ∷ os))))

-- what was read, or nothing
abbrev pub read_in : Option (List ℕ × Bool) → List ℕ × Bool
read_in None = ([], false)
read_in (Some read) = read

program_same : (days others : List SentDay) (returned program : List ℕ) (len : Option ℕ) (inner : List ℕ) → program_read days returned program len ≡ Some (inner, false) → program_read others returned program len ≡ Some (inner, false)
program_same days others returned program None inner e = e
program_same days others returned program (Some len) inner e =
    let front : List ℕ = returned ++ take len program in
    let keys : List ℕ × Bool = profile_keys days (drop len program) in
    let same : List ℕ × Bool = profile_keys others (drop len program) in
    let k : AreAsOthers keys same = keys_as_others (length (drop len program)) days others (drop len program) in
    let none : keys.1 ≡ false = ap (λ o. (read_in o).1) e in
    ap (λ t. Some (front ++ t, same.1)) (sym (k.1 none)) ∙ ap (λ b. Some (front ++ keys.0, b)) (sym k.0) ∙ e

program_asked : (days others : List SentDay) (returned program : List ℕ) (len : Option ℕ) (inner : List ℕ) → program_read days returned program len ≡ Some (inner, true) → (given : List ℕ) × (program_read others returned program len ≡ Some (given, true))
program_asked days others returned program None inner e = (inner, e)
program_asked days others returned program (Some len) inner e =
    let front : List ℕ = returned ++ take len program in
    let same : List ℕ × Bool = profile_keys others (drop len program) in
    let k : AreAsOthers (profile_keys days (drop len program)) same = keys_as_others (length (drop len program)) days others (drop len program) in
    (front ++ same.0, ap (λ b. Some (front ++ same.0, b)) (sym k.0 ∙ ap (λ o. (read_in o).1) e))

pub search_same : (days others : List SentDay) (rest inner : List ℕ) → search_read days rest ≡ Some (inner, false) → search_read others rest ≡ Some (inner, false)
search_same days others rest inner e = program_same days others (take (returned_len rest) rest) (drop (returned_len rest) rest) (charset_len (drop (returned_len rest) rest)) inner e

pub search_asked : (days others : List SentDay) (rest inner : List ℕ) → search_read days rest ≡ Some (inner, true) → (given : List ℕ) × (search_read others rest ≡ Some (given, true))
search_asked days others rest inner e = program_asked days others (take (returned_len rest) rest) (drop (returned_len rest) rest) (charset_len (drop (returned_len rest) rest)) inner e
