-- The keys of SEARCH, one after another.
use Rattle.std.proofs.Common.{◌≡◌, ℕ, zero, suc, ◌+◌, ◌-◌, ◌<◌, ◌≤◌, Bool, true, false, ◌||◌, List, [], ◌∷◌, ◌++◌, length, take, drop, Option, Some, None, refl, sym, ap, ◌∙◌, append_assoc, append-nil, arith}
use Rattle.std.proofs.lemmas.List.{drop-drop}
use Rattle.imap_types.specs.declared.day.Day.{Day}
use Rattle.imap_syntax.specs.declared.search.DateRelation.{DateRelation}
use Rattle.rev1_front.specs.SearchForms.{sent_uids}
use Rattle.rev1_front.specs.SearchReading.{ReadKey, day_after_space, entry_len, first_key, keys_read, modseq_key, profile_keys, same_key, sent_key_read, sent_text, text_len, texts_len, uids_text}
use Rattle.rev1_front.specs.declared.search_days.SentDay.{SentDay}

-- keys and those after them
abbrev pub joined_keys : List ℕ → Bool → List ℕ × Bool → List ℕ × Bool
joined_keys text asks keys = (text ++ keys.0, asks || keys.1)

pub or_false : (b : Bool) → (b || false) ≡ b
or_false true = refl
or_false false = refl

pub or_assoc : (a b c : Bool) → ((a || b) || c) ≡ (a || (b || c))
or_assoc true b c = refl
or_assoc false b c = refl

pub no_keys : (text : List ℕ) (asks : Bool) → joined_keys text asks ([], false) ≡ (text, asks)
no_keys text asks = λ k. (append-nil text k, or_false asks k)

-- no octets have no keys
pub keys_nil : (n : ℕ) (days : List SentDay) → keys_read n days [] ≡ ([], false)
keys_nil zero days = refl
keys_nil (suc n) days = refl

pub keys_empty : (n : ℕ) (days : List SentDay) (rest text : List ℕ) (asks : Bool) → rest ≡ [] → joined_keys text asks (keys_read n days rest) ≡ (text, asks)
keys_empty n days rest text asks e = ap (λ r. joined_keys text asks (keys_read n days r)) e ∙ ap (joined_keys text asks) (keys_nil n days) ∙ no_keys text asks

-- one more key
keys_cons : (n : ℕ) (days : List SentDay) (o : ℕ) (os text : List ℕ) (asks : Bool) → joined_keys text asks (keys_read (suc n) days (o ∷ os))
    ≡ joined_keys (text ++ (first_key days (o ∷ os)).text) (asks || (first_key days (o ∷ os)).asks) (keys_read n days (drop (first_key days (o ∷ os)).len (o ∷ os)))
keys_cons n days o os text asks =
    let k = first_key days (o ∷ os) in
    let r = keys_read n days (drop (first_key days (o ∷ os)).len (o ∷ os)) in
    λ i. (sym (append_assoc text (first_key days (o ∷ os)).text (keys_read n days (drop (first_key days (o ∷ os)).len (o ∷ os))).0) i, sym (or_assoc asks (first_key days (o ∷ os)).asks (keys_read n days (drop (first_key days (o ∷ os)).len (o ∷ os))).1) i)

pub key_added : (left n : ℕ) (days : List SentDay) (rest text : List ℕ) (asks : Bool) → left ≡ suc n → (rest ≡ [] → ⊥) → joined_keys text asks (keys_read left days rest)
    ≡ joined_keys (text ++ (first_key days rest).text) (asks || (first_key days rest).asks) (keys_read n days (drop (first_key days rest).len rest))
key_added left n days [] text asks e none = absurd (none refl)
key_added left n days (o ∷ os) text asks e none = ap (λ m. joined_keys text asks (keys_read m days (o ∷ os))) e ∙ keys_cons n days o os text asks

-- one more text
pub text_added : (left n at : ℕ) (octets : List ℕ) → left ≡ suc n → at + texts_len left (drop at octets) ≡ (at + text_len (drop at octets)) + texts_len n (drop (at + text_len (drop at octets)) octets)
text_added left n at octets e =
    ap (λ m. at + texts_len m (drop at octets)) e
    ∙ ap (λ d. at + (text_len (drop at octets) + texts_len n d)) (drop-drop (text_len (drop at octets)) at octets)
    ∙ sum at (text_len (drop at octets)) (texts_len n (drop (at + text_len (drop at octets)) octets))
  where
    sum : (a b c : ℕ) → a + (b + c) ≡ (a + b) + c
    sum a b c = omega arith

-- the keys of octets, key by key
module _ (octets : List ℕ) (days : List SentDay) where
  pub keys_begun : (text : List ℕ) → text ≡ [] → joined_keys text false (keys_read (length octets - 0) days octets) ≡ profile_keys days octets
  keys_begun text e =
      let n : length octets - 0 ≡ length octets = omega arith in
      ap (λ t. joined_keys t false (keys_read (length octets - 0) days octets)) e ∙ ap (λ k. joined_keys [] false (keys_read k days octets)) n

  pub keys_next : (rest text after : List ℕ) (asks asks_after : Bool) (turn len : ℕ) (total : List ℕ × Bool) → turn < length octets → (rest ≡ [] → ⊥) → len ≡ (first_key days rest).len → after ≡ text ++ (first_key days rest).text
      → asks_after ≡ (asks || (first_key days rest).asks) → joined_keys text asks (keys_read (length octets - turn) days rest) ≡ total → joined_keys after asks_after (keys_read (length octets - (turn + 1)) days (drop len rest)) ≡ total
  keys_next rest text after asks asks_after turn len total l some n t a inv =
      let left : length octets - turn ≡ suc (length octets - (turn + 1)) = omega arith in
      ap (λ k. joined_keys after asks_after (keys_read (length octets - (turn + 1)) days (drop k rest))) n
      ∙ ap (λ x. joined_keys x asks_after (keys_read (length octets - (turn + 1)) days (drop (first_key days rest).len rest))) t
      ∙ ap (λ b. joined_keys (text ++ (first_key days rest).text) b (keys_read (length octets - (turn + 1)) days (drop (first_key days rest).len rest))) a
      ∙ sym (key_added (length octets - turn) (length octets - (turn + 1)) days rest text asks left some) ∙ inv

  pub keys_done : (rest text : List ℕ) (asks : Bool) (turn : ℕ) (total : List ℕ × Bool) → length octets ≤ turn → joined_keys text asks (keys_read (length octets - turn) days rest) ≡ total → (text, asks) ≡ total
  keys_done rest text asks turn total l inv =
      let z : length octets - turn ≡ 0 = omega arith in
      sym (no_keys text asks) ∙ sym (ap (λ n. joined_keys text asks (keys_read n days rest)) z) ∙ inv

  pub keys_ended : (rest text : List ℕ) (asks : Bool) (turn : ℕ) (total : List ℕ × Bool) → rest ≡ [] → joined_keys text asks (keys_read (length octets - turn) days rest) ≡ total → (text, asks) ≡ total
  keys_ended rest text asks turn total e inv = sym (keys_empty (length octets - turn) days rest text asks e) ∙ inv

-- the texts after a key, text by text
pub texts_next : (octets : List ℕ) (count turn at next total : ℕ) → turn < count → next ≡ at + text_len (drop at octets) → at + texts_len (count - turn) (drop at octets) ≡ total → next + texts_len (count - (turn + 1)) (drop next octets) ≡ total
texts_next octets count turn at next total l e inv =
    let left : count - turn ≡ suc (count - (turn + 1)) = omega arith in
    ap (λ n. n + texts_len (count - (turn + 1)) (drop n octets)) e ∙ sym (text_added (count - turn) (count - (turn + 1)) at octets left) ∙ inv

-- MODSEQ without an entry
pub modseq_pushed : (octets : List ℕ) (len start end : ℕ) (old mid new : List ℕ) → start ≡ len + entry_len (drop len octets) → end ≡ start + text_len (drop start octets) → mid ≡ old ++ take len octets → new ≡ mid ++ take (end - start) (drop start octets)
    → (end ≡ (modseq_key len octets).len) × (new ≡ old ++ (modseq_key len octets).text)
modseq_pushed octets len start end old mid new s e m n =
    let size : end - start ≡ text_len (drop start octets) = omega arith in (
      e ∙ ap (λ k. k + text_len (drop k octets)) s,
      n ∙ ap (λ k. mid ++ take k (drop start octets)) size ∙ ap (λ x. x ++ take (text_len (drop start octets)) (drop start octets)) m ∙ append_assoc old (take len octets) (take (text_len (drop start octets)) (drop start octets))
          ∙ ap (λ k. old ++ (take len octets ++ take (text_len (drop k octets)) (drop k octets))) s,
    )

or_true : (b : Bool) → (b || true) ≡ true
or_true true = refl
or_true false = refl

-- a key about days, with its date or without one
module _ (order : DateRelation) (days : List SentDay) (octets : List ℕ) (len end : ℕ) (e : end ≡ len + text_len (drop len octets)) where
  sent_is : (day : Option Day) → day ≡ day_after_space (take (end - len) (drop len octets)) → sent_key_read order days len octets ≡ sent_text order days end octets day
  sent_is day d =
      let size : end - len ≡ text_len (drop len octets) = omega arith in
      ap (λ o. sent_text order days (len + text_len (drop len octets)) octets o) (sym (d ∙ ap (λ k. day_after_space (take k (drop len octets))) size)) ∙ ap (λ k. sent_text order days k octets day) (sym e)

  pub sent_none : (old new : List ℕ) (asks : Bool) → None ≡ day_after_space (take (end - len) (drop len octets)) → new ≡ old ++ take end octets
      → (end ≡ (sent_key_read order days len octets).len) × (new ≡ old ++ (sent_key_read order days len octets).text) × (asks ≡ (asks || (sent_key_read order days len octets).asks))
  sent_none old new asks d n =
      let is : sent_key_read order days len octets ≡ same_key end octets = sent_is None d in (
        ap (λ (k : ReadKey). k.len) (sym is),
        n ∙ ap (λ (k : ReadKey). old ++ k.text) (sym is),
        sym (or_false asks) ∙ ap (λ (k : ReadKey). asks || k.asks) (sym is),
      )

  pub sent_some : (old new : List ℕ) (asks : Bool) (day : Day) → Some day ≡ day_after_space (take (end - len) (drop len octets)) → new ≡ old ++ uids_text (sent_uids order day days)
      → (end ≡ (sent_key_read order days len octets).len) × (new ≡ old ++ (sent_key_read order days len octets).text) × (true ≡ (asks || (sent_key_read order days len octets).asks))
  sent_some old new asks day d n =
      let is : sent_key_read order days len octets ≡ record { len = end; text = uids_text (sent_uids order day days); asks = true } = sent_is (Some day) d in (
        ap (λ (k : ReadKey). k.len) (sym is),
        n ∙ ap (λ (k : ReadKey). old ++ k.text) (sym is),
        sym (or_true asks) ∙ ap (λ (k : ReadKey). asks || k.asks) (sym is),
      )
