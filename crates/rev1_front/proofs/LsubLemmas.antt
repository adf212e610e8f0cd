-- What LSUB shows, answer by answer.
use Rattle.std.proofs.Common.{◌≡◌, ◌↔◌, ◌⊎◌, inl, inr, ℕ, ◌+◌, ◌-◌, ◌<◌, ◌≤◌, zero, suc, Bool, true, false, cond, List, [], ◌∷◌, ◌++◌, codes, length, take, drop, get_or, map, min, refl, sym, ap, ◌∙◌, subst, append_assoc, append-nil, arith, drop-cons, add-one, Option, Some, None, Result, Ok, Err}
use Rattle.std.specs.Prelude.{IfOk, MatchOption, OnOk}
use Rattle.std.proofs.lemmas.Bool.{cases_lt}
use Rattle.std.specs.Char.{to_ascii_uppercase}
use Rattle.std.proofs.lemmas.List.{length-append, length-take-le, take-append-drop, take_all}
use Rattle.std.proofs.Math.Seq.{get_or-append_seam, take-append_seam, take-suc}
use Rattle.imap_types.specs.Names.{inbox, is_inbox}
use Rattle.imap_answers.specs.AnswerText.{line_of_answer, text_of_answer}
use Rattle.imap_answers.specs.Strings.{crlf, name_text}
use Rattle.imap_answers.specs.Words.{attributes_text}
use Rattle.imap_answers.specs.declared.answer.Answer.{Answer}
use Rattle.imap_answers.specs.declared.answer.Answer.TheVariants as answers
use Rattle.imap_answers.specs.declared.mailbox.MailboxState.{MailboxState}
use Rattle.imap_query.specs.Patterns.{IsIn, IsNameMatch, IsPatternMatch}
use Rattle.rev1_front.specs.LsubLines.{AreLsubLines, IsLevelFor, IsLevelOf, IsListed, IsLsubLine, IsLsubText, IsMatchedLevel, IsShownBefore, IsShownOfName, is_absent, lsub_attributes}
use Rattle.rev1_front.specs.LsubSteps.{AreLevels, IsLevelStep, IsOtherText}
use Rattle.rev1_front.specs.Names.{IsOuter}
use Rattle.rev1_front.specs.Showing.{IsFrontOf}
use Rattle.rev1_front.specs.declared.session.Mode.{Mode}
use Rattle.rev1_front.proofs.ResultLemmas.{on_ok}

-- a pattern and a name, INBOX in any case
pub match_plain : (pattern name : List ℕ) (is : Bool) → is_inbox name ≡ false → (is ≡ true) ↔ IsPatternMatch pattern name → (is ≡ true) ↔ IsNameMatch pattern name
match_plain pattern name is h e =
    subst (λ (b : Bool). (is ≡ true) ↔ IsPatternMatch (cond b (map to_ascii_uppercase pattern) pattern) (cond b inbox name)) (sym h) e

pub match_inbox : (pattern name : List ℕ) (is : Bool) → is_inbox name ≡ true → (is ≡ true) ↔ IsPatternMatch (map to_ascii_uppercase pattern) inbox → (is ≡ true) ↔ IsNameMatch pattern name
match_inbox pattern name is h e =
    subst (λ (b : Bool). (is ≡ true) ↔ IsPatternMatch (cond b (map to_ascii_uppercase pattern) pattern) (cond b inbox name)) (sym h) e

-- a line of LSUB, made of a line of LIST
pub lsub_for_list : (line tail : List ℕ) → line ≡ 42 ∷ 32 ∷ 76 ∷ 73 ∷ 83 ∷ 84 ∷ tail → codes "* LSUB" ++ (drop (min (length line) 6) line ++ []) ≡ codes "* LSUB" ++ tail
lsub_for_list line tail e =
    let len : length line ≡ suc (suc (suc (suc (suc (suc (length tail)))))) = ap length e in
    let n : min (length line) 6 ≡ 6 = omega arith in
    ap (λ m. codes "* LSUB" ++ (drop m line ++ [])) n
    ∙ ap (λ (l : List ℕ). codes "* LSUB" ++ (drop 6 l ++ [])) e
    ∙ ap (λ t. codes "* LSUB" ++ t) (append-nil tail)

-- the octet after a level
pub level_octet : (name : List ℕ) (len d : ℕ) → len < length name → IsLevelOf (take len name) name → get_or name len d ≡ 47
level_octet name len d l h =
    let n : length (take len name) ≡ len = length-take-le len name (omega arith) in
    ap (λ (xs : List ℕ). get_or xs len d) h.1 ∙ ap (λ k. get_or (take len name ++ 47 ∷ h.0) k d) (sym n) ∙ get_or-append_seam (take len name) 47 h.0 d

pub level_at : (name : List ℕ) (len d : ℕ) → len < length name → get_or name len d ≡ 47 → IsLevelOf (take len name) name
level_at name len d l h =
    (drop (suc len) name, sym (take-append-drop len name) ∙ ap (λ t. take len name ++ t) (drop-cons name len d l) ∙ ap (λ o. take len name ++ o ∷ drop (suc len) name) h)

-- a level is the front of its name
level_front : (level name : List ℕ) → IsLevelOf level name → level ≡ take (length level) name
level_front level name h = sym (ap (take (length level)) h.1 ∙ take-append_seam level (47 ∷ h.0))

level_length : (level name : List ℕ) → IsLevelOf level name → length level < length name
level_length level name h =
    let len : length name ≡ length level + suc (length h.0) = ap length h.1 ∙ length-append level (47 ∷ h.0) in omega arith

-- the longest level that matches, from the end of a name on
abbrev pub AllLonger : List ℕ → List ℕ → ℕ → Type 0
AllLonger pattern name from = (len : ℕ) → from ≤ len → len < length name → IsLevelOf (take len name) name → IsNameMatch pattern (take len name) → ⊥

pub longest_found : (pattern name : List ℕ) (len : ℕ) → len < length name → AllLonger pattern name (suc len) → IsLevelOf (take len name) name → IsNameMatch pattern (take len name) → IsMatchedLevel pattern name (take len name)
longest_found pattern name len l longer above matched = record {
  above = above;
  matched = matched;
  longest = λ other h m. not_longer other h m;
}
  where
    n : length (take len name) ≡ len
    n = length-take-le len name (omega arith)

    is_front : (other : List ℕ) → IsLevelOf other name → other ≡ take (length other) name
    is_front other h = level_front other name h

    not_longer : (other : List ℕ) → IsLevelOf other name → IsNameMatch pattern other → length other ≤ length (take len name)
    not_longer other h m = elim (cases_lt len (length other)) [
      | inl k ↦ absurd (longer (length other) (omega arith) (level_length other name h)
          (subst (λ (x : List ℕ). IsLevelOf x name) (is_front other h) h) (subst (λ (x : List ℕ). IsNameMatch pattern x) (is_front other h) m))
      | inr k ↦ let same : length (take len name) ≡ len = length-take-le len name (omega arith) in omega arith
    ]

pub longer_more : (pattern name : List ℕ) (len : ℕ) → AllLonger pattern name (suc len) → (IsLevelOf (take len name) name → IsNameMatch pattern (take len name) → ⊥) → AllLonger pattern name len
longer_more pattern name len longer none other from l h m = elim (cases_lt len other) [
  | inl k ↦ longer other (omega arith) l h m
  | inr k ↦
      let e : other ≡ len = omega arith in
      none (subst (λ (x : ℕ). IsLevelOf (take x name) name) e h) (subst (λ (x : ℕ). IsNameMatch pattern (take x name)) e m)
]

pub none_found : (pattern name : List ℕ) (from : ℕ) → from ≡ 0 → AllLonger pattern name from → (level : List ℕ) → IsLevelOf level name → IsNameMatch pattern level → ⊥
none_found pattern name from e none level h m =
    none (length level) (omega arith) (level_length level name h)
    (subst (λ (x : List ℕ). IsLevelOf x name) (level_front level name h) h) (subst (λ (x : List ℕ). IsNameMatch pattern x) (level_front level name h) m)

-- a name has one level
pub one_level : (pattern name a b : List ℕ) → IsLevelFor pattern name a → IsLevelFor pattern name b → a ≡ b
one_level pattern name a b h k =
    let ab : length a ≤ length b = k.2.longest a h.2.above h.2.matched in
    let ba : length b ≤ length a = h.2.longest b k.2.above k.2.matched in
    let n : length a ≡ length b = omega arith in
    level_front a name h.2.above ∙ ap (λ m. take m name) n ∙ sym (level_front b name k.2.above)

-- elements of longer lists
pub in_front : {X : Type 0} (x : X) (xs ys : List X) → IsIn x xs → IsIn x (xs ++ ys)
in_front x [] ys h = absurd h
in_front x (y ∷ xs) ys h = elim h [ inl e ↦ inl e | inr t ↦ inr (in_front x xs ys t) ]

pub in_last : {X : Type 0} (x : X) (xs : List X) → IsIn x (xs ++ x ∷ [])
in_last x [] = inl refl
in_last x (y ∷ xs) = inr (in_last x xs)

pub in_cases : {X : Type 0} (x y : X) (xs : List X) → IsIn x (xs ++ y ∷ []) → IsIn x xs ⊎ (y ≡ x)
in_cases x y [] h = elim h [ inl e ↦ inr e | inr t ↦ absurd t ]
in_cases x y (z ∷ xs) h = elim h [ inl e ↦ inl (inl e) | inr t ↦ elim (in_cases x y xs t) [ inl u ↦ inl (inr u) | inr e ↦ inr e ] ]

-- an element at a place
pub in_at : {X : Type 0} (xs : List X) (i : ℕ) (x : X) → i < length xs → x ≡ get_or xs i x → IsIn x xs
in_at [] i x l e = absurd (omega arith)
in_at (y ∷ xs) zero x l e = inl (sym e)
in_at (y ∷ xs) (suc i) x l e = inr (in_at xs i x (omega arith) e)

-- a list up to one more element
pub taken_more : {X : Type 0} (xs : List X) (i : ℕ) (x : X) → i < length xs → x ≡ get_or xs i x → take (i + 1) xs ≡ take i xs ++ x ∷ []
taken_more xs i x l e = ap (λ n. take n xs) (add-one i) ∙ take-suc xs i x l ∙ ap (λ z. take i xs ++ z ∷ []) (sym e)

-- one more element that is another
pub not_more : {X : Type 0} (xs : List X) (i : ℕ) (x y : X) → i < length xs → y ≡ get_or xs i y → (y ≡ x → ⊥) → (IsIn x (take i xs) → ⊥) → IsIn x (take (i + 1) xs) → ⊥
not_more xs i x y l e other none h =
    let more : take (i + 1) xs ≡ take i xs ++ y ∷ [] = ap (λ n. take n xs) (add-one i) ∙ take-suc xs i y l ∙ ap (λ z. take i xs ++ z ∷ []) (sym e) in
    elim (in_cases x y (take i xs) (subst (λ ys. IsIn x ys) more h)) [ inl k ↦ none k | inr k ↦ other k ]

pub not_listed_more : (level : List ℕ) (given : List Answer) (i : ℕ) (answer : Answer) → i < length given → answer ≡ get_or given i answer
    → ((state : MailboxState) × (subscribed : Bool) × (answer ≡ answers.List level state subscribed) → ⊥) → (IsListed level (take i given) → ⊥) → IsListed level (take (i + 1) given) → ⊥
not_listed_more level given i answer l e other none h =
    not_more given i (answers.List level h.0 h.1) answer l e (λ k. other (h.0, h.1, k)) (λ k. none (h.0, h.1, k)) h.2

module _ (pattern : List ℕ) (listed : List Answer) where
  shown_longer : (level : List ℕ) (earlier more : List Answer) → IsShownBefore pattern level earlier → IsShownBefore pattern level (earlier ++ more)
  shown_longer level earlier more h =
      let l = h.1 in (h.0, (l.0, l.1, in_front (answers.List h.0 l.0 l.1) earlier more l.2), h.2)

  -- no level joins the levels
  pub levels_same : (earlier : List Answer) (answer : Answer) (levels : List (List ℕ)) → AreLevels pattern listed earlier levels
      → ((name level : List ℕ) (state : MailboxState) (subscribed : Bool) → answer ≡ answers.List name state subscribed → IsLevelFor pattern name level → (IsListed level listed → ⊥) → IsIn level levels)
      → AreLevels pattern listed (earlier ++ answer ∷ []) levels
  levels_same earlier answer levels h next = record {
    shown = λ level i. shown_longer level earlier (answer ∷ []) (h.shown level i);
    all = λ level s n.
        let l = s.1 in
        elim (in_cases (answers.List s.0 l.0 l.1) answer earlier l.2) [
          | inl i ↦ h.all level (s.0, (l.0, l.1, i), s.2) n
          | inr e ↦ next s.0 level l.0 l.1 e s.2 n
        ];
  }

  -- a level joins the levels
  pub levels_added : (earlier : List Answer) (name level : List ℕ) (state : MailboxState) (subscribed : Bool) (levels : List (List ℕ)) → AreLevels pattern listed earlier levels → IsLevelFor pattern name level
      → AreLevels pattern listed (earlier ++ answers.List name state subscribed ∷ []) (levels ++ level ∷ [])
  levels_added earlier name level state subscribed levels h f = record {
    shown = λ one i.
        elim (in_cases one level levels i) [
          | inl j ↦ shown_longer one earlier (answers.List name state subscribed ∷ []) (h.shown one j)
          | inr e ↦ (name, (state, subscribed, in_last (answers.List name state subscribed) earlier), subst (λ (x : List ℕ). IsLevelFor pattern name x) e f)
        ];
    all = λ one s n.
        let l = s.1 in
        elim (in_cases (answers.List s.0 l.0 l.1) (answers.List name state subscribed) earlier l.2) [
          | inl i ↦ in_front one levels (level ∷ []) (h.all one (s.0, (l.0, l.1, i), s.2) n)
          | inr e ↦
              let same_name : name ≡ s.0 = cc in
              let same : level ≡ one = one_level pattern name level one f (subst (λ (x : List ℕ). IsLevelFor pattern x one) (sym same_name) s.2) in
              subst (λ (x : List ℕ). IsIn x (levels ++ level ∷ [])) same (in_last level levels)
        ];
  }

  module _ (mode : Mode) (earlier : List Answer) (name : List ℕ) (state : MailboxState) (levels : List (List ℕ)) (h : AreLevels pattern listed earlier levels) where
    -- the name itself
    pub own_levels : IsNameMatch pattern name → (subscribed : Bool) → AreLevels pattern listed (earlier ++ answers.List name state subscribed ∷ []) levels
    own_levels m subscribed = levels_same earlier (answers.List name state subscribed) levels h (λ n level s b e f x.
        let same : name ≡ n = cc in absurd (f.1 (subst (λ (y : List ℕ). IsNameMatch pattern y) same m)))

    -- nothing
    pub no_levels : ((level : List ℕ) → IsLevelFor pattern name level → ⊥) → (subscribed : Bool) → AreLevels pattern listed (earlier ++ answers.List name state subscribed ∷ []) levels
    no_levels none subscribed = levels_same earlier (answers.List name state subscribed) levels h (λ n level s b e f x.
        let same : name ≡ n = cc in absurd (none level (subst (λ (y : List ℕ). IsLevelFor pattern y level) (sym same) f)))

    pub nothing_shown : (IsNameMatch pattern name → ⊥) → ((level : List ℕ) → IsLevelFor pattern name level → ⊥) → IsShownOfName mode pattern listed earlier name state []
    nothing_shown n none = inr (inr (n, λ level s. none level s.0, refl))

    module _ (level : List ℕ) (f : IsLevelFor pattern name level) where
      -- a level that was shown, or that LIST shows
      pub old_levels : IsListed level listed ⊎ IsIn level levels → (subscribed : Bool) → AreLevels pattern listed (earlier ++ answers.List name state subscribed ∷ []) levels
      old_levels old subscribed = levels_same earlier (answers.List name state subscribed) levels h (λ n one s b e g x.
          let same_name : name ≡ n = cc in
          let same : level ≡ one = one_level pattern name level one f (subst (λ (y : List ℕ). IsLevelFor pattern y one) (sym same_name) g) in
          elim old [
            | inl l ↦ absurd (x (subst (λ (y : List ℕ). IsListed y listed) same l))
            | inr i ↦ subst (λ (y : List ℕ). IsIn y levels) same i
          ])

      pub old_shown : IsListed level listed ⊎ IsIn level levels → IsShownOfName mode pattern listed earlier name state []
      old_shown old = inr (inr (
        f.1,
        λ one s.
            let same : level ≡ one = one_level pattern name level one f s.0 in
            elim old [
              | inl l ↦ s.1 (subst (λ (y : List ℕ). IsListed y listed) same l)
              | inr i ↦ s.2 (subst (λ (y : List ℕ). IsShownBefore pattern y earlier) same (h.shown level i))
            ],
        refl,
      ))

      pub new_shown : (line : List ℕ) → (IsListed level listed ⊎ IsIn level levels → ⊥) → IsLsubLine mode level true line → IsShownOfName mode pattern listed earlier name state line
      new_shown line new l = inr (inl (level, (f, λ i. new (inl i), λ s. new (inr (h.all level s (λ i. new (inl i))))), l))

-- an answer that lists no name
pub other_shown : (mode : Mode) (pattern : List ℕ) (listed earlier : List Answer) (answer : Answer) (text : List ℕ) → ((name : List ℕ) (state : MailboxState) (subscribed : Bool) → answer ≡ answers.List name state subscribed → ⊥)
    → IsOtherText answer text → IsLsubText mode pattern listed earlier answer text
other_shown mode pattern listed earlier (answers.Greeting login) text n h = h
other_shown mode pattern listed earlier (answers.Continue awaited) text n h = h
other_shown mode pattern listed earlier answers.Capability text n h = h
other_shown mode pattern listed earlier (answers.Enabled extensions) text n h = h
other_shown mode pattern listed earlier answers.Namespace text n h = h
other_shown mode pattern listed earlier (answers.Flags flags) text n h = h
other_shown mode pattern listed earlier (answers.Exists count) text n h = h
other_shown mode pattern listed earlier (answers.Expunge number) text n h = h
other_shown mode pattern listed earlier (answers.List name state subscribed) text n h = absurd (n name state subscribed refl)
other_shown mode pattern listed earlier (answers.UntaggedOk notice) text n h = h
other_shown mode pattern listed earlier (answers.Status name items) text n h = h
other_shown mode pattern listed earlier (answers.Search tag by_uid results) text n h = h
other_shown mode pattern listed earlier (answers.Fetch number items) text n h = h
other_shown mode pattern listed earlier (answers.Bye reason) text n h = h
other_shown mode pattern listed earlier answers.NoTag text n h = h
other_shown mode pattern listed earlier answers.LiteralTooLong text n h = h
other_shown mode pattern listed earlier (answers.Completed tag code command) text n h = h
other_shown mode pattern listed earlier (answers.Refused tag reason) text n h = h

-- one answer after others
pub lines_append : (mode : Mode) (pattern : List ℕ) (listed earlier given : List Answer) (answer : Answer) (before text : List ℕ) → AreLsubLines mode pattern listed earlier given before
    → IsLsubText mode pattern listed (earlier ++ given) answer text → AreLsubLines mode pattern listed earlier (given ++ answer ∷ []) (before ++ text)
lines_append mode pattern listed earlier [] answer before text e s =
    (text, [], subst (λ (es : List Answer). IsLsubText mode pattern listed es answer text) (append-nil earlier) s, refl, ap (λ xs. xs ++ text) e ∙ sym (append-nil text))
lines_append mode pattern listed earlier (first ∷ given) answer before text e s = (
  e.0,
  e.1 ++ text,
  e.2,
  lines_append mode pattern listed (earlier ++ first ∷ []) given answer e.1 text e.3 (subst (λ (es : List Answer). IsLsubText mode pattern listed es answer text) (sym (append_assoc earlier (first ∷ []) given)) s),
  ap (λ xs. xs ++ text) e.4 ∙ append_assoc e.0 e.1 text,
)

-- a call whose result tells whether a pattern matches
pub match_plain_by : {E : Type 0} (r : Result Bool E) (pattern name octets : List ℕ) → octets ≡ name → is_inbox name ≡ false
    → IfOk r (λ is. (is ≡ true) ↔ IsPatternMatch pattern octets) → IfOk r (λ is. (is ≡ true) ↔ IsNameMatch pattern name)
match_plain_by (Err e) pattern name octets same h f = f
match_plain_by (Ok is) pattern name octets same h f = match_plain pattern name is h (subst (λ (o : List ℕ). (is ≡ true) ↔ IsPatternMatch pattern o) same f)

pub match_inbox_by : {E : Type 0} (r : Result Bool E) (pattern name capitals : List ℕ) → capitals ≡ map to_ascii_uppercase pattern → is_inbox name ≡ true
    → IfOk r (λ is. (is ≡ true) ↔ IsPatternMatch capitals inbox) → IfOk r (λ is. (is ≡ true) ↔ IsNameMatch pattern name)
match_inbox_by (Err e) pattern name capitals same h f = f
match_inbox_by (Ok is) pattern name capitals same h f = match_inbox pattern name is h (subst (λ (o : List ℕ). (is ≡ true) ↔ IsPatternMatch o inbox) same f)

-- a line of LSUB is printed
pub lsub_printed : {T E : Type 0} (r : Result T E) (mode : Mode) (name outer line rest old new : List ℕ) (absent : Bool) → IsOuter mode name outer
    → line ≡ codes "* LIST " ++ lsub_attributes absent ++ codes " \"/\" " ++ name_text outer ++ crlf → rest ≡ drop (min (length line) 6) line
    → OnOk r (new ≡ old ++ (codes "* LSUB" ++ (rest ++ []))) → OnOk r ((given : List ℕ) × IsLsubLine mode name absent given × (new ≡ old ++ given))
lsub_printed (Err e) mode name outer line rest old new absent o l s h = h
lsub_printed (Ok x) mode name outer line rest old new absent o l s h =
    let tail : List ℕ = codes " " ++ lsub_attributes absent ++ codes " \"/\" " ++ name_text outer ++ crlf in
    (codes "* LSUB" ++ tail, (outer, o, refl), h ∙ ap (λ t. old ++ (codes "* LSUB" ++ (t ++ []))) s ∙ ap (λ t. old ++ t) (lsub_for_list line tail l))

module _ {T E : Type 0} (r : Result T E) (mode : Mode) (pattern : List ℕ) (listed : List Answer) (name : List ℕ) (state : MailboxState) (old new : List ℕ) (levels : List (List ℕ)) where
  -- what was shown of a name, and the levels after it
  abbrev pub ShowsName : List (List ℕ) → Type 0
  ShowsName after =
      (earlier : List Answer) → AreLevels pattern listed earlier levels → (given : List ℕ)
      × IsShownOfName mode pattern listed earlier name state given
      × (new ≡ old ++ given)
      × ((subscribed : Bool) → AreLevels pattern listed (earlier ++ answers.List name state subscribed ∷ []) after)

  -- the name itself is shown
  pub own_by : (absent : Bool) → absent ≡ is_absent state → IsNameMatch pattern name → OnOk r ((line : List ℕ) × IsLsubLine mode name absent line × (new ≡ old ++ line)) → OnOk r (ShowsName levels)
  own_by absent e m h = on_ok r (λ f earlier a. (f.0, inl (m, subst (λ (b : Bool). IsLsubLine mode name b f.0) e f.1), f.2, own_levels pattern listed mode earlier name state levels a m)) h

  -- a level is shown, or was
  pub level_by : (level : List ℕ) (after : List (List ℕ)) → IsLevelFor pattern name level → OnOk r (IsLevelStep mode level listed levels after old new) → OnOk r (ShowsName after)
  level_by level after f h = on_ok r (λ step earlier a. elim step [
    | inl k ↦ (
      [],
      old_shown pattern listed mode earlier name state levels a level f k.0,
      k.2 ∙ sym (append-nil old),
      λ s. subst (λ (ls : List (List ℕ)). AreLevels pattern listed (earlier ++ answers.List name state s ∷ []) ls) (sym k.1) (old_levels pattern listed mode earlier name state levels a level f k.0 s),
    )
    | inr k ↦ (
      k.2.0,
      new_shown pattern listed mode earlier name state levels a level f k.2.0 k.0 k.2.1,
      k.2.2,
      λ s. subst (λ (ls : List (List ℕ)). AreLevels pattern listed (earlier ++ answers.List name state s ∷ []) ls) (sym k.1) (levels_added pattern listed earlier name level state s levels a f),
    )
  ]) h

-- nothing is shown of a name
pub nothing_by : (mode : Mode) (pattern : List ℕ) (listed : List Answer) (name : List ℕ) (state : MailboxState) (text : List ℕ) (levels : List (List ℕ))
    → (IsNameMatch pattern name → ⊥) × ((level : List ℕ) → IsLevelFor pattern name level → ⊥)
    → (earlier : List Answer) → AreLevels pattern listed earlier levels → (given : List ℕ)
    × IsShownOfName mode pattern listed earlier name state given
    × (text ≡ text ++ given)
    × ((subscribed : Bool) → AreLevels pattern listed (earlier ++ answers.List name state subscribed ∷ []) levels)
nothing_by mode pattern listed name state text levels n earlier a =
    ([], nothing_shown pattern listed mode earlier name state levels a n.0 n.1, sym (append-nil text), no_levels pattern listed mode earlier name state levels a n.1)

module _ {T E : Type 0} (r : Result T E) (mode : Mode) (pattern : List ℕ) (listed : List Answer) (answer : Answer) (old new : List ℕ) (levels after : List (List ℕ)) where
  -- what was shown of an answer, and the levels after it
  abbrev pub ShowsAnswer : Type 0
  ShowsAnswer =
      (earlier : List Answer) → AreLevels pattern listed earlier levels → (given : List ℕ)
      × IsLsubText mode pattern listed earlier answer given
      × (new ≡ old ++ given)
      × AreLevels pattern listed (earlier ++ answer ∷ []) after

  pub name_by : (name : List ℕ) (state : MailboxState) (subscribed : Bool) → answer ≡ answers.List name state subscribed → OnOk r (ShowsName r mode pattern listed name state old new levels after) → OnOk r ShowsAnswer
  name_by name state subscribed e h = on_ok r (λ f earlier a.
      let g = f earlier a in (
        g.0,
        subst (λ (x : Answer). IsLsubText mode pattern listed earlier x g.0) (sym e) g.1,
        g.2,
        subst (λ (x : Answer). AreLevels pattern listed (earlier ++ x ∷ []) after) (sym e) (g.3 subscribed),
      )) h

  pub other_by : ((name : List ℕ) (state : MailboxState) (subscribed : Bool) → answer ≡ answers.List name state subscribed → ⊥) → levels ≡ after
      → OnOk r ((given : List ℕ) × IsOtherText answer given × (new ≡ old ++ given)) → OnOk r ShowsAnswer
  other_by none e h = on_ok r (λ f earlier a. (
    f.0,
    other_shown mode pattern listed earlier answer f.0 none f.1,
    f.2,
    subst (λ (ls : List (List ℕ)). AreLevels pattern listed (earlier ++ answer ∷ []) ls) e (levels_same pattern listed earlier answer levels a (λ n l s b k. absurd (none n s b k))),
  )) h

-- no level is longer than a name
pub none_longer : (pattern name : List ℕ) (from : ℕ) → length name ≤ from → AllLonger pattern name from
none_longer pattern name from h len l m = absurd (omega arith)

-- the answers shown so far and one more
pub lines_more : (mode : Mode) (pattern : List ℕ) (listed given : List Answer) (i : ℕ) (answer : Answer) (before text : List ℕ) → i < length given → answer ≡ get_or given i answer
    → AreLsubLines mode pattern listed [] (take i given) before → IsLsubText mode pattern listed (take i given) answer text → AreLsubLines mode pattern listed [] (take (i + 1) given) (before ++ text)
lines_more mode pattern listed given i answer before text l e s t =
    subst (λ (these : List Answer). AreLsubLines mode pattern listed [] these (before ++ text)) (sym (taken_more given i answer l e)) (lines_append mode pattern listed [] (take i given) answer before text s t)

-- the answers up to a place were shown
module _ (mode : Mode) (pattern : List ℕ) (listed : List Answer) (initial : List ℕ) where
  abbrev pub LinesUpTo : ℕ → List ℕ → List (List ℕ) → Type 0
  LinesUpTo i text levels = (given : List ℕ) × AreLsubLines mode pattern listed [] (take i listed) given × (text ≡ initial ++ given) × AreLevels pattern listed (take i listed) levels

  pub lines_begun : (levels : List (List ℕ)) → levels ≡ [] → LinesUpTo 0 initial levels
  lines_begun levels e =
      ([], refl, sym (append-nil initial), subst (λ (ls : List (List ℕ)). AreLevels pattern listed [] ls) (sym e) (record { shown = λ level i. absurd i; all = λ level s n. let l = s.1 in absurd l.2 }))

  pub lines_next : {T E : Type 0} (r : Result T E) (i : ℕ) (answer : Answer) (text new : List ℕ) (levels after : List (List ℕ)) → i < length listed → answer ≡ get_or listed i answer → LinesUpTo i text levels
      → ShowsAnswer r mode pattern listed answer text new levels after → LinesUpTo (i + 1) new after
  lines_next r i answer text new levels after l e inv shows =
      let s = shows (take i listed) inv.3 in (
        inv.0 ++ s.0,
        lines_more mode pattern listed listed i answer inv.0 s.0 l e inv.1 s.1,
        s.2 ∙ ap (λ t. t ++ s.0) inv.2 ∙ append_assoc initial inv.0 s.0,
        subst (λ (these : List Answer). AreLevels pattern listed these after) (sym (taken_more listed i answer l e)) s.3,
      )

  pub lines_all : (i : ℕ) (text : List ℕ) (levels : List (List ℕ)) → length listed ≤ i → LinesUpTo i text levels → (given : List ℕ) × AreLsubLines mode pattern listed [] listed given × (text ≡ initial ++ given)
  lines_all i text levels l inv = (inv.0, subst (λ (these : List Answer). AreLsubLines mode pattern listed [] these inv.0) (take_all i listed l) inv.1, inv.2)

  pub lines_part : (i : ℕ) (text new : List ℕ) (levels : List (List ℕ)) → new ≡ text → LinesUpTo i text levels
      → (front : List Answer) × (given : List ℕ) × IsFrontOf front listed × AreLsubLines mode pattern listed [] front given × (new ≡ initial ++ given)
  lines_part i text new levels e inv = (take i listed, inv.0, (drop i listed, sym (take-append-drop i listed)), inv.1, e ∙ inv.2)

-- the level at a place from the end, or none there
module _ (pattern name : List ℕ) (past : ℕ) (l : past < length name) (longer : AllLonger pattern name (length name - past)) (r : Option (List ℕ))
    (h : MatchOption r (IsLevelOf (take (length name - 1 - past) name) name → IsNameMatch pattern (take (length name - 1 - past) name) → ⊥) (λ level. (level ≡ take (length name - 1 - past) name) × IsLevelOf level name × IsNameMatch pattern level)) where
  from_next : AllLonger pattern name (suc (length name - 1 - past))
  from_next =
      let e : length name - past ≡ suc (length name - 1 - past) = omega arith in
      subst (λ (n : ℕ). AllLonger pattern name n) e longer

  pub level_found : (level : List ℕ) → r ≡ Some level → IsMatchedLevel pattern name level
  level_found level is =
      let f = subst (λ (o : Option (List ℕ)). MatchOption o (IsLevelOf (take (length name - 1 - past) name) name → IsNameMatch pattern (take (length name - 1 - past) name) → ⊥) (λ x. (x ≡ take (length name - 1 - past) name) × IsLevelOf x name × IsNameMatch pattern x)) is h in
      let m : length name - 1 - past < length name = omega arith in
      subst (λ (x : List ℕ). IsMatchedLevel pattern name x) (sym f.0)
      (longest_found pattern name (length name - 1 - past) m from_next (subst (λ (x : List ℕ). IsLevelOf x name) f.0 f.1) (subst (λ (x : List ℕ). IsNameMatch pattern x) f.0 f.2))

  pub level_missed : r ≡ None → AllLonger pattern name (length name - (past + 1))
  level_missed is =
      let none : IsLevelOf (take (length name - 1 - past) name) name → IsNameMatch pattern (take (length name - 1 - past) name) → ⊥ =
      subst (λ (o : Option (List ℕ)). MatchOption o (IsLevelOf (take (length name - 1 - past) name) name → IsNameMatch pattern (take (length name - 1 - past) name) → ⊥) (λ x. (x ≡ take (length name - 1 - past) name) × IsLevelOf x name × IsNameMatch pattern x)) is h in
      let g : length name - (past + 1) ≡ length name - 1 - past = omega arith in
      subst (λ (n : ℕ). AllLonger pattern name n) (sym g) (longer_more pattern name (length name - 1 - past) from_next none)

-- a line of LIST
pub list_printed : (outer line old : List ℕ) (state : MailboxState) (absent : Bool) → attributes_text state false ≡ lsub_attributes absent → old ≡ [] → line ≡ old ++ text_of_answer (answers.List outer state false)
    → line ≡ codes "* LIST " ++ lsub_attributes absent ++ codes " \"/\" " ++ name_text outer ++ crlf
unfolding line_of_answer
list_printed outer line old state absent a e h = h ∙ ap (λ o. o ++ text_of_answer (answers.List outer state false)) e ∙ ap (λ t. codes "* LIST " ++ t ++ codes " \"/\" " ++ name_text outer ++ crlf) a
