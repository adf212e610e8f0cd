-- A word is found in any ASCII case.
use Rattle.std.proofs.Common.{eqb, sym, false, None, subst, ◌++◌, ◌≡◌, ℕ, true, cond, List, [], ◌∷◌, Some, inl, inr, ap, ◌∙◌, refl, arith}
use Rattle.std.proofs.lemmas.Bool.{and_parts, and_from, cases_Bool, eqb-true}
use Rattle.std.proofs.lemmas.Bool.Decides.{nat_tests}
use Rattle.std.proofs.lemmas.Slice.Eq.{bytes_eq-Decides}
use Rattle.std.specs.Char.{to_ascii_lowercase}
use Rattle.std.specs.List.{list_all}
use Rattle.std.specs.Str.{bytes_eq}
use Rattle.imap_types.specs.Keywords.{to_lower_case, is_atom_octet}
use Rattle.imap_syntax.specs.Languages.{word}
use Rattle.imap_syntax.specs.Words.{command_word, command_words, status_word, status_items}
use Rattle.imap_grammar.specs.Reading.{after_word, is_nil, named, named_at, span, ◌>>=◌}
use Rattle.imap_syntax.specs.declared.word.CommandWord.{CommandWord}
use Rattle.imap_syntax.specs.declared.word.CommandWord.TheVariants.{Capability, Noop, Logout, Login, Enable, Select, Examine, Create, Delete, Subscribe, Unsubscribe, ListNames, Namespace, Status, Append, Idle, Close, Unselect, Expunge, Search, Fetch, Store, Copy, Move, Uid, Rename, StartTls, Authenticate}
use Rattle.imap_syntax.specs.Commands.{status_item}
use Rattle.imap_syntax.specs.Faults.{begins_with_class}
use Rattle.imap_syntax.specs.Strings.{begins_with, is_in}
use Rattle.imap_syntax.specs.declared.octet_class.OctetClass.TheVariants.{Item}
use Rattle.imap_syntax.specs.declared.status.StatusItem.{StatusItem}
use Rattle.imap_syntax.specs.declared.status.StatusItem.TheVariants as status
use Rattle.imap_grammar.proofs.ReaderLaws.{HasPrefix, IsReader, IsWordEnd, bind_some, chosen, some_is, stopping}
use Rattle.imap_grammar.proofs.Spans.{ends_stop, span_complete, span_parts}

module _ {W : Type 0} (word_of : W → List ℕ) where
  pub named_sound : (ws : List W) (text : List ℕ) (w : W) → named word_of ws text ≡ Some w → word (word_of w) text
  named_sound [] text w h = cc
  named_sound (v ∷ vs) text w h =
      elim (chosen (bytes_eq (to_lower_case text) (to_lower_case (word_of v))) (Some v) (named word_of vs text) (Some w) h) [
        | inl t ↦ (bytes_eq-Decides _ _).0 t.0 ∙ ap (λ u. to_lower_case (word_of u)) (some_is v w t.1)
        | inr f ↦ named_sound vs text w f.1
      ]

  -- texts that differ only in case
  named_same : (ws : List W) (text other : List ℕ) → to_lower_case text ≡ to_lower_case other → named word_of ws text ≡ named word_of ws other
  named_same [] text other h = refl
  named_same (v ∷ vs) text other h =
      ap (λ t. cond (bytes_eq t (to_lower_case (word_of v))) (Some v) (named word_of vs text)) h
      ∙ ap (λ r. cond (bytes_eq (to_lower_case other) (to_lower_case (word_of v))) (Some v) r) (named_same vs text other h)

  pub named_complete : (ws : List W) (text : List ℕ) (w : W) → named word_of ws (word_of w) ≡ Some w → word (word_of w) text → named word_of ws text ≡ Some w
  named_complete ws text w h e = named_same ws text (word_of w) e ∙ h

-- each word of a command is found, and its octets are atom octets
is_command_word : (w : CommandWord) → (named command_word command_words (command_word w) ≡ Some w) × (list_all is_atom_octet (to_lower_case (command_word w)) ≡ true)
is_command_word Capability = (refl, refl)
is_command_word Noop = (refl, refl)
is_command_word Logout = (refl, refl)
is_command_word Login = (refl, refl)
is_command_word Enable = (refl, refl)
is_command_word Select = (refl, refl)
is_command_word Examine = (refl, refl)
is_command_word Create = (refl, refl)
is_command_word Delete = (refl, refl)
is_command_word Subscribe = (refl, refl)
is_command_word Unsubscribe = (refl, refl)
is_command_word ListNames = (refl, refl)
is_command_word Namespace = (refl, refl)
is_command_word Status = (refl, refl)
is_command_word Append = (refl, refl)
is_command_word Idle = (refl, refl)
is_command_word Close = (refl, refl)
is_command_word Unselect = (refl, refl)
is_command_word Expunge = (refl, refl)
is_command_word Search = (refl, refl)
is_command_word Fetch = (refl, refl)
is_command_word Store = (refl, refl)
is_command_word Copy = (refl, refl)
is_command_word Move = (refl, refl)
is_command_word Uid = (refl, refl)
is_command_word Rename = (refl, refl)
is_command_word StartTls = (refl, refl)
is_command_word Authenticate = (refl, refl)

pub command_complete : (text : List ℕ) (w : CommandWord) → word (command_word w) text → named command_word command_words text ≡ Some w
command_complete text w e = named_complete command_word command_words text w (is_command_word w).0 e

-- an octet whose lower case is an atom octet is one
atom_lower : (b : ℕ) → is_atom_octet (to_ascii_lowercase b) ≡ true → is_atom_octet b ≡ true
atom_lower b h = grind (arith, nat_tests)

atoms_lower : (text : List ℕ) → list_all is_atom_octet (to_lower_case text) ≡ true → list_all is_atom_octet text ≡ true
atoms_lower [] h = refl
atoms_lower (b ∷ bs) h = let p = and_parts _ _ h in and_from _ _ (atom_lower b p.0) (atoms_lower bs p.1)

-- a word's octets are atom octets
pub word_atoms : (token text : List ℕ) → list_all is_atom_octet (to_lower_case token) ≡ true → word token text → list_all is_atom_octet text ≡ true
word_atoms token text h e = atoms_lower text (ap (list_all is_atom_octet) e ∙ h)

pub command_atoms : (w : CommandWord) → list_all is_atom_octet (to_lower_case (command_word w)) ≡ true
command_atoms w = (is_command_word w).1

-- words of arguments, which `[` ends too
item_octet : (b : ℕ) → is_in Item (to_ascii_lowercase b) ≡ true → is_in Item b ≡ true
item_octet b h = grind (arith, nat_tests)

items_lower : (text : List ℕ) → list_all (is_in Item) (to_lower_case text) ≡ true → list_all (is_in Item) text ≡ true
items_lower [] h = refl
items_lower (b ∷ bs) h = let p = and_parts _ _ h in and_from _ _ (item_octet b p.0) (items_lower bs p.1)

abbrev pub NoItem : List ℕ → Type 0
NoItem rest = begins_with_class Item rest ≡ false

pub item_span : (token octets rest : List ℕ) → list_all (is_in Item) (to_lower_case token) ≡ true → (f : HasPrefix (word token) octets rest) → NoItem rest → span (is_in Item) octets ≡ (f.0, rest)
item_span token octets rest h f s = ap (span (is_in Item)) f.2 ∙ span_complete Item f.0 rest (items_lower f.0 (ap (list_all (is_in Item)) f.1 ∙ h)) s

pub after_word_sound : (token octets rest : List ℕ) → after_word token octets ≡ Some rest → HasPrefix (word token) octets rest
after_word_sound token octets rest h =
    elim (chosen (bytes_eq (to_lower_case (span (is_in Item) octets).0) (to_lower_case token)) (Some (span (is_in Item) octets).1) None (Some rest) h) [
      | inl t ↦ ((span (is_in Item) octets).0, (bytes_eq-Decides _ _).0 t.0, span_parts (is_in Item) octets ∙ ap (λ xs. (span (is_in Item) octets).0 ++ xs) (some_is (span (is_in Item) octets).1 rest t.1))
      | inr n ↦ absurd cc
    ]

pub after_word_complete : (token octets rest : List ℕ) → list_all (is_in Item) (to_lower_case token) ≡ true → HasPrefix (word token) octets rest → NoItem rest → after_word token octets ≡ Some rest
after_word_complete token octets rest h f s =
    ap (λ (y : List ℕ × List ℕ). cond (bytes_eq (to_lower_case y.0) (to_lower_case token)) (Some y.1) None) (item_span token octets rest h f s)
    ∙ ap (λ b. cond b (Some rest) None) ((bytes_eq-Decides _ _).1 f.1)

-- tables of words
pub named_at_sound : {W : Type 0} (word_of : W → List ℕ) (values : List W) (octets : List ℕ) (x : W × List ℕ) → named_at word_of values octets ≡ Some x → HasPrefix (word (word_of x.0)) octets x.1
named_at_sound {W} word_of values octets x h =
    let cut = span (is_in Item) octets in
    let a = bind_some (named word_of values cut.0) _ x h in
    subst (λ (y : W × List ℕ). HasPrefix (word (word_of y.0)) octets y.1) (some_is (a.0, cut.1) x a.2) (cut.0, named_sound word_of values cut.0 a.0 a.1, span_parts (is_in Item) octets)

pub named_at_complete : {W : Type 0} (word_of : W → List ℕ) (values : List W) (w : W) (octets rest : List ℕ) → named word_of values (word_of w) ≡ Some w → list_all (is_in Item) (to_lower_case (word_of w)) ≡ true
    → HasPrefix (word (word_of w)) octets rest → NoItem rest → named_at word_of values octets ≡ Some (w, rest)
named_at_complete {W} word_of values w octets rest e h f s =
    ap (λ (y : List ℕ × List ℕ). named word_of values y.0 >>= λ v. Some (v, y.1)) (item_span (word_of w) octets rest h f s)
    ∙ ap (λ o. o >>= λ v. Some (v, rest)) (named_complete word_of values f.0 w e f.1)

pub table_reads : {W : Type 0} (word_of : W → List ℕ) (values : List W) → ((w : W) → named word_of values (word_of w) ≡ Some w) → ((w : W) → list_all (is_in Item) (to_lower_case (word_of w)) ≡ true)
    → IsReader (named_at word_of values) (λ w. word (word_of w)) NoItem
table_reads word_of values is_named token = record {
  sound = named_at_sound word_of values;
  complete = λ octets rest w f s. named_at_complete word_of values w octets rest (is_named w) (token w) f s;
}

pub ends_item : (rest : List ℕ) → IsWordEnd rest → NoItem rest
ends_item rest s = ends_stop Item rest s

status_named : (w : StatusItem) → named status_word status_items (status_word w) ≡ Some w
status_named status.Messages = refl
status_named status.UidNext = refl
status_named status.UidValidity = refl
status_named status.Unseen = refl
status_named status.Deleted = refl
status_named status.Size = refl
status_named status.HighestModSeq = refl

status_letters : (w : StatusItem) → list_all (is_in Item) (to_lower_case (status_word w)) ≡ true
status_letters status.Messages = refl
status_letters status.UidNext = refl
status_letters status.UidValidity = refl
status_letters status.Unseen = refl
status_letters status.Deleted = refl
status_letters status.Size = refl
status_letters status.HighestModSeq = refl

pub status_reads : IsReader (named_at status_word status_items) status_item IsWordEnd
status_reads = stopping (table_reads status_word status_items status_named status_letters) IsWordEnd ends_item

item_not : (b m : ℕ) → is_in Item b ≡ true → is_in Item m ≡ false → eqb b m ≡ false
item_not b m h o = elim (cases_Bool (eqb b m)) [ inl t ↦ absurd (let e : true ≡ false = sym h ∙ ap (is_in Item) (eqb-true b m t) ∙ o in cc) | inr f ↦ f ]

word_begins : (token text octets rest : List ℕ) (m : ℕ) → list_all (is_in Item) (to_lower_case token) ≡ true → is_nil (to_lower_case token) ≡ false → is_in Item m ≡ false → word token text → octets ≡ text ++ rest → begins_with m octets ≡ false
word_begins token [] octets rest m h n o w e = absurd (let k : true ≡ false = ap is_nil w ∙ n in cc)
word_begins token (b ∷ text) octets rest m h n o w e =
    let i = items_lower (b ∷ text) (ap (list_all (is_in Item)) w ∙ h) in
    ap (begins_with m) e ∙ item_not b m (and_parts (is_in Item b) (list_all (is_in Item) text) i).0 o

-- a word's first octet belongs to words
pub word_first : (token octets rest : List ℕ) (m : ℕ) → list_all (is_in Item) (to_lower_case token) ≡ true → is_nil (to_lower_case token) ≡ false → is_in Item m ≡ false → HasPrefix (word token) octets rest → begins_with m octets ≡ false
word_first token octets rest m h n o f = word_begins token f.0 octets rest m h n o f.1 f.2
