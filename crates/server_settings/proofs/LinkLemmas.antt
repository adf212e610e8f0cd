use Rattle.std.proofs.Common.{◌≡◌, ◌≢◌, ◌+◌, ◌<◌, ℕ, zero, suc, Bool, true, false, List, [], ◌∷◌, ◌++◌, Option, Some, None, refl, sym, ap, ◌∙◌, subst, map, arith, length, take, get_or, append-nil, codes, cond}
use Rattle.std.specs.Prelude.{IfSome, IsSome, find, option_map, unwrap_or}
use Rattle.std.specs.Borrow.{Bor}
use Rattle.std.specs.Str.{bytes_eq}
use Rattle.clap.specs.Facts.{Entry}
use Rattle.clap.specs.Matches.{matched_of, raw_values}
use Rattle.clap.specs.Walk.{Row, all_of, first_of, row_of, rows_of}
use Rattle.clap.specs.declared.parser.matches.Found.{Found}
use Rattle.server_settings.specs.Links.{IsPeerText, MayBeLinked, NamesLinks}
use Rattle.server_settings.specs.Options.{values_of}
use Rattle.server_settings.specs.Settings.{AreNames, AreTexts, join_names_of, names_of}
use Rattle.server_settings.specs.declared.link_words.LinkWords.{LinkWords}
use Rattle.server_settings.specs.declared.settings.Join.{Join}
use Rattle.server_settings.specs.declared.settings.Place.{Place}

-- ---- the values of a word, in clap's matches and as rows

module _ (id : List ℕ) where
  all_in : (b : Bool) (entry : Entry) (found : Option Entry) (rows : Option Row)
      → option_map raw_values (option_map (λ (e : Entry). e.1) found) ≡ option_map (λ (r : Row). r.values) rows
      → option_map raw_values (option_map (λ (e : Entry). e.1) (cond b (Some entry) found)) ≡ option_map (λ (r : Row). r.values) (cond b (Some (row_of entry)) rows)
  all_in true entry found rows h = refl
  all_in false entry found rows h = h

  all_among : (entries : List Entry)
      → option_map raw_values (option_map (λ (e : Entry). e.1) (find (λ (e : Entry). bytes_eq e.0.now id) entries))
      ≡ option_map (λ (r : Row). r.values) (find (λ (r : Row). bytes_eq r.id id) (map row_of entries))
  all_among [] = refl
  all_among (entry ∷ entries) = all_in (bytes_eq entry.0.now id) entry (find (λ (e : Entry). bytes_eq e.0.now id) entries) (find (λ (r : Row). bytes_eq r.id id) (map row_of entries)) (all_among entries)

pub all_values_of_rows : (found : Found) (id : List ℕ) → option_map raw_values (matched_of found id) ≡ all_of id (rows_of found)
all_values_of_rows found id = all_among id found.entries.items

-- ---- peers, one after another

pub peer_names_append : (peers : List Place) (peer : Place) → names_of (peers ++ peer ∷ []) ≡ names_of peers ++ peer.replica ∷ []
peer_names_append [] peer = refl
peer_names_append (first ∷ peers) peer = ap (λ (xs : List ℕ). first.replica ∷ xs) (peer_names_append peers peer)

module _ {A : Type 0} (IsText : List ℕ → A → Type 0) where
  texts_suc : (texts : List (Bor (List ℕ))) (values : List A) (i : ℕ) (d : Bor (List ℕ)) (value : A) → i < length texts → AreTexts IsText (map (λ t. t.now) (take i texts)) values
      → IsText (get_or texts i d).now value → AreTexts IsText (map (λ t. t.now) (take (suc i) texts)) (values ++ value ∷ [])
  texts_suc [] values i d value l are is = absurd (omega arith)
  texts_suc (text ∷ texts) [] zero d value l are is = (is, tt)
  texts_suc (text ∷ texts) (first ∷ values) zero d value l are is = absurd are
  texts_suc (text ∷ texts) [] (suc i) d value l are is = absurd are
  texts_suc (text ∷ texts) (first ∷ values) (suc i) d value l are is = (are.0, texts_suc texts values i d value (omega arith) are.1 is)

  pub texts_more : (texts : List (Bor (List ℕ))) (values : List A) (i : ℕ) (d : Bor (List ℕ)) (value : A) → i < length texts → AreTexts IsText (map (λ t. t.now) (take i texts)) values
      → IsText (get_or texts i d).now value → AreTexts IsText (map (λ t. t.now) (take (i + 1) texts)) (values ++ value ∷ [])
  texts_more texts values i d value l are is =
      let k : suc i ≡ i + 1 = omega arith in
      subst (λ (m : ℕ). AreTexts IsText (map (λ t. t.now) (take m texts)) (values ++ value ∷ [])) k (texts_suc texts values i d value l are is)

-- ---- the words for links

pub words_are_values : (r : Option (Bor (List (Bor (List ℕ))))) (all : Option (List (List ℕ))) (none : Bor (List (Bor (List ℕ)))) → option_map (λ s. map (λ v. v.now) s.now) r ≡ all → none.now ≡ []
    → map (λ v. v.now) (unwrap_or r none).now ≡ values_of all
words_are_values None all none h e = ap (map (λ v. v.now)) e ∙ ap values_of h
words_are_values (Some s) all none h e = ap values_of h

pub values_are : (found : Found) (id : List ℕ) (r : Option (Bor (List (Bor (List ℕ))))) (none texts : Bor (List (Bor (List ℕ)))) → option_map (λ s. map (λ v. v.now) s.now) r ≡ option_map raw_values (matched_of found id)
    → none.now ≡ [] → texts ≡ unwrap_or r none → map (λ v. v.now) texts.now ≡ values_of (all_of id (rows_of found))
values_are found id r none texts h e same = ap (λ (ts : Bor (List (Bor (List ℕ)))). map (λ v. v.now) ts.now) same ∙ words_are_values r _ none (h ∙ all_values_of_rows found id) e

pub no_links : (rows : List Row) (listen secret : Option (Bor (List ℕ))) (texts : List (Bor (List ℕ))) → listen ≡ None → texts ≡ [] → secret ≡ None
    → option_map (λ s. s.now) listen ≡ first_of (codes "link-listen") rows → map (λ s. s.now) texts ≡ values_of (all_of (codes "peer") rows)
    → option_map (λ s. s.now) secret ≡ first_of (codes "secret-file") rows → NamesLinks rows None
no_links rows listen secret texts l t s first all second =
    (sym first ∙ ap (option_map (λ a. a.now)) l, sym all ∙ ap (map (λ a. a.now)) t, sym second ∙ ap (option_map (λ a. a.now)) s)

pub some_links : (rows : List Row) (words : LinkWords) (texts : List (Bor (List ℕ))) → (words.listen ≡ None → texts ≢ [])
    → option_map (λ s. s.now) words.listen ≡ first_of (codes "link-listen") rows → map (λ s. s.now) texts ≡ values_of (all_of (codes "peer") rows)
    → Some words.secret_file.now ≡ first_of (codes "secret-file") rows → AreTexts IsPeerText (map (λ s. s.now) texts) words.peers.items → NamesLinks rows (Some words)
some_links rows words texts link first all second are = (
  first,
  subst (λ (values : List (List ℕ)). AreTexts IsPeerText values words.peers.items) all are,
  sym second,
  λ none empty. no_texts texts (subst (λ (peers : List Place). AreTexts IsPeerText (map (λ s. s.now) texts) peers) empty are) (link none),
)
  where
    no_texts : (ts : List (Bor (List ℕ))) → AreTexts IsPeerText (map (λ s. s.now) ts) [] → ts ≢ [] → ⊥
    no_texts [] h n = n refl
    no_texts (t ∷ ts) h n = h

-- ---- a process that may be linked

no_joins : (joins : List Join) → length joins ≡ 0 → joins ≡ []
no_joins [] h = refl
no_joins (join ∷ joins) h = absurd (omega (arith, h))

pub linked_is : (links : Option LinkWords) (is_linkable : Bool) (places : List Place) (joins : List Join) (store : Option (Bor (List ℕ))) (names : List ℕ)
    → IfSome links (λ _. is_linkable ≡ true) → (is_linkable ≡ true → (length places ≡ 1) × (length joins ≡ 0) × IsSome store)
    → names ≡ names_of places ++ join_names_of joins
    → IfSome links (λ words. AreNames (names ++ names_of words.peers.items)) → IfSome links (λ words. MayBeLinked places joins store words.peers.items)
linked_is None is_linkable places joins store names on may same are = tt
linked_is (Some words) is_linkable places joins store names on may same are =
    let m = may on in
    let none : names ≡ names_of places = same ∙ ap (λ (js : List Join). names_of places ++ join_names_of js) (no_joins joins m.1) ∙ append-nil (names_of places) in
    record { one = m.0; none = m.1; stored = m.2; names = subst (λ (xs : List ℕ). AreNames (xs ++ names_of words.peers.items)) none are }
