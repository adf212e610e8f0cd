use Rattle.std.proofs.Common.{◌≡◌, ℕ, Bool, true, false, List, [], ◌∷◌, Option, Some, Result, Ok, Err, refl, ap, ◌∙◌, map, cond}
use Rattle.std.specs.Prelude.{IfOk, find, option_and_then, option_map, slice_get}
use Rattle.std.specs.Borrow.{Bor}
use Rattle.std.specs.Str.{bytes_eq}
use Rattle.clap.specs.Facts.{Entry}
use Rattle.clap.specs.Matches.{first_value, found_of, one_text}
use Rattle.clap.specs.Values.{read_as}
use Rattle.clap.specs.Walk.{Row, first_of, one_of, row_of, row_text, rows_of}
use Rattle.clap.specs.declared.builder.value_parser.Reading.{Reading}
use Rattle.clap.specs.declared.parser.matches.Found.{Found}
use Rattle.clap.specs.declared.parser.matches.MatchedArg.{MatchedArg}
use Rattle.clap.specs.Simple.{App, HasMatchesOf, is_simple, matches_of}
use Rattle.clap.specs.declared.parser.matches.ArgMatches.{ArgMatches}

-- ---- matches, as rows

first_text : (values : List (Bor (List ℕ))) → option_map (λ s. s.now) (slice_get values 0) ≡ slice_get (map (λ s. s.now) values) 0
first_text [] = refl
first_text (v ∷ vs) = refl

read_text : (how : Reading) (values : List (Bor (List ℕ))) → option_map (λ s. read_as how s.now) (slice_get values 0) ≡ option_map (read_as how) (slice_get (map (λ s. s.now) values) 0)
read_text how [] = refl
read_text how (v ∷ vs) = refl

module _ (id : List ℕ) where
  first_in : (b : Bool) (entry : Entry) (found : Option Entry) (rows : Option Row)
      → option_and_then (λ (a : MatchedArg). option_map (λ s. s.now) (slice_get a.vals.items 0)) (option_map (λ (e : Entry). e.1) found) ≡ option_and_then (λ (r : Row). slice_get r.values 0) rows
      → option_and_then (λ (a : MatchedArg). option_map (λ s. s.now) (slice_get a.vals.items 0)) (option_map (λ (e : Entry). e.1) (cond b (Some entry) found))
      ≡ option_and_then (λ (r : Row). slice_get r.values 0) (cond b (Some (row_of entry)) rows)
  first_in true entry found rows h = first_text entry.1.vals.items
  first_in false entry found rows h = h

  first_among : (entries : List Entry)
      → option_and_then (λ (a : MatchedArg). option_map (λ s. s.now) (slice_get a.vals.items 0)) (option_map (λ (e : Entry). e.1) (find (λ (e : Entry). bytes_eq e.0.now id) entries))
      ≡ option_and_then (λ (r : Row). slice_get r.values 0) (find (λ (r : Row). bytes_eq r.id id) (map row_of entries))
  first_among [] = refl
  first_among (entry ∷ entries) =
      first_in (bytes_eq entry.0.now id) entry (find (λ (e : Entry). bytes_eq e.0.now id) entries) (find (λ (r : Row). bytes_eq r.id id) (map row_of entries)) (first_among entries)

  one_in : (b : Bool) (entry : Entry) (found : Option Entry) (rows : Option Row)
      → option_and_then (λ (a : MatchedArg). option_map (λ s. read_as a.reading s.now) (slice_get a.vals.items 0)) (option_map (λ (e : Entry). e.1) found) ≡ option_and_then row_text rows
      → option_and_then (λ (a : MatchedArg). option_map (λ s. read_as a.reading s.now) (slice_get a.vals.items 0)) (option_map (λ (e : Entry). e.1) (cond b (Some entry) found))
      ≡ option_and_then row_text (cond b (Some (row_of entry)) rows)
  one_in true entry found rows h = read_text entry.1.reading entry.1.vals.items
  one_in false entry found rows h = h

  one_among : (entries : List Entry)
      → option_and_then (λ (a : MatchedArg). option_map (λ s. read_as a.reading s.now) (slice_get a.vals.items 0)) (option_map (λ (e : Entry). e.1) (find (λ (e : Entry). bytes_eq e.0.now id) entries))
      ≡ option_and_then row_text (find (λ (r : Row). bytes_eq r.id id) (map row_of entries))
  one_among [] = refl
  one_among (entry ∷ entries) =
      one_in (bytes_eq entry.0.now id) entry (find (λ (e : Entry). bytes_eq e.0.now id) entries) (find (λ (r : Row). bytes_eq r.id id) (map row_of entries)) (one_among entries)

pub first_value_of_rows : (found : Found) (id : List ℕ) → first_value found id ≡ first_of id (rows_of found)
first_value_of_rows found id = first_among id found.entries.items

pub one_text_of_rows : (found : Found) (id : List ℕ) → one_text found id ≡ one_of id (rows_of found)
one_text_of_rows found id = one_among id found.entries.items

-- ---- matches of words, if the known words are such that clap's matches are known

pub rows_of_matches : {E : Type 0} (r : Result ArgMatches E) (app known : App) (words : List (List ℕ)) → is_simple known ≡ true → app ≡ known → IfOk r (HasMatchesOf app words)
    → IfOk r (λ m. rows_of (found_of m) ≡ matches_of known words)
rows_of_matches (Err e) app known words simple is h = tt
rows_of_matches (Ok m) app known words simple is h = (h (ap is_simple is ∙ simple)).0 ∙ ap (λ a. matches_of a words) is
