use Rattle.std.proofs.Common.{◌≡◌, ℕ, Bool, true, false, List, Option, None, Some, refl, sym, ap, ◌∙◌, subst, codes}
use Rattle.std.specs.Prelude.{IfSome, option_map}
use Rattle.std.specs.Borrow.{Bor}
use Rattle.std.proofs.lemmas.Bool.{false≢true}
use Rattle.clap.specs.Matches.{first_value, one_text}
use Rattle.clap.specs.Walk.{Row, first_of, one_of, rows_of}
use Rattle.clap.specs.declared.parser.matches.Found.{Found}
use Rattle.clap.specs.Simple.{is_simple}
use Rattle.clap.proofs.OnLiterals.{clap_on_literals}
use Rattle.clap_laws.proofs.MatchesLemmas.{first_value_of_rows, one_text_of_rows}
use Rattle.server_settings.specs.Options.{NamesAccess, NamesGivenAccess, NamesJournalBound, NamesStore, server_words}
use Rattle.server_settings.specs.Settings.{IsJournalBound, access_of, given_access_of}
use Rattle.server_settings.specs.declared.settings.Access.{Access}
use Rattle.server_settings.specs.declared.settings.GivenAccess.{GivenAccess}
use Rattle.server_settings.specs.declared.settings.GivenAccess.TheVariants.{Whole}

-- ---- the access

some_is : {T : Type 0} {a b : T} → Some a ≡ Some b → a ≡ b
some_is {T} {a} e = ap (λ (o : Option T). or_else o) e
  where
    or_else : Option T → T
    or_else None = a
    or_else (Some x) = x

module _ (rows : List Row) where
  rows_name_access : (is_preauth : Bool) (user pass : Option (Bor (List ℕ))) (access : Access) → access_of is_preauth user pass ≡ Some access
      → ((one_of (codes "preauth") rows ≡ None) → is_preauth ≡ false) → ((one_of (codes "preauth") rows ≡ Some (codes "true")) → is_preauth ≡ true)
      → ((one_of (codes "preauth") rows ≡ Some (codes "false")) → is_preauth ≡ false)
      → option_map (λ s. s.now) user ≡ first_of (codes "user") rows → option_map (λ s. s.now) pass ≡ first_of (codes "pass") rows → NamesAccess rows access
  rows_name_access true None None access e none on off u p =
      subst (NamesAccess rows) (some_is e) (((λ h. false≢true (sym (none h))), (λ h. false≢true (sym (off h)))), sym u, sym p)
  rows_name_access false (Some user) (Some pass) access e none on off u p = subst (NamesAccess rows) (some_is e) ((λ h. false≢true (on h)), sym u, sym p)
  rows_name_access true (Some user) pass access e none on off u p = let k : ◌≡◌ {A = Option Access} None (Some access) = e in cc
  rows_name_access true None (Some pass) access e none on off u p = let k : ◌≡◌ {A = Option Access} None (Some access) = e in cc
  rows_name_access false None pass access e none on off u p = let k : ◌≡◌ {A = Option Access} None (Some access) = e in cc
  rows_name_access false (Some user) None access e none on off u p = let k : ◌≡◌ {A = Option Access} None (Some access) = e in cc

  whole_names_access : (is_preauth : Bool) (user pass : Option (Bor (List ℕ))) (known : Option Access) (access : GivenAccess) → access_of is_preauth user pass ≡ known → option_map Whole known ≡ Some access
      → ((one_of (codes "preauth") rows ≡ None) → is_preauth ≡ false) → ((one_of (codes "preauth") rows ≡ Some (codes "true")) → is_preauth ≡ true)
      → ((one_of (codes "preauth") rows ≡ Some (codes "false")) → is_preauth ≡ false)
      → option_map (λ s. s.now) user ≡ first_of (codes "user") rows → option_map (λ s. s.now) pass ≡ first_of (codes "pass") rows → None ≡ first_of (codes "pass-file") rows → NamesGivenAccess rows access
  whole_names_access is_preauth user pass None access is e none on off u p f = let k : ◌≡◌ {A = Option GivenAccess} None (Some access) = e in absurd cc
  whole_names_access is_preauth user pass (Some known) access is e none on off u p f =
      subst (NamesGivenAccess rows) (some_is e) (rows_name_access is_preauth user pass known is none on off u p, sym f)

  rows_name_given : (is_preauth : Bool) (user pass file : Option (Bor (List ℕ))) (access : GivenAccess) → given_access_of is_preauth user pass file ≡ Some access
      → ((one_of (codes "preauth") rows ≡ None) → is_preauth ≡ false) → ((one_of (codes "preauth") rows ≡ Some (codes "true")) → is_preauth ≡ true)
      → ((one_of (codes "preauth") rows ≡ Some (codes "false")) → is_preauth ≡ false)
      → option_map (λ s. s.now) user ≡ first_of (codes "user") rows → option_map (λ s. s.now) pass ≡ first_of (codes "pass") rows
      → option_map (λ s. s.now) file ≡ first_of (codes "pass-file") rows → NamesGivenAccess rows access
  rows_name_given is_preauth user pass None access e none on off u p f = whole_names_access is_preauth user pass (access_of is_preauth user pass) access refl e none on off u p f
  rows_name_given false (Some user) None (Some path) access e none on off u p f = subst (NamesGivenAccess rows) (some_is e) ((λ h. false≢true (on h)), sym u, sym p, sym f)
  rows_name_given true user pass (Some path) access e none on off u p f = let k : ◌≡◌ {A = Option GivenAccess} None (Some access) = e in absurd cc
  rows_name_given false None pass (Some path) access e none on off u p f = let k : ◌≡◌ {A = Option GivenAccess} None (Some access) = e in absurd cc
  rows_name_given false (Some user) (Some pass) (Some path) access e none on off u p f = let k : ◌≡◌ {A = Option GivenAccess} None (Some access) = e in absurd cc

pub access_is_named : (found : Found) (is_preauth : Bool) (user pass file : Option (Bor (List ℕ))) (r : Option GivenAccess) → r ≡ given_access_of is_preauth user pass file
    → ((one_text found (codes "preauth") ≡ None) → is_preauth ≡ false) → ((one_text found (codes "preauth") ≡ Some (codes "true")) → is_preauth ≡ true)
    → ((one_text found (codes "preauth") ≡ Some (codes "false")) → is_preauth ≡ false)
    → option_map (λ s. s.now) user ≡ first_value found (codes "user") → option_map (λ s. s.now) pass ≡ first_value found (codes "pass")
    → option_map (λ s. s.now) file ≡ first_value found (codes "pass-file") → IfSome r (NamesGivenAccess (rows_of found))
access_is_named found is_preauth user pass file None e none on off u p f = tt
access_is_named found is_preauth user pass file (Some access) e none on off u p f =
    let one = one_text_of_rows found (codes "preauth") in
    rows_name_given (rows_of found) is_preauth user pass file access (sym e) (λ h. none (one ∙ h)) (λ h. on (one ∙ h)) (λ h. off (one ∙ h))
    (u ∙ first_value_of_rows found (codes "user")) (p ∙ first_value_of_rows found (codes "pass")) (f ∙ first_value_of_rows found (codes "pass-file"))

-- ---- the bound of each journal

pub journal_is_named : (found : Found) (rows : List Row) (value : Option (Bor (List ℕ))) (bound : Option ℕ) → rows_of found ≡ rows → option_map (λ s. s.now) value ≡ first_value found (codes "journal")
    → IsJournalBound (option_map (λ s. s.now) value) bound → NamesJournalBound rows bound
journal_is_named found rows value bound same given is =
    subst (λ (text : Option (List ℕ)). IsJournalBound text bound) (given ∙ first_value_of_rows found (codes "journal") ∙ ap (first_of (codes "journal")) same) is

-- ---- the store

pub store_is_named : (found : Found) (rows : List Row) (value : Option (Bor (List ℕ))) → rows_of found ≡ rows → option_map (λ s. s.now) value ≡ first_value found (codes "store") → NamesStore rows value
store_is_named found rows value same given = given ∙ first_value_of_rows found (codes "store") ∙ ap (first_of (codes "store")) same

-- clap's matches of the words that the program knows
pub server_is_simple : is_simple server_words ≡ true
unfolding clap_on_literals
server_is_simple = refl
