-- The mailboxes that answers name.
use Rattle.std.proofs.Common.{◌≡◌, ℕ, ◌+◌, ◌<◌, List, [], ◌∷◌, ◌++◌, Option, Some, None, sym, ap, ◌∙◌, append-nil, get_or, length, take}
use Rattle.std.specs.Prelude.{option_map}
use Rattle.std.specs.Borrow.{Bor}
use Rattle.std.specs.List.{cons_option}
use Rattle.std.proofs.lemmas.List.{take_more}
use Rattle.std.proofs.lemmas.List.Elements.{filter_map-append}
use Rattle.imap_answers.specs.declared.answer.Answer.{Answer}
use Rattle.rev1_rename.specs.Exchanges.{listed_name, names_of_answers}

one_more : (answers : List Answer) (i : ℕ) (answer : Answer) (names : List (List ℕ)) (name : Option (List ℕ)) → i < length answers → answer ≡ get_or answers i answer → listed_name answer ≡ name
    → names ≡ names_of_answers (take i answers) → names ++ cons_option name [] ≡ names_of_answers (take (i + 1) answers)
one_more answers i answer names name l at is so =
    ap (λ (xs : List (List ℕ)). xs ++ cons_option name []) so
    ∙ ap (λ (n : Option (List ℕ)). names_of_answers (take i answers) ++ cons_option n []) (sym is ∙ ap listed_name at)
    ∙ sym (filter_map-append listed_name (take i answers) (get_or answers i answer ∷ []))
    ∙ ap names_of_answers (sym (take_more answers i answer l))

pub named_more : (answers : List Answer) (i : ℕ) (answer : Answer) (name : Bor (List ℕ)) (copy : List ℕ) (names new : List (List ℕ)) (found : Option (Bor (List ℕ))) → i < length answers → answer ≡ get_or answers i answer
    → option_map (λ (n : Bor (List ℕ)). n.now) found ≡ listed_name answer → found ≡ Some name → copy ≡ name.now → new ≡ names ++ copy ∷ [] → names ≡ names_of_answers (take i answers)
    → new ≡ names_of_answers (take (i + 1) answers)
named_more answers i answer name copy names new found l at is some e more so =
    more ∙ ap (λ (n : List ℕ). names ++ n ∷ []) e ∙ one_more answers i answer names (Some name.now) l at (sym is ∙ ap (option_map (λ (n : Bor (List ℕ)). n.now)) some) so

pub unnamed_more : (answers : List Answer) (i : ℕ) (answer : Answer) (names : List (List ℕ)) (found : Option (Bor (List ℕ))) → i < length answers → answer ≡ get_or answers i answer
    → option_map (λ (n : Bor (List ℕ)). n.now) found ≡ listed_name answer → found ≡ None → names ≡ names_of_answers (take i answers) → names ≡ names_of_answers (take (i + 1) answers)
unnamed_more answers i answer names found l at is none so =
    sym (append-nil names) ∙ one_more answers i answer names None l at (sym is ∙ ap (option_map (λ (n : Bor (List ℕ)). n.now)) none) so
