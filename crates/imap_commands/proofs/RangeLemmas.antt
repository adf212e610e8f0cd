use Rattle.std.proofs.Common.{◌≡◌, ◌∙◌, ap, refl, Bool, true, false, ◌&&◌, List, [], ◌∷◌, ◌++◌, Ok, Err, cond}
use Rattle.std.proofs.lemmas.List.Folds.{list_all-append}
use Rattle.std.specs.List.{list_all}
use Rattle.imap_answers.specs.declared.fixed_words.Refusal.TheVariants.{NoSuchMessage}
use Rattle.imap_syntax.specs.declared.search.SearchStep.TheVariants.{Not, Or, And}
use Rattle.imap_query.specs.KeyHits.{Asks, Both, Either, Key, Lacks, steps_of}
use Rattle.imap_commands.specs.SearchCommand.{key_is_in_range, search_intent_by_key, search_intent, step_is_in_range}
use Rattle.session_view.specs.declared.view_entry.ViewEntry.{ViewEntry}

and_all : (a : Bool) → (a && true) ≡ a
and_all true = refl
and_all false = refl

-- the steps of a key are in range exactly when the key is
pub key_in_range : (view : List ViewEntry) (key : Key) → list_all (step_is_in_range view) (steps_of key) ≡ key_is_in_range view key
key_in_range view (Asks test) = and_all (key_is_in_range view (Asks test))
key_in_range view (Lacks key) =
    list_all-append (step_is_in_range view) (steps_of key) (Not ∷ []) ∙ and_all (list_all (step_is_in_range view) (steps_of key)) ∙ key_in_range view key
key_in_range view (Either this that) =
    list_all-append (step_is_in_range view) (steps_of this ++ steps_of that) (Or ∷ []) ∙ and_all (list_all (step_is_in_range view) (steps_of this ++ steps_of that))
    ∙ list_all-append (step_is_in_range view) (steps_of this) (steps_of that) ∙ (λ i. key_in_range view this i && key_in_range view that i)
key_in_range view (Both this that) =
    list_all-append (step_is_in_range view) (steps_of this ++ steps_of that) (And ∷ []) ∙ and_all (list_all (step_is_in_range view) (steps_of this ++ steps_of that))
    ∙ list_all-append (step_is_in_range view) (steps_of this) (steps_of that) ∙ (λ i. key_in_range view this i && key_in_range view that i)

pub intent_by_key : (view : List ViewEntry) (key : Key) → search_intent view (steps_of key) ≡ search_intent_by_key view key
intent_by_key view key = ap (λ (is : Bool). cond is (Ok []) (Err NoSuchMessage)) (key_in_range view key)
