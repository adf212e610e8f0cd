use Rattle.std.proofs.Common.{◌≡◌, ◌≢◌, ℕ, false, List, ◌++◌, Option, Some, None, take, drop, refl, sym, ap, ◌∙◌, codes}
use Rattle.std.proofs.lemmas.Bool.{false_from_ne_true}
use Rattle.std.proofs.lemmas.List.{take-append-drop}
use Rattle.std.proofs.lemmas.Slice.Eq.{bytes_eq-Decides}
use Rattle.std.specs.Str.{bytes_eq}
use Rattle.text_fields.specs.FieldReading.{◌>>=◌, cut_at, number_at}
use Rattle.op_log.specs.Formats.{format_at}

-- ---- the format, by what follows the word

pub format_at_without : (text : List ℕ) → ((field : List ℕ) → text ≢ codes "log " ++ field) → None ≡ format_at text
unfolding format_at
format_at_without text h =
    let f : bytes_eq (take 4 text) (codes "log ") ≡ false =
    false_from_ne_true (bytes_eq (take 4 text) (codes "log ")) (λ t.
    h (drop 4 text) (sym (take-append-drop 4 text) ∙ ap (λ (xs : List ℕ). xs ++ drop 4 text) ((bytes_eq-Decides (take 4 text) (codes "log ")).0 t))) in
    sym (rw f refl)

pub format_at_uncut : (text field : List ℕ) → text ≡ codes "log " ++ field → cut_at 32 field ≡ None → None ≡ format_at text
unfolding format_at
format_at_uncut text field e cut = sym (ap format_at e ∙ ap (λ (o : Option (List ℕ × List ℕ)). o >>= (λ parts. number_at 18446744073709551615 parts.0)) cut)

pub format_at_cut : (text field format rest : List ℕ) → text ≡ codes "log " ++ field → cut_at 32 field ≡ Some (format, rest) → number_at 18446744073709551615 format ≡ format_at text
unfolding format_at
format_at_cut text field format rest e cut = sym (ap format_at e ∙ ap (λ (o : Option (List ℕ × List ℕ)). o >>= (λ parts. number_at 18446744073709551615 parts.0)) cut)
