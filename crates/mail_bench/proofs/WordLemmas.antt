use Rattle.std.proofs.Common.{◌≡◌, ◌≤◌, ◌<◌, ℕ, true, List, Option, None, Some, refl, sym, ◌∙◌}
use Rattle.clap.specs.Matches.{one_text}
use Rattle.clap.specs.Walk.{rows_of}
use Rattle.clap.specs.declared.parser.matches.Found.{Found}
use Rattle.clap.specs.Simple.{is_simple}
use Rattle.clap.proofs.OnLiterals.{clap_on_literals}
use Rattle.clap_laws.proofs.MatchesLemmas.{one_text_of_rows}
use Rattle.mail_bench.specs.Options.{IsAmount, bench_words}

-- clap's matches are known for the words that the program knows
pub bench_is_simple : is_simple bench_words ≡ true
unfolding clap_on_literals
bench_is_simple = refl

-- ---- a number among the matches

pub amount_is : (found : Found) (id : List ℕ) (r : Option ℕ) (usual most given number : ℕ) → ((one_text found id ≡ None) → r ≡ None) → r ≡ Some given → 0 < number → number ≤ most
    → IsAmount (rows_of found) id usual most number
amount_is found id r usual most given number none some low high =
    (low, high, λ h. let k : ◌≡◌ {A = Option ℕ} None (Some given) = sym (none (one_text_of_rows found id ∙ h)) ∙ some in cc)
