use Rattle.std.proofs.Common.{List, [], ◌∷◌, codes, subst}
use Rattle.clap.specs.Words.{AddsArg, AddsInTurn, Rule}
use Rattle.clap_laws.proofs.WordLemmas.{AreWords, added_in_turn}
use Rattle.mail_bench.specs.Options.{counted_word, word_with_value, required_word}
use Rattle.mail_bench.proofs.settings.known_words.Goals as goal

pub returns : goal.returns
returns c = λ old new adds.
    let words = c.required_word.result ∷ c.required_word-2.result ∷ c.required_word-3.result ∷ c.required_word-4.result ∷ c.word_with_value.result ∷ c.number_word.result ∷ c.number_word-2.result ∷ c.number_word-3.result ∷ c.word_with_value-2.result ∷ [] in
    let rules : List Rule = required_word (codes "address") ∷ required_word (codes "user") ∷ required_word (codes "pass") ∷ required_word (codes "workload") ∷ word_with_value (codes "second")
    ∷ counted_word (codes "messages") 1000000 ∷ counted_word (codes "connections") 1000 ∷ counted_word (codes "seconds") 3600 ∷ word_with_value (codes "mailbox") ∷ [] in
    let are : AreWords words rules = (c.required_word.ensures, (c.required_word-2.ensures, (c.required_word-3.ensures, (c.required_word-4.ensures, (c.word_with_value.ensures, (c.number_word.ensures, (c.number_word-2.ensures, (c.number_word-3.ensures, (c.word_with_value-2.ensures, tt))))))))) in
    added_in_turn old new words rules are (subst (λ l. AddsInTurn AddsArg old l new) c.in_ok-words.ensures.items adds)
