use Rattle.std.proofs.Common.{List, [], ◌∷◌, codes, subst}
use Rattle.clap.specs.Words.{AddsArg, AddsInTurn, Rule}
use Rattle.clap_laws.proofs.WordLemmas.{AreWords, added_in_turn}
use Rattle.server_settings.specs.Options.{join_word, number_word, peer_word, word_with_value, preauth_word, replica_word, rev1_word, stop_word}
use Rattle.server_settings.proofs.settings.known_words.Goals as goal

pub returns : goal.returns
returns c = λ old new adds.
    let words = c.preauth.result ∷ c.word_with_value.result ∷ c.word_with_value-2.result ∷ c.word_with_value-3.result ∷ c.number_word.result ∷ c.number_word-2.result ∷ c.number_word-3.result ∷ c.number_word-4.result
    ∷ c.stop_after.result ∷ c.word_with_value-4.result ∷ c.word_with_value-5.result ∷ c.join_arg.result ∷ c.rev1_arg.result ∷ c.word_with_value-6.result ∷ c.peer_arg.result ∷ c.word_with_value-7.result ∷ c.replica.result ∷ [] in
    let rules : List Rule = preauth_word ∷ word_with_value (codes "user") ∷ word_with_value (codes "pass") ∷ word_with_value (codes "pass-file")
    ∷ number_word (codes "login-time") 4294967295 ∷ number_word (codes "idle-time") 4294967295 ∷ number_word (codes "write-time") 4294967295 ∷ number_word (codes "literal-limit") 20971520
    ∷ stop_word ∷ word_with_value (codes "journal") ∷ word_with_value (codes "store") ∷ join_word ∷ rev1_word ∷ word_with_value (codes "link-listen") ∷ peer_word ∷ word_with_value (codes "secret-file")
    ∷ replica_word ∷ [] in
    let are : AreWords words rules = (
      c.preauth.ensures,
      (
        c.word_with_value.ensures,
        (
          c.word_with_value-2.ensures,
          (
            c.word_with_value-3.ensures,
            (
              c.number_word.ensures,
              (
                c.number_word-2.ensures,
                (
                  c.number_word-3.ensures,
                  (
                    c.number_word-4.ensures,
                    (c.stop_after.ensures, (c.word_with_value-4.ensures, (c.word_with_value-5.ensures, (c.join_arg.ensures, (c.rev1_arg.ensures, (c.word_with_value-6.ensures, (c.peer_arg.ensures, (c.word_with_value-7.ensures, (c.replica.ensures, tt))))))))),
                  ),
                ),
              ),
            ),
          ),
        ),
      ),
    ) in
    added_in_turn old new words rules are (subst (λ l. AddsInTurn AddsArg old l new) c.in_ok-words.ensures.items adds)
