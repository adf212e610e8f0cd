use Rattle.std.proofs.Common.{codes, refl, rules}
use Rattle.clap.specs.Words.{found_of, rows_of}
use Rattle.server_settings.proofs.LinkLemmas.{no_links, some_links, values_are}
use Rattle.server_settings.proofs.link_words.links_of.Goals as goal

pub returns-in_default-clause-links : goal.returns-in_default-clause-links
returns-in_default-clause-links c =
    let found = found_of c.args.matches.now in
    let all = values_are found (codes "peer") c.get_strs.result _ _ c.get_strs.ensures refl c.unwrap_or-texts.ensures in
    let none = c.if-has_link.ensures.none refl in
    no_links (rows_of found) c.word_in-listen.result c.word_in.result c.unwrap_or-texts.result.now none.0 none.1 (search rules) c.word_in-listen.ensures all c.word_in.ensures

pub returns-in-Ok-clause-links : goal.returns-in-Ok-clause-links
returns-in-Ok-clause-links c =
    let found = found_of c.args.matches.now in
    let all = values_are found (codes "peer") c.get_strs.result _ _ c.get_strs.ensures refl c.unwrap_or-texts.ensures in
    some_links (rows_of found) (record { listen = c.word_in-listen.result; peers = c.in-Ok.peers; secret_file = c.in-Some.secret_file }) c.unwrap_or-texts.result.now
    (c.if-not-has_link.ensures.some refl) c.word_in-listen.ensures all c.in-Some.ensures c.in-Ok.ensures.texts
