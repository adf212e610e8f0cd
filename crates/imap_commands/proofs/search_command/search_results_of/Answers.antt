use Rattle.std.proofs.Common.{List, ap, map, subst, sym, ◌∙◌}
use Rattle.std.proofs.lemmas.Result.{IfOk-weaker}
use Rattle.imap_types.specs.Numbers.{AreRisingFrom}
use Rattle.imap_query.specs.Search.{asks_modseq, hits_in, number_or_uid, results_of}
use Rattle.imap_query.specs.declared.viewed_message.ViewedMessage.{ViewedMessage}
use Rattle.imap_commands.specs.Arguments.{OpenMailbox}
use Rattle.imap_commands.specs.SearchCommand.{IsSearchResult, viewed_messages_from}
use Rattle.imap_commands.proofs.NamedLemmas.{all_viewed_messages_rising}
use Rattle.imap_commands.proofs.search_command.search_results_of.Goals as goal
use Rattle.imap_syntax.specs.declared.search.SearchOption.{SearchOption}

pub search-requires : goal.search-requires
search-requires c =
    subst (λ (shown : List ViewedMessage). AreRisingFrom 1 (map (number_or_uid c.args.request.now.by_uid) shown)) (sym (c.deref.ensures.value ∙ c.in_ok-shown.ensures {u = tt} ∙ ap (viewed_messages_from 1) c.entries.ensures.entries))
    (all_viewed_messages_rising c.args.request.now.by_uid c.mailbox.inside.view.now.entries c.entries.ensures.rising)

pub returns : goal.returns
returns c =
    let m = c.mailbox.inside in
    let a = c.args.request.now in
    let k = c.as_slice-steps.ensures.key in
    let shown = c.deref.ensures.value ∙ c.in_ok-shown.ensures {u = tt} ∙ ap (viewed_messages_from 1) c.entries.ensures.entries in
    IfOk-weaker c.search.result _ _
    (λ results h.
    subst (λ (mailbox : OpenMailbox). IsSearchResult mailbox c.args.request.now results) c.mailbox.view_is
    (record {
      key = k.key;
      steps_are = k.steps_are;
      results_are =
          h k.key (c.as_slice-steps.ensures.steps ∙ k.steps_are)
          ∙ ap (λ (named : List ViewedMessage). results_of c.as_slice.result.now (asks_modseq k.key) (hits_in a.by_uid k.key m.rows named)) shown
          ∙ ap (λ (options : List SearchOption). results_of options (asks_modseq k.key) (hits_in a.by_uid k.key m.rows (viewed_messages_from 1 m.view.now.entries))) c.as_slice.ensures;
    }))
    c.search.ensures
