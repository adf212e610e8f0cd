use Rattle.imap_grammar.proofs.SearchLaws.{keys_are}
use Rattle.imap_grammar.proofs.search_args.key.Goals as goal

pub new-requires : goal.new-requires
new-requires c = keys_are c.args.octets.now (c.in_ok-steps.steps.items, c.in_ok-steps.rest.now) (c.in_ok-steps.ensures {u = tt})
