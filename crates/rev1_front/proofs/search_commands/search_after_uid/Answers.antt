use Rattle.std.proofs.Common.{codes}
use Rattle.rev1_front.proofs.ClientLemmas.{after_space_by}
use Rattle.rev1_front.proofs.AuthenticateLemmas.{spaced_front}
use Rattle.rev1_front.proofs.search_commands.search_after_uid.Goals as goal

pub returns-in-None : goal.returns-in-None
returns-in-None c = λ front back h e n. c.in-None.ensures _ (spaced_front (codes "SEARCH") c.args.rest.now front back h e)

pub returns-in-Some : goal.returns-in-Some
returns-in-Some c = after_space_by (λ x. x.now) c.args.rest.now c.in-Some.rest.now c.in-Some.ensures c.after_search.result c.after_search.ensures
