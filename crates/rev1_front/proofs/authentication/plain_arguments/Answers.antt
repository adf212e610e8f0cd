use Rattle.std.proofs.Common.{codes}
use Rattle.rev1_front.proofs.AuthenticateLemmas.{no_space, spaced_found}
use Rattle.rev1_front.proofs.authentication.plain_arguments.Goals as goal

pub returns-in-None : goal.returns-in-None
returns-in-None c = no_space (codes "PLAIN") c.args.rest.now c.in-None.ensures

pub returns-in-Some : goal.returns-in-Some
returns-in-Some c = spaced_found (λ x. x.now) (codes "PLAIN") c.args.rest.now c.in-Some.rest.now c.in-Some.ensures c.after_prefix.result c.after_prefix.ensures
