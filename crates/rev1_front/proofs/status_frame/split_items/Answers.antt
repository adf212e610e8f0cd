use Rattle.rev1_front.proofs.StatusLemmas.{no_end, split_cut}
use Rattle.rev1_front.proofs.status_frame.split_items.Goals as goal

pub returns-in-None : goal.returns-in-None
returns-in-None c = no_end c.args.rest.now c.in-None.ensures

pub returns-in-Some : goal.returns-in-Some
returns-in-Some c = split_cut (λ x. x.0.now) (λ x. x.1.now) c.args.rest.now c.in-Some.text.now c.in-Some.ensures c.cut_at_last_parenthesis.result c.cut_at_last_parenthesis.ensures
