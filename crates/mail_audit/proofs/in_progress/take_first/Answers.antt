use Rattle.std.proofs.Common.{◌∙◌, rules}
use Rattle.mail_audit.proofs.RunningLemmas.{stored_elsewhere}
use Rattle.mail_audit.proofs.in_progress.take_first.Goals as goal

pub returns-in_err-number-clause-others : goal.returns-in_err-number-clause-others
returns-in_err-number-clause-others c =
    let now = c.pop_front.new.self in
    let updated = (c.get_mut.follows.holds now).3 (search rules) in
    stored_elsewhere c.args.tag.now c.args.numbers.now.entries (c.get_mut.follows.lender now).entries updated.3

pub returns-then-is_empty-clause-others : goal.returns-then-is_empty-clause-others
returns-then-is_empty-clause-others c = λ other apart.
    let now = c.pop_front.new.self in
    let updated = (c.get_mut.follows.holds now).3 (search rules) in
    let mid = (c.get_mut.follows.lender now).entries in
    stored_elsewhere c.args.tag.now mid c.swap_remove.new.self.entries c.swap_remove.ensures.updates.3 other apart
    ∙ stored_elsewhere c.args.tag.now c.args.numbers.now.entries mid updated.3 other apart

pub returns-else-is_empty-clause-others : goal.returns-else-is_empty-clause-others
returns-else-is_empty-clause-others c =
    let now = c.pop_front.new.self in
    let updated = (c.get_mut.follows.holds now).3 (search rules) in
    stored_elsewhere c.args.tag.now c.args.numbers.now.entries (c.get_mut.follows.lender now).entries updated.3
