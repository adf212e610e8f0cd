use Rattle.std.proofs.Common.{refl}
use Rattle.rev1_front.proofs.LsubLemmas.{name_by, other_by}
use Rattle.rev1_front.proofs.lsub.show_answer.Goals as goal

pub returns-in-None-clause-ok : goal.returns-in-None-clause-ok
returns-in-None-clause-ok c =
    other_by c.print_other.result c.args.query.mode c.args.query.pattern.now c.args.query.answers.now c.args.answer.now c.args.text.now.items c.print_other.new.text.items c.args.levels.now.items c.args.levels.now.items c.in-None.ensures refl c.print_other.ensures.ok

pub returns-in-Some-clause-ok : goal.returns-in-Some-clause-ok
returns-in-Some-clause-ok c =
    let f = c.in-Some.ensures in
    name_by c.show_name.result c.args.query.mode c.args.query.pattern.now c.args.query.answers.now c.args.answer.now c.args.text.now.items c.show_name.new.text.items c.args.levels.now.items c.show_name.new.levels.items c.in-Some.name.now c.in-Some.state f.0 f.1 c.show_name.ensures.ok
