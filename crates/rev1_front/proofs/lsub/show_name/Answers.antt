use Rattle.std.proofs.Common.{subst}
use Rattle.rev1_front.specs.LsubSteps.{IsEntry}
use Rattle.rev1_front.specs.declared.lsub.LsubEntry.{LsubEntry}
use Rattle.rev1_front.proofs.LsubLemmas.{level_by, nothing_by, own_by}
use Rattle.rev1_front.proofs.lsub.show_name.Goals as goal

pub returns-in-Own-clause-ok : goal.returns-in-Own-clause-ok
returns-in-Own-clause-ok c =
    own_by c.print_lsub.result c.args.query.mode c.args.query.pattern.now c.args.query.answers.now c.args.name.now c.args.state c.args.text.now.items c.print_lsub.new.text.items c.args.levels.now.items c.is_absent.result c.is_absent.ensures
    (subst (λ (e : LsubEntry). IsEntry c.args.query.pattern.now c.args.name.now e) c.in-Own.is c.in_ok-shown_entry.ensures)
    c.print_lsub.ensures.ok

pub returns-in-Nothing-clause-ok : goal.returns-in-Nothing-clause-ok
returns-in-Nothing-clause-ok c =
    nothing_by c.args.query.mode c.args.query.pattern.now c.args.query.answers.now c.args.name.now c.args.state c.args.text.now.items c.args.levels.now.items
    (subst (λ (e : LsubEntry). IsEntry c.args.query.pattern.now c.args.name.now e) c.in-Nothing.is c.in_ok-shown_entry.ensures)

pub returns-in-Level-clause-ok : goal.returns-in-Level-clause-ok
returns-in-Level-clause-ok c =
    level_by c.show_level.result c.args.query.mode c.args.query.pattern.now c.args.query.answers.now c.args.name.now c.args.state c.args.text.now.items c.show_level.new.text.items c.args.levels.now.items c.in-Level.level c.show_level.new.levels.items
    (subst (λ (e : LsubEntry). IsEntry c.args.query.pattern.now c.args.name.now e) c.in-Level.is c.in_ok-shown_entry.ensures)
    c.show_level.ensures.ok
