use Rattle.std.proofs.Common.{[], false, inl, inr, refl, subst, sym}
use Rattle.imap_syntax.specs.declared.command.Command.TheVariants as commands
use Rattle.replica_lock.specs.Passes.{PassState}
use Rattle.rev1_rename.proofs.CallLemmas.{at_fault, at_most_deletes_nothing, given_any}
use Rattle.rev1_rename.proofs.EmptyLemmas.{IsMiddleTo, emptied, not_left, not_moved}
use Rattle.rev1_rename.proofs.mailbox_steps.empty.Goals as goal
use Rattle.rev1_rename.proofs.mailbox_steps.empty.Goals.{else-has_messages, then-has_messages+in_ok-move_all}

pub returns-in_err-selected : goal.returns-in_err-selected
returns-in_err-selected g c =
    let command = commands.Select c.in_ok-copy.field-0 false in
    let given = given_any command c.give.result c.args.pass.now c.give.new.pass c.give.ensures in
    (given.0, given.1, at_most_deletes_nothing command given.0 refl given.2, at_fault c.from_residual-in_err-selected.result _ _ c.from_residual-in_err-selected.ensures.1)

pub returns-in_err-move_all : goal.returns-in_err-move_all
returns-in_err-move_all g c =
    let moved = c.move_all.ensures in
    let it = not_moved c.args.mailbox.now c.in_ok-copy.field-0 c.in_ok-selected.selected c.args.pass.now c.give.new.pass c.in_ok-copy.ensures c.in_ok-selected.ensures.1 c.move_all.new.pass moved.0 moved.1 moved.2 in
    (it.0, it.1, it.2, at_fault c.from_residual-in_err-move_all.result _ _ c.from_residual-in_err-move_all.ensures.1)

pub returns-in_err-left : goal.returns-in_err-left
returns-in_err-left g c =
    let m = c.args.mailbox.now in
    let selected = c.in_ok-selected.selected in
    let middle : IsMiddleTo m selected c.give.new.pass c.if-has_messages.pass =
    elim c.if-has_messages.branch [
      | then-has_messages+in_ok-move_all w ↦ subst (λ (r : PassState). IsMiddleTo m selected c.give.new.pass r) (sym w.pass-is) (w.in_ok-move_all.ensures.0, w.in_ok-move_all.ensures.1, inr w.in_ok-move_all.ensures.3)
      | else-has_messages w ↦ subst (λ (r : PassState). IsMiddleTo m selected c.give.new.pass r) (sym w.pass-is) ([], refl, inl (sym w.if-has_messages.ensures, refl))
    ]
    in
    let it = not_left m c.in_ok-copy.field-0 selected c.args.pass.now c.give.new.pass c.in_ok-copy.ensures c.in_ok-selected.ensures.1 c.if-has_messages.pass c.give-2.new.pass c.give-2.result middle c.give-2.ensures in
    (it.0, it.1, it.2, at_fault c.from_residual-in_err-left.result _ _ c.from_residual-in_err-left.ensures.1)

pub returns : goal.returns
returns g c =
    let m = c.args.mailbox.now in
    let selected = c.in_ok-selected.selected in
    let middle : IsMiddleTo m selected c.give.new.pass c.if-has_messages.pass =
    elim c.if-has_messages.branch [
      | then-has_messages+in_ok-move_all w ↦ subst (λ (r : PassState). IsMiddleTo m selected c.give.new.pass r) (sym w.pass-is) (w.in_ok-move_all.ensures.0, w.in_ok-move_all.ensures.1, inr w.in_ok-move_all.ensures.3)
      | else-has_messages w ↦ subst (λ (r : PassState). IsMiddleTo m selected c.give.new.pass r) (sym w.pass-is) ([], refl, inl (sym w.if-has_messages.ensures, refl))
    ]
    in
    emptied m c.in_ok-copy.field-0 selected c.args.pass.now c.give.new.pass c.in_ok-copy.ensures c.in_ok-selected.ensures.1 c.if-has_messages.pass c.give-2.new.pass c.in_ok-left.left c.in_ok-selected.ensures.0 middle c.in_ok-left.ensures
