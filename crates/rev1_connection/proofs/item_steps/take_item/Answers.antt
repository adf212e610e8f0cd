use Rattle.std.proofs.Common.{◌≡◌, ◌++◌, ◌∙◌, ℕ, List, ap, sym, subst}
use Rattle.std.specs.Prelude.{IfErr, IfOk}
use Rattle.imap_lex.specs.declared.item.Item.{Item}
use Rattle.imap_lex.specs.declared.item.Item.TheVariants.{Frame, Refused}
use Rattle.rev1_connection.specs.Handling.{HandlesItem, StopsAt}
use Rattle.rev1_connection.specs.TakingSteps.{Takes}
use Rattle.rev1_connection.proofs.item_steps.take_item.Goals as goal

pub returns-in-Frame-clause-ok : goal.returns-in-Frame-clause-ok
returns-in-Frame-clause-ok g c =
    let new = c.take_frame.new in
    let is : c.args.item.now ≡ Frame c.bytes.result.now = c.in-Frame.is ∙ ap Frame (sym c.bytes.ensures) in
    subst (λ (item : Item). IfOk c.take_frame.result (λ u. Takes (HandlesItem g.P.Port.steps g.P.RenamePort.renames c.args.port.now c.args.session.now item) u c.args.text.now.items new.port new.session new.text.items)) (sym is) c.take_frame.ensures.ok

pub returns-in-Frame-clause-err : goal.returns-in-Frame-clause-err
returns-in-Frame-clause-err g c =
    let new = c.take_frame.new in
    let is : c.args.item.now ≡ Frame c.bytes.result.now = c.in-Frame.is ∙ ap Frame (sym c.bytes.ensures) in
    subst (λ (item : Item). IfErr c.take_frame.result (λ ended. (given : List ℕ) × StopsAt g.P.Port.steps g.P.RenamePort.renames c.args.port.now c.args.session.now item ended given new.port × (new.text.items ≡ c.args.text.now.items ++ given))) (sym is) c.take_frame.ensures.err

pub returns-in-Refused-clause-ok : goal.returns-in-Refused-clause-ok
returns-in-Refused-clause-ok g c =
    let new = c.take_refused.new in
    let is : c.args.item.now ≡ Refused c.bytes-in-Refused.result.now = c.in-Refused.is ∙ ap Refused (sym c.bytes-in-Refused.ensures) in
    subst (λ (item : Item). IfOk c.take_refused.result (λ u. Takes (HandlesItem g.P.Port.steps g.P.RenamePort.renames c.args.port.now c.args.session.now item) u c.args.text.now.items new.port new.session new.text.items)) (sym is) c.take_refused.ensures.ok

pub returns-in-Refused-clause-err : goal.returns-in-Refused-clause-err
returns-in-Refused-clause-err g c =
    let new = c.take_refused.new in
    let is : c.args.item.now ≡ Refused c.bytes-in-Refused.result.now = c.in-Refused.is ∙ ap Refused (sym c.bytes-in-Refused.ensures) in
    subst (λ (item : Item). IfErr c.take_refused.result (λ ended. (given : List ℕ) × StopsAt g.P.Port.steps g.P.RenamePort.renames c.args.port.now c.args.session.now item ended given new.port × (new.text.items ≡ c.args.text.now.items ++ given))) (sym is) c.take_refused.ensures.err
