use Rattle.std.proofs.Common.{inl, inr, sym, ◌∙◌}
use Rattle.mail_audit.proofs.expected_lines.apply.Goals as goal

pub returns-in-Ok : goal.returns-in-Ok
returns-in-Ok c = λ o h.
    let grown = c.delivery_is_received.ensures.union c.args.inbox.now.received c.deliver.new.self.received c.in_ok-copy.copy c.in-Ok.field-0.arrival c.in-Ok.ensures.answer o in
    elim (grown.0 h) [ inl t ↦ inl t | inr e ↦ inr (sym e ∙ c.in_ok-copy.ensures) ]
