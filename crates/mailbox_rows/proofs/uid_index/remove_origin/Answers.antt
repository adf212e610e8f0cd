use Rattle.mailbox_rows.proofs.uid_index.remove_origin.Goals as goal

pub returns-clause-lookups : goal.returns-clause-lookups
returns-clause-lookups c = λ i. c.swap_remove.ensures.updates.0 i
