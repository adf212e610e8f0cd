use Rattle.std.proofs.Common.{inl, inr}
use Rattle.imap_node.proofs.change_notes.notes_after.Goals as goal

pub returns : goal.returns
returns c =
    let touched = c.in_ok-push_changed_notes.ensures {u = tt} in
    let new = c.in_ok-push_new.ensures {u = tt} in
    inl (
      c.is_same.ensures c.if-not-is_same.false,
      λ uid i. new uid (inl (touched uid (inr i))),
      λ uid l m. new uid (inr (l, m)),
    )
