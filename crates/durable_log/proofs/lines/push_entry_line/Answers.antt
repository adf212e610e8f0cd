use Rattle.std.proofs.Common.{List, ℕ, ◌++◌, ◌∙◌, ap, subst, sym}
use Rattle.op_log.specs.Entries.{entry_text}
use Rattle.op_log.specs.Lines.{IsText}
use Rattle.op_log.proofs.EntryLemmas.{entry_is_text}
use Rattle.durable_log.proofs.lines.push_entry_line.Goals as goal

pub push_line-requires : goal.push_line-requires
push_line-requires c =
    let text = c.deref.ensures.value ∙ c.in_ok-push_entry.ensures.ok ∙ ap (λ (xs : List ℕ). xs ++ entry_text c.args.entry.now) c.new-text.ensures.items in
    subst IsText (sym text) (entry_is_text c.args.entry.now c.requires)
