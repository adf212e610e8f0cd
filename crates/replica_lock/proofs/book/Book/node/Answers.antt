use Rattle.std.proofs.Common.{subst}
use Rattle.replica_lock.specs.Histories.{HasPast}
use Rattle.replica_lock.proofs.HistoryLemmas.{journal_leads, past_of_summary}
use Rattle.replica_lock.proofs.book.Book.node.Goals as goal

pub returns-clause-whole : goal.returns-clause-whole
returns-clause-whole c = λ none.
    let h : HasPast c.args.self.now = subst HasPast c.self.view_is (past_of_summary _ c.self.inside.summary c.self.invariant.history) in
    journal_leads c.args.self.now none h
