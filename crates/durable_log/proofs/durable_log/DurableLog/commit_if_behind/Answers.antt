use Rattle.durable_log.proofs.LogLemmas.{entries_unchanged, entries_with_commit, on_ok}
use Rattle.durable_log.proofs.durable_log.DurableLog.commit_if_behind.Goals as goal

pub returns-then-self-2-clause-ok : goal.returns-then-self-2-clause-ok
returns-then-self-2-clause-ok g c = λ replica synced_entries entries h. entries_unchanged g.D.LogDevice.state replica c.args.self.now synced_entries entries h c.if-self-2.true

pub returns-clause-ok : goal.returns-clause-ok
returns-clause-ok g c = λ replica synced_entries entries h.
    on_ok c.append.result (λ new. entries_with_commit g.D.LogDevice.state replica c.args.self.now c.append.new.self synced_entries entries c.if-self-2.false new) (c.append.ensures.ok replica synced_entries entries h)
