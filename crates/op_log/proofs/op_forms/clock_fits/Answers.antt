use Rattle.std.proofs.Common.{ℕ, ◌≤◌, List, subst}
use Rattle.crdt_ops.specs.Form.{Each, IsReplica}
use Rattle.op_log.proofs.FormLemmas.{entries_count}
use Rattle.op_log.proofs.op_forms.clock_fits.Goals as goal

pub returns-clause-entries : goal.returns-clause-entries
returns-clause-entries c =
    let small = subst (λ (entries : List (ℕ × ℕ)). Each (λ (entry : ℕ × ℕ). IsReplica entry.0 × (entry.1 ≤ 4294967295)) entries) c.entries.ensures.entries c.entries_fit.ensures in
    entries_count 1 c.args.clock.now c.entries.ensures.is_clock small
