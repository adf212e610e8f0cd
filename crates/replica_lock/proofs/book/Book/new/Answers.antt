use Rattle.std.proofs.Common.{◌≡◌, ℕ, List, length, ap, subst, sym, arith}
use Rattle.imap_node.specs.Nodes.{NodeState}
use Rattle.replica_lock.specs.Histories.{HasSummary, open_count}
use Rattle.replica_lock.specs.declared.book.JournalEntry.{JournalEntry}
use Rattle.replica_lock.proofs.HistoryLemmas.{summary_of_none}
use Rattle.replica_lock.proofs.book.Book.new.Goals as goal

pub invariant_of-result : goal.invariant_of-result
invariant_of-result c =
    let none : length c.new.result.items ≡ 0 = ap length c.new.ensures in
    record {
      from_one = c.requires.from_one;
      history = subst (λ (es : List JournalEntry). HasSummary (record { node = c.args.node.state; forgotten_count = 0; journal = es }) c.new-2.result) (sym c.new.ensures)
          (summary_of_none c.args.node.state c.new-2.result c.requires.unused c.new-2.ensures.last_visible c.new-2.ensures.sessions c.new-2.ensures.commands);
      entries = omega (arith, none);
      counted = ap (λ (s : NodeState). open_count s.sessions) (sym c.requires.unused);
      closes = omega arith;
      places = omega arith;
    }
