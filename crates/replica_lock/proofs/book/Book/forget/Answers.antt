use Rattle.std.proofs.Common.{◌≡◌, ◌-◌, ◌≤◌, length, drop, length-drop, ap, arith}
use Rattle.replica_lock.proofs.HistoryLemmas.{summary_after_forget}
use Rattle.replica_lock.proofs.book.Book.forget.Goals as goal

pub invariant_of-self : goal.invariant_of-self
invariant_of-self c =
    let old = c.self.inside.journal.items in
    let new = c.forget.new.self.items in
    let n = c.min-count.result in
    let few : n ≤ length old = omega (arith, c.min-count.ensures, c.self.invariant.entries) in
    let fewer : length new ≡ length (drop n old) = ap length c.forget.ensures.items in
    let rest : length (drop n old) ≡ length old - n = length-drop n old in
    record {
      from_one = c.self.invariant.from_one;
      history = summary_after_forget c.self.inside.node.state c.self.inside.forgotten_count n c.self.inside.summary old new few c.forget.ensures.items c.self.invariant.history;
      entries = omega (arith, few, fewer, rest, c.self.invariant.entries);
      counted = c.self.invariant.counted;
      closes = omega (arith, c.self.invariant.closes, c.forget.ensures.room);
      places = c.self.invariant.places;
    }
