use Rattle.std.proofs.Common.{◌≡◌, ◌++◌, ◌+◌, drop}
use Rattle.imap_types.specs.Numbers.{AreRisingFrom, greatest}
use Rattle.imap_commands.proofs.named_messages.set_of.Given as goal

abbrev pub invariant-loop-number : goal.invariant-loop-number
invariant-loop-number l =
    (l.set ++ drop l.number-index l.numbers ≡ l.numbers) × AreRisingFrom (greatest l.set + 1) (drop l.number-index l.numbers)
