use Rattle.std.proofs.Common.{◌≡◌, ◌++◌, ◌+◌, ◌≤◌, length, vec_capacity}
use Rattle.std.specs.Prelude.{vec_len}
use Rattle.imap_commands.specs.SearchCommand.{viewed_messages_from}
use Rattle.imap_commands.proofs.search_command.all_viewed_messages.Given as goal

abbrev pub invariant-loop-entry : goal.invariant-loop-entry
invariant-loop-entry l =
    record {
      number : l.number + length l.entry-iterator ≡ length l.view.items;
      len : vec_len l.shown ≡ l.number;
      room : length l.view.items ≤ vec_capacity l.shown;
      shown : l.shown.items ++ viewed_messages_from (l.number + 1) l.entry-iterator ≡ viewed_messages_from 1 l.view.items;
    }
