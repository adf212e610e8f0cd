use Rattle.std.proofs.Common.{◌≡◌, false, ◌++◌, Ok, length, vec_capacity}
use Rattle.std.specs.Prelude.{IsSome, vec_len}
use Rattle.std.specs.Vec.Iter.{into_iter_items, into_iter_len}
use Rattle.imap_connection.specs.Batches.{CarriesCommands}
use Rattle.server_runtime.specs.Calls.{StepsOnce}
use Rattle.server_runtime.proofs.session_port.give_all.Given as goal

abbrev pub invariant-loop-tagged : goal.invariant-loop-tagged
invariant-loop-tagged g l =
    record {
      carried : CarriesCommands (StepsOnce false) l.initial.pass l.yielded l.replies.items (Ok tt) l.pass;
      session : IsSome l.pass.session;
      rest : l.fn.commands.items ≡ l.yielded ++ into_iter_items l.tagged-iterator;
      left : into_iter_len l.tagged-iterator ≡ length (into_iter_items l.tagged-iterator);
      len : vec_len l.replies ≡ length l.yielded;
      capacity : vec_capacity l.replies ≡ vec_capacity l.initial.replies;
    }
