use Rattle.std.proofs.Common.{◌≡◌, ◌++◌, take}
use Rattle.imap_connection.proofs.memory_io.MemorySinkSink.write.Given as goal

abbrev pub invariant-loop-octet : goal.invariant-loop-octet
invariant-loop-octet l =
    record {
      octets : l.self.octets.items ≡ l.fn.self.octets.items ++ take l.octet-index l.octets;
      failed : l.self.failed ≡ l.fn.self.failed;
    }
