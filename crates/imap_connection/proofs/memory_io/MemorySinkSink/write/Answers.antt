use Rattle.std.proofs.Common.{Some, take, drop, ap, sym, ◌∙◌}
use Rattle.std.proofs.lemmas.List.{take-append-drop}
use Rattle.imap_connection.proofs.memory_io.MemorySinkSink.write.Goals as goal

pub returns-then-not-put-clause-octets : goal.returns-then-not-put-clause-octets
returns-then-not-put-clause-octets c =
    let i = c.loop-octet.octet-index in
    let octets = c.args.octets.now in
    (take i octets, drop i octets, sym (take-append-drop i octets), ap Some (c.if-not-put.ensures.taken ∙ c.loop-octet.invariant.octets))
