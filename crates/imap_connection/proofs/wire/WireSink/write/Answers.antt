use Rattle.imap_connection.proofs.WireLemmas.{took_some}
use Rattle.imap_connection.proofs.wire.WireSink.write.Goals as goal

pub returns-then-sent-octets-clause-octets : goal.returns-then-sent-octets-clause-octets
returns-then-sent-octets-clause-octets g c = took_some (g.T.Write.contents c.args.self.now.device) (g.T.Write.contents c.send-sent.new.device) c.args.octets.now c.send-sent.result c.send-sent.ensures.taken
