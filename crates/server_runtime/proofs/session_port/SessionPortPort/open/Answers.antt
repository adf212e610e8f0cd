use Rattle.std.proofs.Common.{◌≡◌, ◌≤◌, arith, rules}
use Rattle.server_runtime.proofs.CallLemmas.{opens_by_call}
use Rattle.server_runtime.proofs.session_port.SessionPortPort.open.Goals as goal

pub returns : goal.returns
returns g c =
    let same : c.deref.result.now.seen ≡ c.deref_mut.result.now.seen = search rules in
    let low : c.args.self.now.at.seen ≤ c.deref_mut.result.now.seen = omega (arith, c.if-seen-self.false, c.seen.ensures, same) in
    let session : c.session.result ≡ c.open_in-response.new.pass.session = search rules in
    let high : c.seen-2.result ≡ c.open_in-response.new.pass.seen = search rules in
    opens_by_call c.args.self.now.context.now.server.now.access c.args.self.now.at (record { session = c.session.result; seen = c.seen-2.result }) c.open_in-response.result c.deref_mut.result.now c.open_in-response.new.pass (low, session, high) c.open_in-response.ensures.response
