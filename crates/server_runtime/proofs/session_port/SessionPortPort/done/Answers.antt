use Rattle.std.proofs.Common.{◌≡◌, ◌≤◌, refl, arith, rules}
use Rattle.imap_connection.specs.PortCalls as calls
use Rattle.server_runtime.specs.Calls.{stores}
use Rattle.server_runtime.proofs.CallLemmas.{seen_after_line, steps_by_call}
use Rattle.server_runtime.proofs.session_port.SessionPortPort.done.Goals as goal

pub returns : goal.returns
returns g c =
    let same : c.deref.result.now.seen ≡ c.deref_mut.result.now.seen = search rules in
    let own : c.args.self.now.at.session ≡ c.deref_mut.result.now.session = search rules in
    let low : c.args.self.now.at.seen ≤ c.deref_mut.result.now.seen = omega (arith, c.if-not-knows.ensures.seen, same) in
    let high : c.seen-self.result ≡ c.line_in-response.new.pass.seen = search rules in
    let on = seen_after_line c.deref_mut.result.now c.line_in-response.new.pass c.args.line c.line_in-response.ensures.once in
    steps_by_call (stores c.args.self.now.context.now.store) (calls.Line c.args.line) c.args.self.now.at (record { session = c.args.self.now.at.session; seen = c.seen-self.result }) c.line_in-response.result c.deref_mut.result.now c.line_in-response.new.pass (own, low, refl, high) on c.line_in-response.ensures.response
