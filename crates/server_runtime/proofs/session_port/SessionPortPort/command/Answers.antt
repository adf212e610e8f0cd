use Rattle.std.proofs.Common.{◌≡◌, ◌≤◌, refl, arith, rules}
use Rattle.imap_connection.specs.PortCalls as calls
use Rattle.server_runtime.specs.Calls.{stores}
use Rattle.server_runtime.proofs.CallLemmas.{seen_after_command, steps_by_call}
use Rattle.server_runtime.proofs.session_port.SessionPortPort.command.Goals as goal

pub returns : goal.returns
returns g c =
    let same : c.deref.result.now.seen ≡ c.deref_mut.result.now.seen = search rules in
    let own : c.args.self.now.at.session ≡ c.deref_mut.result.now.session = search rules in
    let low : c.args.self.now.at.seen ≤ c.deref_mut.result.now.seen = omega (arith, c.if-not-knows.ensures.seen, same) in
    let high : c.seen-self.result ≡ c.command_in-response.new.pass.seen = search rules in
    let on = seen_after_command c.deref_mut.result.now c.command_in-response.new.pass c.args.tagged c.command_in-response.ensures.once in
    steps_by_call (stores c.args.self.now.context.now.store) (calls.Command c.args.tagged) c.args.self.now.at (record { session = c.args.self.now.at.session; seen = c.seen-self.result }) c.command_in-response.result c.deref_mut.result.now c.command_in-response.new.pass (own, low, refl, high) on c.command_in-response.ensures.response
