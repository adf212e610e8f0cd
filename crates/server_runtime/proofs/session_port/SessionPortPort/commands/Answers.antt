use Rattle.std.proofs.Common.{◌≡◌, ◌≤◌, ℕ, refl, sym, subst, arith, rules}
use Rattle.imap_connection.specs.Batches.{CarriesCommands}
use Rattle.imap_connection.specs.declared.fault.PortFault.TheVariants.{ServerEnded, Torn}
use Rattle.server_runtime.specs.Calls.{StepsByCall, stores}
use Rattle.server_runtime.proofs.CallLemmas.{carries_by_port, carries_from, refused_by_port}
use Rattle.server_runtime.proofs.session_port.SessionPortPort.commands.Goals as goal

pub returns-then-is_some : goal.returns-then-is_some
returns-then-is_some g c = refused_by_port (λ s. stores s.context.now.store) c.args.self.now _ (λ s. s.at) c.args.commands.items c.args.replies.now.items ServerEnded c.requires.some c.requires.none refl

pub returns-then-not-knows : goal.returns-then-not-knows
returns-then-not-knows g c = refused_by_port (λ s. stores s.context.now.store) c.args.self.now _ (λ s. s.at) c.args.commands.items c.args.replies.now.items Torn c.requires.some c.requires.none refl

pub returns : goal.returns
returns g c =
    let same : c.deref.result.now.seen ≡ c.deref_mut.result.now.seen = search rules in
    let own : c.args.self.now.at.session ≡ c.deref_mut.result.now.session = search rules in
    let low : c.args.self.now.at.seen ≤ c.deref_mut.result.now.seen = omega (arith, c.if-not-knows.ensures.seen, same) in
    let high : c.seen-self.result ≡ c.commands_in-response.new.pass.seen = search rules in
    let all = c.args.commands.items in
    let replies = c.commands_in-response.new.replies.items in
    let response = c.commands_in-response.result in
    let exact = carries_from (stores c.args.self.now.context.now.store) all replies response c.args.self.now.at c.deref_mut.result.now c.commands_in-response.new.pass c.requires.some own low c.commands_in-response.ensures in
    carries_by_port (λ s. stores s.context.now.store) c.args.self.now _ (λ s. s.at) (λ s x. record s { at = x }) (λ s x. refl) (λ s. refl) (λ s x. refl) refl all replies response c.requires.some
    (subst (λ (n : ℕ). CarriesCommands (StepsByCall (stores c.args.self.now.context.now.store)) c.args.self.now.at all replies response (record { session = c.args.self.now.at.session; seen = n })) (sym high) exact)
