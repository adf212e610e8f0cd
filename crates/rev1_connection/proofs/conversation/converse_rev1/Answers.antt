use Rattle.std.proofs.Common.{◌≡◌, ℕ, List, inl, inr, refl, rules, [], ap, ◌∙◌, subst, ◌++◌}
use Rattle.imap_connection.specs.EndReasons.{bye_text_of, failed_writes}
use Rattle.imap_connection.specs.Conversations.{IsWritten}
use Rattle.imap_connection.specs.declared.end_reason.Ended.{Ended}
use Rattle.imap_connection.proofs.ConversationsLemmas.{all_written, port_writes}
use Rattle.rev1_connection.proofs.conversation.converse_rev1.Goals as goal

pub returns-in-Err-clause-conversation : goal.returns-in-Err-clause-conversation
returns-in-Err-clause-conversation g c =
    let fault = c.in-Err.fault in
    let none : c.new.result.items ≡ [] = search rules in
    let written = c.write_last.ensures.written (ap failed_writes c.end_reason_of.ensures ∙ port_writes fault) in
    let taken = g.K.Sink.taken c.args.sink.now in
    let after = g.K.Sink.taken c.write_last.new.sink in
    let P : Ended → List ℕ → Type 0 = λ ended text. IsWritten ended (text ++ bye_text_of ended) c.write_last.result taken after in
    inl (fault, c.in-Err.ensures, refl, subst (λ (ended : Ended). P ended []) c.end_reason_of.ensures (subst (P c.end_reason_of.result) none written))

pub returns-clause-conversation : goal.returns-clause-conversation
returns-clause-conversation g c =
    let all = c.hold_conversation-ended.ensures.conversation in
    let ended = c.hold_conversation-ended.result.0 in
    inr (
      c.in-Ok.login,
      c.open.new.self,
      c.hold_conversation-ended.new.port,
      all.0,
      ended,
      all.1,
      c.in-Ok.ensures,
      c.close.ensures,
      all.2,
      all.3,
      all_written ended c.write_last-2.result (g.K.Sink.taken c.args.sink.now) (g.K.Sink.taken c.hold_conversation-ended.new.sink) (g.K.Sink.taken c.write_last-2.new.sink) all.1 c.hold_conversation-ended.result.1.items (bye_text_of ended)
          all.4 c.write_last-2.ensures.written c.write_last-2.ensures.failed,
    )
