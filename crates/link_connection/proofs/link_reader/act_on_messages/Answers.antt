use Rattle.std.proofs.Common.{◌≡◌, ◌++◌, ◌∷◌, [], List, refl, sym, ap, ◌∙◌, append_assoc}
use Rattle.link_wire.specs.declared.wire_message.WireMessage.{WireMessage}
use Rattle.link_connection.proofs.MessageLemmas.{acted_more}
use Rattle.link_connection.proofs.link_reader.act_on_messages.Goals as goal

pub returns-then-not-act : goal.returns-then-not-act
returns-then-not-act g c =
    let at = c.loop-message in
    let rest = c.next.new.self.rest.items in
    let next : at.message-iterator.rest.items ≡ c.in-Some.message ∷ rest = (c.in-Some.ensures {u = tt}).steps.0 in (
      refl,
      record {
        front = at.yielded;
        message = c.in-Some.message;
        back = rest;
        between = at.receiver;
        messages_are = at.invariant.1 ∙ ap (λ (messages : List WireMessage). at.yielded ++ messages) next;
        acted = at.invariant.0;
        stops = c.if-not-act.ensures;
      },
    )

pub loop-message-preserved : goal.loop-message-preserved
loop-message-preserved g c =
    let at = c.loop-message in
    let rest = c.next.new.self.rest.items in
    let next : at.message-iterator.rest.items ≡ c.in-Some.message ∷ rest = (c.in-Some.ensures {u = tt}).steps.0 in (
      acted_more g.R.Receiver.acts c.args.receiver.now at.receiver c.act.new.self at.yielded c.in-Some.message at.invariant.0 c.if-not-act.ensures,
      at.invariant.1 ∙ ap (λ (messages : List WireMessage). at.yielded ++ messages) next ∙ sym (append_assoc at.yielded (c.in-Some.message ∷ []) rest),
    )
