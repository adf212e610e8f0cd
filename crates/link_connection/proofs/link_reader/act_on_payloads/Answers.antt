use Rattle.std.proofs.Common.{◌≡◌, ◌++◌, ◌∷◌, [], List, ℕ, sym, ap, ◌∙◌, subst, append_assoc}
use Rattle.link_wire.specs.declared.wire_message.WireMessage.{WireMessage}
use Rattle.link_connection.specs.Received.{AreActedOn, AreRead, EndsAtPayload}
use Rattle.link_connection.proofs.MessageLemmas.{acts_more, match_err}
use Rattle.link_connection.proofs.link_reader.act_on_payloads.Goals as goal

pub returns-in_err-act_on_payload : goal.returns-in_err-act_on_payload
returns-in_err-act_on_payload g c =
    let at = c.loop-payload in
    let rest = c.next.new.self.rest.items in
    let next : at.payload-iterator.rest.items ≡ c.in-Some.payload ∷ rest = (c.in-Some.ensures {u = tt}).steps.0 in
    match_err c.from_residual.result c.in_err-act_on_payload.field-0.0 _ _ c.from_residual.ensures.1 (record {
      front = at.yielded;
      payload = c.in-Some.payload;
      back = rest;
      between = at.receiver;
      payloads_are = at.invariant.1 ∙ ap (λ (payloads : List (List ℕ)). at.yielded ++ payloads) next;
      acted = at.invariant.0;
      ends = subst (λ (text : List ℕ). EndsAtPayload g.R.Receiver.acts c.in_err-act_on_payload.field-0.0 at.receiver text c.act_on_payload.new.receiver) c.as_bytes.ensures c.in_err-act_on_payload.ensures;
    })

pub loop-payload-preserved : goal.loop-payload-preserved
loop-payload-preserved g c =
    let at = c.loop-payload in
    let rest = c.next.new.self.rest.items in
    let next : at.payload-iterator.rest.items ≡ c.in-Some.payload ∷ rest = (c.in-Some.ensures {u = tt}).steps.0 in (
      acts_more g.R.Receiver.acts c.args.receiver.now at.receiver c.act_on_payload.new.receiver at.yielded c.in-Some.payload at.invariant.0
          (subst (λ (text : List ℕ). (read : List WireMessage) × AreRead read text × AreActedOn g.R.Receiver.acts at.receiver read c.act_on_payload.new.receiver) c.as_bytes.ensures (c.in_ok-act_on_payload.ensures {u = tt})),
      at.invariant.1 ∙ ap (λ (payloads : List (List ℕ)). at.yielded ++ payloads) next ∙ sym (append_assoc at.yielded (c.in-Some.payload ∷ []) rest),
    )
