use Rattle.std.proofs.Common.{◌≡◌, inl, inr, List, ℕ, [], sym, subst, ◌∙◌}
use Rattle.imap_connection.specs.Devices.{TakesOctets}
use Rattle.link_wire.specs.declared.secret.Side.TheVariants.{Acceptor}
use Rattle.link_wire.specs.Hello.{IsHelloSpelled, proof_text, with_end}
use Rattle.link_wire.specs.Secrets.{proof_digest}
use Rattle.link_runtime.specs.Handshakes.{keys_of}
use Rattle.link_runtime.proofs.HandshakeLemmas.{HasRead, HasReadProof, at_error, has_accepted, proves_itself, says_hello}
use Rattle.link_runtime.proofs.handshake.accept_peer.Goals as goal

pub returns-in_err-proved-clause-silent : goal.returns-in_err-proved-clause-silent
returns-in_err-proved-clause-silent g c =
    let before = g.K.Sink.taken c.args.sink.now in
    let after = g.K.Sink.taken c.send_line.new.sink in
    at_error _ _ (inl (says_hello c.args.own.now c.in_ok-hello.hello.own c.in_ok-acceptor.acceptor.items before after (c.in_ok-acceptor.ensures {u = tt})
    (subst (λ (line : List ℕ). TakesOctets before (with_end line) after) c.deref.ensures.value (c.in_ok-send_line.ensures {u = tt}).ok)))

pub returns-in_err-send_proof-clause-silent : goal.returns-in_err-send_proof-clause-silent
returns-in_err-send_proof-clause-silent g c =
    let secret = c.args.secret.now in
    let own = c.args.own.now in
    let line = c.in_ok-dialer.dialer in
    let acceptor = c.deref-2.result.now in
    let rest = c.next_line.new.rest.items in
    let left = g.S.Source.left c.args.source.now in
    let mid = g.S.Source.left c.next_line.new.source in
    let last = g.S.Source.left c.take_proof.new.source in
    let hello = c.in_ok-hello.hello in
    let p = c.in_ok-proved.proved in
    let read : HasRead left [] line rest mid = subst (λ (before : List ℕ). HasRead left before line rest mid) c.new-rest.ensures.items (c.in_ok-dialer.ensures {u = tt}).line in
    let spelled : IsHelloSpelled hello line = subst (λ (l : List ℕ). IsHelloSpelled hello l) c.as_bytes.ensures (c.in_ok-hello.ensures {u = tt}).0 in
    let proof : HasReadProof secret Acceptor line acceptor mid rest last p = subst (λ (l : List ℕ). HasReadProof secret Acceptor l acceptor mid rest last p) c.as_bytes-2.ensures (c.in_ok-proved.ensures {u = tt}).proved in
    let keys : p.keys ≡ keys_of secret Acceptor line acceptor = subst (λ (l : List ℕ). p.keys ≡ keys_of secret Acceptor l acceptor) c.as_bytes-2.ensures (c.in_ok-proved.ensures {u = tt}).keys in
    at_error _ _ (inr (proves_itself p secret own acceptor line rest left mid last hello read spelled (c.in_ok-hello.ensures {u = tt}).1 proof (c.in_ok-proved.ensures {u = tt}).hello keys))

pub returns-clause-proved : goal.returns-clause-proved
returns-clause-proved g c =
    let secret = c.args.secret.now in
    let own = c.args.own.now in
    let line = c.in_ok-dialer.dialer in
    let acceptor = c.deref-2.result.now in
    let rest = c.next_line.new.rest.items in
    let left = g.S.Source.left c.args.source.now in
    let mid = g.S.Source.left c.next_line.new.source in
    let last = g.S.Source.left c.take_proof.new.source in
    let before = g.K.Sink.taken c.args.sink.now in
    let between = g.K.Sink.taken c.send_line.new.sink in
    let after = g.K.Sink.taken c.send_proof.new.sink in
    let hello = c.in_ok-hello.hello in
    let p = c.in_ok-proved.proved in
    let read : HasRead left [] line rest mid = subst (λ (before : List ℕ). HasRead left before line rest mid) c.new-rest.ensures.items (c.in_ok-dialer.ensures {u = tt}).line in
    let spelled : IsHelloSpelled hello line = subst (λ (l : List ℕ). IsHelloSpelled hello l) c.as_bytes.ensures (c.in_ok-hello.ensures {u = tt}).0 in
    let proof : HasReadProof secret Acceptor line acceptor mid rest last p = subst (λ (l : List ℕ). HasReadProof secret Acceptor l acceptor mid rest last p) c.as_bytes-2.ensures (c.in_ok-proved.ensures {u = tt}).proved in
    let keys : p.keys ≡ keys_of secret Acceptor line acceptor = subst (λ (l : List ℕ). p.keys ≡ keys_of secret Acceptor l acceptor) c.as_bytes-2.ensures (c.in_ok-proved.ensures {u = tt}).keys in
    let said : TakesOctets before (with_end acceptor) between = subst (λ (l : List ℕ). TakesOctets before (with_end l) between) (c.deref.ensures.value ∙ sym c.deref-2.ensures.value) (c.in_ok-send_line.ensures {u = tt}).ok in
    let proved : TakesOctets between (with_end (proof_text (proof_digest secret Acceptor line acceptor))) after =
    subst (λ (l : List ℕ). TakesOctets between (with_end (proof_text (proof_digest secret Acceptor l acceptor))) after) c.as_bytes-2.ensures (c.in_ok-send_proof.ensures {u = tt}).ok in
    has_accepted p secret own acceptor line rest left mid last before between after hello (c.deref-2.ensures.value ∙ c.in_ok-acceptor.ensures {u = tt}) read spelled (c.in_ok-hello.ensures {u = tt}).1 said proved proof
    (c.in_ok-proved.ensures {u = tt}).hello keys
