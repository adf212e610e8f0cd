use Rattle.std.proofs.Common.{rules, ◌≡◌, List, ℕ, [], sym, subst, ◌∙◌}
use Rattle.std.specs.Prelude.{IfOk}
use Rattle.imap_connection.specs.Devices.{TakesOctets}
use Rattle.link_wire.specs.declared.secret.Side.TheVariants.{Dialer}
use Rattle.link_wire.specs.Hello.{IsHelloSpelled, proof_text, with_end}
use Rattle.link_wire.specs.Secrets.{proof_digest}
use Rattle.link_runtime.specs.Handshakes.{keys_of}
use Rattle.link_runtime.proofs.HandshakeLemmas.{HasRead, HasReadProof, has_dialed}
use Rattle.link_runtime.proofs.handshake.dial_peer.Goals as goal

pub returns : goal.returns
returns g c =
    let secret = c.args.secret.now in
    let own = c.args.own.now in
    let line = c.in_ok-acceptor.acceptor in
    let dialer = c.deref-2.result.now in
    let rest = c.next_line.new.rest.items in
    let left = g.S.Source.left c.args.source.now in
    let mid = g.S.Source.left c.next_line.new.source in
    let last = g.S.Source.left c.take_proof.new.source in
    let before = g.K.Sink.taken c.args.sink.now in
    let between = g.K.Sink.taken c.send_line.new.sink in
    let after = g.K.Sink.taken c.send_proof.new.sink in
    let hello = c.in_ok-hello.hello in
    let r = c.take_proof.result in
    let read : HasRead left [] line rest mid = subst (λ (before : List ℕ). HasRead left before line rest mid) c.new-rest.ensures.items (c.in_ok-acceptor.ensures {u = tt}).line in
    let spelled : IsHelloSpelled hello line = subst (λ (l : List ℕ). IsHelloSpelled hello l) c.as_bytes.ensures (c.in_ok-hello.ensures {u = tt}).0 in
    let is : hello.own ≡ c.args.peer = search rules in
    let said : TakesOctets before (with_end dialer) between = subst (λ (l : List ℕ). TakesOctets before (with_end l) between) (c.deref.ensures.value ∙ sym c.deref-2.ensures.value) (c.in_ok-send_line.ensures {u = tt}).ok in
    let proved : TakesOctets between (with_end (proof_text (proof_digest secret Dialer dialer line))) after =
    subst (λ (l : List ℕ). TakesOctets between (with_end (proof_text (proof_digest secret Dialer dialer l))) after) c.as_bytes-2.ensures (c.in_ok-send_proof.ensures {u = tt}).ok in
    has_dialed r secret own c.args.peer dialer line rest left mid last before between after hello (c.deref-2.ensures.value ∙ c.in_ok-dialer.ensures {u = tt}) read spelled (c.in_ok-hello.ensures {u = tt}).1 is said proved
    (subst (λ (l : List ℕ). IfOk r (HasReadProof secret Dialer dialer l mid rest last)) c.as_bytes-2.ensures c.take_proof.ensures.proved)
    c.take_proof.ensures.hello
    (subst (λ (l : List ℕ). IfOk r (λ p. p.keys ≡ keys_of secret Dialer dialer l)) c.as_bytes-2.ensures c.take_proof.ensures.keys)
