use Rattle.std.proofs.Common.{◌≡◌, ℕ, List, [], ◌∷◌, ◌++◌, Option, None, Some, Result, Ok, Err, refl, sym, ap, ◌∙◌, subst, append_assoc, append-nil}
use Rattle.std.specs.Prelude.{IfOk, OnErr}
use Rattle.imap_connection.specs.Devices.{GivesOctets, TakesOctets}
use Rattle.link_wire.specs.declared.hello.Hello.{Hello}
use Rattle.link_wire.specs.declared.secret.Side.{Side}
use Rattle.link_wire.specs.declared.secret.Side.TheVariants.{Acceptor, Dialer}
use Rattle.link_wire.specs.Hello.{IsHelloSpelled, IsProofSpelled, hello_text, proof_text, with_end}
use Rattle.link_wire.specs.LineCuts.{IsLineWithin}
use Rattle.link_wire.specs.Secrets.{proof_digest}
use Rattle.link_runtime.specs.declared.handshake.OwnEnd.{OwnEnd}
use Rattle.link_runtime.specs.declared.handshake.ProvedPeer.{ProvedPeer}
use Rattle.link_runtime.specs.HandshakeFaults.{NamesBoth}
use Rattle.link_runtime.specs.Handshakes.{HasAccepted, HasDialed, HasProved, ProvesItself, SaysHelloAtMost, TakesPart, keys_of, other_side, own_hello, own_lines}
use Rattle.link_runtime.proofs.InputLemmas.{gives_append}

-- ---- the end of a `?`

pub at_error : {X E : Type 0} (r : Result X E) (P : Type 0) → P → OnErr r P
at_error (Ok x) P p = tt
at_error (Err e) P p = p

-- ---- octets of a sink

pub takes_append : (a b c : Option (List ℕ)) (x y : List ℕ) → TakesOctets a x b → TakesOctets b y c → TakesOctets a (x ++ y) c
takes_append None b c x y h k = tt
takes_append (Some old) b c x y h k =
    let more : TakesOctets (Some (old ++ x)) y c = subst (λ (o : Option (List ℕ)). TakesOctets o y c) h k in
    more ∙ ap Some (append_assoc old x y)

takes_nothing : (a : Option (List ℕ)) → TakesOctets a [] a
takes_nothing None = tt
takes_nothing (Some old) = ap Some (sym (append-nil old))

pub part_of_none : (a : Option (List ℕ)) (x : List ℕ) → TakesPart a x a
part_of_none a x = ([], x, refl, takes_nothing a)

pub part_of_all : (a b : Option (List ℕ)) (x : List ℕ) → TakesOctets a x b → TakesPart a x b
part_of_all a b x h = (x, [], sym (append-nil x), h)

-- ---- both ends' lines

-- A line was read from a source, and these octets after it.
abbrev pub HasRead : Option (List ℕ) → List ℕ → List ℕ → List ℕ → Option (List ℕ) → Type 0
HasRead left before line rest now = (given : List ℕ) × GivesOctets left given now × (before ++ given ≡ line ++ 10 ∷ rest) × IsLineWithin 128 line

-- The peer's proof was read, and these octets after it.
abbrev pub HasReadProof : List ℕ → Side → List ℕ → List ℕ → Option (List ℕ) → List ℕ → Option (List ℕ) → ProvedPeer → Type 0
HasReadProof secret side dialer acceptor left rest now proved =
    (given proof : List ℕ)
    × GivesOctets left given now
    × (rest ++ given ≡ proof ++ 10 ∷ proved.begun)
    × IsProofSpelled (proof_digest secret (other_side side) dialer acceptor) proof

module _ (secret : List ℕ) (own : OwnEnd) (side : Side) (dialer acceptor line rest : List ℕ) (left mid last : Option (List ℕ)) (hello : Hello) where
  proved_of : (p : ProvedPeer) → HasRead left [] line rest mid → IsHelloSpelled hello line → NamesBoth own.name hello → HasReadProof secret side dialer acceptor mid rest last p → p.hello ≡ hello
      → p.keys ≡ keys_of secret side dialer acceptor → (given : List ℕ) × GivesOctets left given last × HasProved secret own side dialer acceptor line given p
  proved_of p h spelled other k same keys = (
    h.0 ++ k.0,
    gives_append left mid last h.0 k.0 h.1 k.2,
    record {
      proof = k.1;
      lines = ap (λ (octets : List ℕ). octets ++ k.0) h.2 ∙ append_assoc line (10 ∷ rest) k.0 ∙ ap (λ (octets : List ℕ). line ++ 10 ∷ octets) k.3;
      spelled = subst (λ (it : Hello). IsHelloSpelled it line) (sym same) spelled;
      other = ap (λ (it : Hello). it.other) same ∙ other.0;
      proves = k.4;
      keys = keys;
    },
  )

pub has_dialed : {E : Type 0} (r : Result ProvedPeer E) (secret : List ℕ) (own : OwnEnd) (peer : ℕ) (dialer line rest : List ℕ) (left mid last before between after : Option (List ℕ)) (hello : Hello) → dialer ≡ hello_text (own_hello own peer)
    → HasRead left [] line rest mid → IsHelloSpelled hello line → NamesBoth own.name hello → hello.own ≡ peer
    → TakesOctets before (with_end dialer) between → TakesOctets between (with_end (proof_text (proof_digest secret Dialer dialer line))) after
    → IfOk r (HasReadProof secret Dialer dialer line mid rest last) → IfOk r (λ p. p.hello ≡ hello) → IfOk r (λ p. p.keys ≡ keys_of secret Dialer dialer line)
    → IfOk r (λ p. (given written : List ℕ) × GivesOctets left given last × TakesOctets before written after × HasDialed secret own peer given written p)
has_dialed (Err e) secret own peer dialer line rest left mid last before between after hello text h spelled names is said proof k same keys = tt
has_dialed (Ok p) secret own peer dialer line rest left mid last before between after hello text h spelled names is said proof k same keys =
    let proved = proved_of secret own Dialer dialer line line rest left mid last hello p h spelled names k same keys in (
      proved.0,
      with_end dialer ++ with_end (proof_text (proof_digest secret Dialer dialer line)),
      proved.1,
      takes_append before between after (with_end dialer) (with_end (proof_text (proof_digest secret Dialer dialer line))) said proof,
      (
        line,
        subst (λ (it : List ℕ). HasProved secret own Dialer it line line proved.0 p) text proved.2,
        ap (λ (it : Hello). it.own) same ∙ is,
        ap (λ (it : List ℕ). own_lines secret Dialer it it line) text,
      ),
    )

pub has_accepted : (p : ProvedPeer) (secret : List ℕ) (own : OwnEnd) (acceptor line rest : List ℕ) (left mid last before between after : Option (List ℕ)) (hello : Hello) → acceptor ≡ hello_text (own_hello own hello.own)
    → HasRead left [] line rest mid → IsHelloSpelled hello line → NamesBoth own.name hello
    → TakesOctets before (with_end acceptor) between → TakesOctets between (with_end (proof_text (proof_digest secret Acceptor line acceptor))) after
    → HasReadProof secret Acceptor line acceptor mid rest last p → p.hello ≡ hello → p.keys ≡ keys_of secret Acceptor line acceptor
    → (given written : List ℕ) × GivesOctets left given last × TakesOctets before written after × HasAccepted secret own given written p
has_accepted p secret own acceptor line rest left mid last before between after hello text h spelled names said proof k same keys =
    let proved = proved_of secret own Acceptor line acceptor line rest left mid last hello p h spelled names k same keys in
    let named : acceptor ≡ hello_text (own_hello own p.hello.own) = text ∙ ap (λ (it : Hello). hello_text (own_hello own it.own)) (sym same) in (
      proved.0,
      with_end acceptor ++ with_end (proof_text (proof_digest secret Acceptor line acceptor)),
      proved.1,
      takes_append before between after (with_end acceptor) (with_end (proof_text (proof_digest secret Acceptor line acceptor))) said proof,
      (
        line,
        subst (λ (it : List ℕ). HasProved secret own Acceptor line it line proved.0 p) named proved.2,
        ap (λ (it : List ℕ). own_lines secret Acceptor it line it) named,
      ),
    )

-- ---- what an acceptor says to a peer that hasn't proved itself

pub says_nothing : (own : OwnEnd) (before : Option (List ℕ)) → SaysHelloAtMost own before before
says_nothing own before = (0, part_of_none before (with_end (hello_text (own_hello own 0))))

pub says_part : (own : OwnEnd) (peer : ℕ) (line : List ℕ) (before after : Option (List ℕ)) → line ≡ hello_text (own_hello own peer) → TakesPart before (with_end line) after → SaysHelloAtMost own before after
says_part own peer line before after e h = (peer, subst (λ (it : List ℕ). TakesPart before (with_end it) after) e h)

pub says_hello : (own : OwnEnd) (peer : ℕ) (line : List ℕ) (before after : Option (List ℕ)) → line ≡ hello_text (own_hello own peer) → TakesOctets before (with_end line) after → SaysHelloAtMost own before after
says_hello own peer line before after e h = says_part own peer line before after e (part_of_all before after (with_end line) h)

pub proves_itself : (p : ProvedPeer) (secret : List ℕ) (own : OwnEnd) (acceptor line rest : List ℕ) (left mid last : Option (List ℕ)) (hello : Hello)
    → HasRead left [] line rest mid → IsHelloSpelled hello line → NamesBoth own.name hello
    → HasReadProof secret Acceptor line acceptor mid rest last p → p.hello ≡ hello → p.keys ≡ keys_of secret Acceptor line acceptor
    → (given : List ℕ) × GivesOctets left given last × ProvesItself secret own given
proves_itself p secret own acceptor line rest left mid last hello h spelled names k same keys =
    let proved = proved_of secret own Acceptor line acceptor line rest left mid last hello p h spelled names k same keys in
    (proved.0, proved.1, (p, line, acceptor, proved.2))
