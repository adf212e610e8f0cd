-- What a link that was begun rests on: the lines of both ends, the proofs among them, and the keys.

use Rattle.std.specs.Prelude.{◌≡◌, ℕ, false, List, ◌∷◌, ◌++◌, Option}
use Rattle.link_wire.specs.declared.hello.Hello.{Hello}
use Rattle.link_wire.specs.declared.secret.Side.{Side}
use Rattle.link_wire.specs.declared.secret.Side.TheVariants.{Acceptor, Dialer}
use Rattle.imap_connection.specs.Devices.{TakesAllOrPart, TakesOctets}
use Rattle.link_wire.specs.Hello.{IsHelloSpelled, IsProofSpelled, hello_text, proof_text, with_end}
use Rattle.link_wire.specs.Secrets.{frame_key, proof_digest}
use Rattle.link_runtime.specs.declared.handshake.LinkKeys.{LinkKeys}
use Rattle.link_runtime.specs.declared.handshake.OwnEnd.{OwnEnd}
use Rattle.link_runtime.specs.declared.handshake.ProvedPeer.{ProvedPeer}

-- The hello of this end to a peer.
abbrev pub own_hello : OwnEnd → ℕ → Hello
own_hello own peer =
    record { own = own.name; other = peer; run = own.run; nonce = own.nonce }

-- The other side of a link.
abbrev pub other_side : Side → Side
other_side Dialer = Acceptor
other_side Acceptor = Dialer

-- The keys of a side after these hello lines, the dialer's and the acceptor's: it writes by its
-- own, and reads by the other side's.
abbrev pub keys_of : List ℕ → Side → List ℕ → List ℕ → LinkKeys
keys_of secret side dialer acceptor = record {
  written = frame_key secret side dialer acceptor;
  read = frame_key secret (other_side side) dialer acceptor;
}

-- The octets that the peer sent are a hello line, a proof line, and what it sent after them. The
-- hello names this end, and another; the proof is by the secret, of that end's side and both hello
-- lines.
pub record HasProved (secret : List ℕ) (own : OwnEnd) (side : Side) (dialer acceptor : List ℕ)
    (line : List ℕ) (given : List ℕ) (proved : ProvedPeer) : Type 0 where
  pub proof : List ℕ
  pub lines : given ≡ line ++ 10 ∷ (proof ++ 10 ∷ proved.begun)
  pub spelled : IsHelloSpelled proved.hello line
  pub other : proved.hello.other ≡ own.name
  pub proves : IsProofSpelled (proof_digest secret (other_side side) dialer acceptor) proof
  pub keys : proved.keys ≡ keys_of secret side dialer acceptor

-- The lines that an end writes, after which frames follow: its hello, and its proof.
abbrev pub own_lines : List ℕ → Side → List ℕ → List ℕ → List ℕ → List ℕ
own_lines secret side hello dialer acceptor =
    with_end hello ++ with_end (proof_text (proof_digest secret side dialer acceptor))

-- A link that this end opened to this peer: what was read, and what was written.
abbrev pub HasDialed : List ℕ → OwnEnd → ℕ → List ℕ → List ℕ → ProvedPeer → Type 0
HasDialed secret own peer given written proved =
    (acceptor : List ℕ)
    × HasProved secret own Dialer (hello_text (own_hello own peer)) acceptor acceptor given proved
    × (proved.hello.own ≡ peer)
    × (written ≡ own_lines secret Dialer (hello_text (own_hello own peer))
    (hello_text (own_hello own peer)) acceptor)

-- A link that a peer opened to this end.
abbrev pub HasAccepted : List ℕ → OwnEnd → List ℕ → List ℕ → ProvedPeer → Type 0
HasAccepted secret own given written proved =
    (dialer : List ℕ)
    × HasProved secret own Acceptor dialer (hello_text (own_hello own proved.hello.own)) dialer
    given proved
    × (written ≡ own_lines secret Acceptor (hello_text (own_hello own proved.hello.own)) dialer
    (hello_text (own_hello own proved.hello.own)))

-- A sink took an initial part of these octets.
abbrev pub TakesPart : Option (List ℕ) → List ℕ → Option (List ℕ) → Type 0
TakesPart = TakesAllOrPart false

-- No more was written than this end's hello.
abbrev pub SaysHelloAtMost : OwnEnd → Option (List ℕ) → Option (List ℕ) → Type 0
SaysHelloAtMost own before after =
    (peer : ℕ) × TakesPart before (with_end (hello_text (own_hello own peer))) after

-- A peer proved itself, whatever was written.
abbrev pub ProvesItself : List ℕ → OwnEnd → List ℕ → Type 0
ProvesItself secret own given =
    (proved : ProvedPeer) × (dialer acceptor : List ℕ)
    × HasProved secret own Acceptor dialer acceptor dialer given proved
