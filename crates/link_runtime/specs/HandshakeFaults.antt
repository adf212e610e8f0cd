-- Why a link isn't begun: what each fault says of the peer's lines.

use Rattle.std.specs.Prelude.{◌≡◌, ◌≢◌, ◌⊎◌, ℕ, List}
use Rattle.link_wire.specs.declared.hello.Hello.{Hello}
use Rattle.link_wire.specs.declared.hello.HelloFault.TheVariants.{NotInForm}
use Rattle.link_wire.specs.declared.line_cutter.CutFault.{CutFault}
use Rattle.link_wire.specs.declared.line_cutter.CutFault.TheVariants.{TooLong}
use Rattle.link_wire.specs.declared.line_cutter.CutFault.TheVariants.{NoMemory as NoLineMemory}
use Rattle.link_wire.specs.declared.wire_message.ByeReason.{ByeReason}
use Rattle.link_wire.specs.declared.wire_message.ByeReason.TheVariants.{Hello as BadHello, Memory}
use Rattle.link_wire.specs.declared.wire_message.ByeReason.TheVariants.{Name, Secret, Version}
use Rattle.link_wire.specs.declared.wire_message.WireMessage.TheVariants.{Bye}
use Rattle.link_wire.specs.Hello.{HasOtherVersion, IsHelloFault, IsHelloSpelled, IsProofSpelled}
use Rattle.link_wire.specs.MessageForm.{IsSpelled}
use Rattle.link_runtime.specs.declared.handshake_fault.HandshakeFault.{HandshakeFault}
use Rattle.link_runtime.specs.declared.handshake_fault.HandshakeFault.TheVariants.{Broken}
use Rattle.link_runtime.specs.declared.handshake_fault.HandshakeFault.TheVariants.{Refused}
use Rattle.link_runtime.specs.declared.handshake_fault.HandshakeFault.TheVariants.{RefusedBy}

-- A line that is longer than it may be is no hello.
abbrev pub fault_of_cut : CutFault → HandshakeFault
fault_of_cut TooLong = Refused BadHello
fault_of_cut NoLineMemory = Refused Memory

-- A hello names this end as the other one, and another end than this one as its own.
abbrev pub NamesBoth : ℕ → Hello → Type 0
NamesBoth own hello = (hello.other ≡ own) × (hello.own ≢ own)

-- A line that isn't the expected one has this fault; or the peer says in it why it ends the link.
abbrev pub IsOtherLine : ByeReason → List ℕ → HandshakeFault → Type 0
IsOtherLine reason line fault =
    (fault ≡ Refused reason)
    ⊎ ((why : ByeReason) × (fault ≡ RefusedBy why) × IsSpelled (Bye why) line)

-- What is wrong with the line of a peer's hello: it is of another version, or names other ends, or
-- is no hello.
abbrev pub IsHelloRefused : ℕ → List ℕ → HandshakeFault → Type 0
IsHelloRefused own line fault =
    (HasOtherVersion line × (fault ≡ Refused Version))
    ⊎ (((hello : Hello) × IsHelloSpelled hello line × (¬ NamesBoth own hello)
    × (fault ≡ Refused Name))
    ⊎ (IsHelloFault NotInForm line × IsOtherLine BadHello line fault))

-- What is wrong with the line of a peer's proof: it doesn't spell this one.
abbrev pub IsProofRefused : List ℕ → List ℕ → HandshakeFault → Type 0
IsProofRefused digest line fault =
    (¬ IsProofSpelled digest line) × IsOtherLine Secret line fault
