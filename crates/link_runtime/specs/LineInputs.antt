-- How a line is read from a source, in pieces, and why none is read.

use Rattle.std.specs.Prelude.{◌≡◌, ◌⊎◌, ◌+◌, ℕ, Bool, true, List, ◌++◌, Option, None, Some}
use Rattle.imap_connection.specs.Devices.{GivesOctets}
use Rattle.link_wire.specs.LineCuts.{ContinuesLine, CutterState, EndsLine, IsTooLong}
use Rattle.link_wire.specs.declared.wire_message.ByeReason.TheVariants.{Hello as BadHello, Memory}
use Rattle.link_runtime.specs.declared.handshake_fault.HandshakeFault.{HandshakeFault}
use Rattle.link_runtime.specs.declared.handshake_fault.HandshakeFault.TheVariants.{Broken, Refused}

-- The piece continues the line; or it ends it, and the octets after it were added to those that are
-- left.
abbrev pub HasCut : CutterState → List ℕ → List ℕ → Option (List ℕ) → CutterState → List ℕ → Type 0
HasCut old left piece None new after = ContinuesLine old piece new × (after ≡ left)
HasCut old left piece (Some line) new after =
    (rest : List ℕ) × EndsLine old piece new line rest × (after ≡ left ++ rest)

-- The source failed once more, or said that it ended.
abbrev pub HasLost : ℕ → ℕ → Bool → Type 0
HasLost failed_before failed ended = (failed ≡ failed_before + 1) ⊎ (ended ≡ true)

-- The piece makes the line too long.
abbrev pub IsCutRefused : CutterState → List ℕ → HandshakeFault → Type 0
IsCutRefused old piece fault =
    ((fault ≡ Refused BadHello) × IsTooLong old piece) ⊎ (fault ≡ Refused Memory)

-- Why no line is read after these octets: there are too many before its end, or memory ran out; or
-- this is known, and the connection is broken.
abbrev pub IsLineRefused : CutterState → List ℕ → Option (List ℕ) → Option (List ℕ) → Type 0
    → HandshakeFault
    → Type 0
IsLineRefused cutter begun left now lost fault =
    ((given : List ℕ) × GivesOctets left given now × IsCutRefused cutter (begun ++ given) fault)
    ⊎ (lost × (fault ≡ Broken))
