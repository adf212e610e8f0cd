-- The faults of parts of a line, as faults of the line.

use Rattle.crdt_ops.specs.declared.fault.OpFault.{OpFault}
use Rattle.crdt_ops.specs.declared.fault.OpFault.TheVariants.{NotInForm as NoOp}
use Rattle.crdt_ops.specs.declared.fault.OpFault.TheVariants.{NoMemory as NoMemoryForOp}
use Rattle.hex.specs.declared.error.FromHexError.{FromHexError}
use Rattle.hex.specs.declared.error.FromHexError.TheVariants.{InvalidHexCharacter, OddLength}
use Rattle.hex.specs.declared.error.FromHexError.TheVariants.{InvalidStringLength, OutOfMemory}
use Rattle.link_wire.specs.declared.line_fault.LineFault.{LineFault}
use Rattle.link_wire.specs.declared.line_fault.LineFault.TheVariants.{NotInForm, NoMemory}

-- A text that spells no operation is no part of a message.
abbrev pub of_op_fault : OpFault → LineFault
of_op_fault NoOp = NotInForm
of_op_fault NoMemoryForOp = NoMemory

-- Neither is a text that isn't hex.
abbrev pub of_hex_error : FromHexError → LineFault
of_hex_error OutOfMemory = NoMemory
of_hex_error OddLength = NotInForm
of_hex_error InvalidStringLength = NotInForm
of_hex_error (InvalidHexCharacter c index) = NotInForm
