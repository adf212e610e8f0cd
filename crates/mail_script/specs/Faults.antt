-- How a fault of the escape becomes a fault of a script line.

use Rattle.imap_types.specs.declared.escape.EscapeFault.{EscapeFault}
use Rattle.imap_types.specs.declared.escape.EscapeFault.TheVariants.{NotEscaped}
use Rattle.imap_types.specs.declared.escape.EscapeFault.TheVariants.{NoMemory as NoMemoryForEscape}
use Rattle.mail_script.specs.declared.script.LineFault.{LineFault}
use Rattle.mail_script.specs.declared.script.LineFault.TheVariants.{NotALine, NoMemory}

-- A line whose text isn't properly escaped is no script line.
abbrev pub fault_of : EscapeFault → LineFault
fault_of NotEscaped = NotALine
fault_of NoMemoryForEscape = NoMemory
