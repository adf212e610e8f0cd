-- The calls that a conversation makes to a port while its session is open.

use Rattle.imap_syntax.specs.declared.command.Tagged.{Tagged}
use Rattle.imap_syntax.specs.declared.idle.IdleLine.{IdleLine}

-- A call of a port: a command, or a line of IDLE.
pub data PortCall : Type 0 where
  Command : Tagged → PortCall
  Line : IdleLine → PortCall
