-- How a fault of reading a line becomes a fault of serving it.

use Rattle.mail_script.specs.declared.script.LineFault.{LineFault}
use Rattle.mail_script.specs.declared.script.LineFault.TheVariants as lines
use Rattle.mail_replay.specs.declared.script_service.ServeFault.{ServeFault}
use Rattle.mail_replay.specs.declared.script_service.ServeFault.TheVariants.{BadScript, NoMemory}

-- Why a line that can't be read can't be served.
abbrev pub fault_of : LineFault → ServeFault
fault_of lines.NotALine = BadScript
fault_of lines.NoMemory = NoMemory
