-- How a link ends whose reader ended.

use Rattle.link_connection.specs.declared.receive_end.ReceiveEnd.{ReceiveEnd}
use Rattle.link_connection.specs.declared.receive_end.ReceiveEnd.TheVariants.{BadFrame, BadLine}
use Rattle.link_connection.specs.declared.receive_end.ReceiveEnd.TheVariants.{Closed, ReadFailed}
use Rattle.link_connection.specs.declared.receive_end.ReceiveEnd.TheVariants.{NoMemory, Stopped}
use Rattle.link_wire.specs.declared.fault.FrameFault.TheVariants.{BadDigest, BadHeader, Failed}
use Rattle.link_wire.specs.declared.fault.FrameFault.TheVariants.{NoMemory as NoFrameMemory}
use Rattle.link_wire.specs.declared.fault.FrameFault.TheVariants.{TooManyFrames}
use Rattle.link_wire.specs.declared.line_fault.LineFault.TheVariants.{NoMemory as NoLineMemory}
use Rattle.link_wire.specs.declared.line_fault.LineFault.TheVariants.{NotInForm}
use Rattle.link_wire.specs.declared.line_fault.LineFault.TheVariants.{Unsound as UnsoundLine}
use Rattle.link_wire.specs.declared.wire_message.ByeReason.TheVariants.{Frame, Line, Memory, Torn}
use Rattle.link_wire.specs.declared.wire_message.ByeReason.TheVariants.{Unsound}
use Rattle.link_runtime.specs.declared.peer_news.LinkEnding.{LinkEnding}
use Rattle.link_runtime.specs.declared.peer_news.LinkEnding.TheVariants.{Broken, Bye}

-- The peer is sent what was wrong with its octets; a connection that ended or failed is broken. Of
-- a reader that a message stopped is known how the link ends.
abbrev pub ending_of : ReceiveEnd → LinkEnding
ending_of Closed = Broken
ending_of ReadFailed = Broken
ending_of Stopped = Broken
ending_of (BadFrame BadHeader) = Bye Frame
ending_of (BadFrame TooManyFrames) = Bye Frame
ending_of (BadFrame BadDigest) = Bye Torn
ending_of (BadFrame NoFrameMemory) = Bye Memory
ending_of (BadFrame Failed) = Bye Frame
ending_of (BadLine NotInForm) = Bye Line
ending_of (BadLine (UnsoundLine rule)) = Bye (Unsound rule)
ending_of (BadLine NoLineMemory) = Bye Memory
ending_of NoMemory = Bye Memory
