use Rattle.std.proofs.Common.{◌≡◌, false, [], drop, string_bytes}
use Rattle.base64.specs.GeneralPurpose.{decoded_of}
use Rattle.mailbox_utf7.specs.Reading.{text_read, text_read_after}
use Rattle.mailbox_utf7.proofs.decoding.read.Given as goal

abbrev pub invariant-loop-octet : goal.invariant-loop-octet
invariant-loop-octet l =
    text_read_after (decoded_of l.engine) (string_bytes l.name) l.is_shifted l.symbols.items (drop l.octet-index l.octets)
    ≡ text_read (decoded_of l.engine) false [] l.octets
