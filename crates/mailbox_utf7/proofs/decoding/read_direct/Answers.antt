use Rattle.std.proofs.Common.{string_bytes}
use Rattle.mailbox_utf7.proofs.ReadingLemmas.{direct_read}
use Rattle.mailbox_utf7.proofs.decoding.read_direct.Goals as goal

pub returns : goal.returns
returns c base64 rest =
    direct_read base64 (string_bytes c.args.name.now) (string_bytes c.push.new.self) c.args.symbols.now.items c.clear.new.self.items rest c.args.octet c.from.result c.if-octet-eq38.false c.from.ensures
    c.in_ok-push.ensures.bytes c.clear.ensures.items
