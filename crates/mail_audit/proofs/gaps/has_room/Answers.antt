use Rattle.std.proofs.Common.{sym, subst, ◌↔◌, IsTrue}
use Rattle.mail_audit.proofs.KnownUidLemmas.{room_after_last}
use Rattle.mail_audit.proofs.gaps.has_room.Goals as goal

pub returns-in-Some : goal.returns-in-Some
returns-in-Some c = subst (λ (P : Type 0). IsTrue c.has_room_after.result ↔ P) (sym (room_after_last 0 0 c.args.entries.now c.args.total c.in-Some.entry.now (c.in-Some.ensures {u = tt}).value)) c.has_room_after.ensures
