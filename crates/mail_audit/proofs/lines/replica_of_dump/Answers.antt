use Rattle.std.proofs.Common.{◌≡◌, ◌++◌, codes, rules}
use Rattle.mail_audit.proofs.LineLemmas.{dump_of}
use Rattle.mail_audit.proofs.lines.replica_of_dump.Goals as goal

pub returns-in-Some : goal.returns-in-Some
returns-in-Some c =
    let line : c.args.line.now ≡ codes "dump " ++ c.in-Some.number.now = search rules in
    dump_of c.args.line.now c.in-Some.number.now c.replica.result line c.replica.ensures
