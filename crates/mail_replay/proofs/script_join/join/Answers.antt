use Rattle.std.proofs.Common.{rules, refl}
use Rattle.mail_replay.proofs.script_join.join.Goals as goal

pub returns-clause-ok : goal.returns-clause-ok
returns-clause-ok c =
    let joins = c.join_after-result.ensures in (
      _,
      (
        c.in-Some.place,
        joins.0,
        c.join_after-result.result,
        c.join_after-result.new.replicas.items,
        search rules,
        (search rules, joins.1),
        joins.2,
        refl,
        refl,
      ),
      (c.in_ok-write_outcome.ensures {u = tt}).ok,
    )
