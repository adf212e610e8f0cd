use Rattle.std.proofs.Common.{rules, ◌≢◌, length}
use Rattle.std.proofs.lemmas.Result.{IfErr-weaker}
use Rattle.mail_replay.proofs.ReplayLemmas.{ends_by, none_served, one_in_part, one_line, one_served}
use Rattle.mail_replay.proofs.replay_run.serve_rest.Goals as goal

pub returns-then-is_empty-clause-ok : goal.returns-then-is_empty-clause-ok
returns-then-is_empty-clause-ok g c = none_served _ _ c.args.line.now (search rules)

pub returns-clause-ok : goal.returns-clause-ok
returns-clause-ok g c =
    let n : length c.args.line.now ≢ 0 = search rules in
    one_served _ _ _ _ _ c.args.line.now _ (one_line c.args.line.now c.requires.rest n) c.serve_next.ensures.ok

pub returns-clause-err : goal.returns-clause-err
returns-clause-err g c =
    let n : length c.args.line.now ≢ 0 = search rules in
    let one = one_line c.args.line.now c.requires.rest n in
    IfErr-weaker c.serve_next.result _ _ (λ end. ends_by end (λ number b. (b.0, one, b.1, b.2)) (λ s. (s.0, one_in_part _ c.args.line.now s.0 one s.1, s.2))) c.serve_next.ensures.err
