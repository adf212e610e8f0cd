use Rattle.std.proofs.Common.{◌∙◌, ap, sym}
use Rattle.std.proofs.lemmas.Result.{IfOk-weaker}
use Rattle.imap_query.specs.Heads.{flag_key}
use Rattle.imap_query.specs.KeyHits.{Key}
use Rattle.imap_query.specs.Search.{hits_in}
use Rattle.imap_query.proofs.HeadLemmas.{flag_steps}
use Rattle.imap_query.proofs.KeyLemmas.{one_key}
use Rattle.imap_query.proofs.HitLemmas.{hits_drop_next, rising_drop_next}
use Rattle.imap_query.proofs.search_command.hits_in.Goals as goal

pub loop-shown-preserved : goal.loop-shown-preserved
loop-shown-preserved c = (
  λ key e. hits_drop_next c.args.by_uid key _ _ c.args.rows.now c.args.view.now c.loop-shown.shown-index _ _ _ _ c.loop-shown-test.true c.last_shown-last.ensures (c.in_ok-push_hit.ensures.hits key e) (c.loop-shown.invariant.0 key e),
  rising_drop_next c.args.by_uid c.args.view.now c.loop-shown.shown-index _ _ _ c.loop-shown-test.true c.in_ok-push_hit.ensures.numbers c.loop-shown.invariant.1,
)

pub returns-in-Some-clause-hits : goal.returns-in-Some-clause-hits
returns-in-Some-clause-hits c =
    let by_uid = c.args.by_uid in
    IfOk-weaker c.flagged_hits.result _ _
    (λ hits h key e. h ∙ ap (λ (k : Key). hits_in by_uid k c.args.rows.now c.args.view.now) (one_key (flag_key c.in-Some.test) key (sym (flag_steps c.flag_test.result c.in-Some.test c.args.steps.now c.in-Some.is c.flag_test.ensures) ∙ e)))
    c.flagged_hits.ensures.hits
