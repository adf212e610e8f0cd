use Rattle.std.proofs.Common.{◌++◌, ◌∙◌, ap, refl}
use Rattle.mailbox_rows.specs.RowViews.{row_of}
use Rattle.imap_query.specs.Heads.{flag_key}
use Rattle.imap_query.specs.Search.{last_shown}
use Rattle.imap_query.proofs.HeadLemmas.{hit_alike}
use Rattle.imap_query.proofs.HitLemmas.{hits_drop_next, rising_drop_next}
use Rattle.imap_query.proofs.heads.flagged_hits.Goals as goal

pub loop-shown-preserved : goal.loop-shown-preserved
loop-shown-preserved c =
    let last = last_shown c.args.view.now in
    let key = flag_key c.args.test in (
      hits_drop_next c.args.by_uid key last last c.args.rows.now c.args.view.now c.loop-shown.shown-index _ _ _ _ c.loop-shown-test.true refl
          (c.in_ok-push_flagged.ensures.hits ∙ ap (λ xs. c.loop-shown.hits.items ++ xs) (hit_alike c.args.by_uid c.args.test last _ _))
          c.loop-shown.invariant.0,
      rising_drop_next c.args.by_uid c.args.view.now c.loop-shown.shown-index _ _ _ c.loop-shown-test.true c.in_ok-push_flagged.ensures.numbers c.loop-shown.invariant.1,
    )
