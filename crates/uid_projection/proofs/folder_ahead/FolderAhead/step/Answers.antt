use Rattle.std.proofs.Common.{subst}
use Rattle.folder_state.specs.Contents.{effect_of}
use Rattle.uid_projection.specs.FolderAhead.{IsAhead}
use Rattle.uid_projection.proofs.IdLemmas.{on_ok_both}
use Rattle.uid_projection.proofs.StepLemmas.{stepped}
use Rattle.uid_projection.proofs.folder_ahead.FolderAhead.step.Goals as goal

pub returns-clause-ahead : goal.returns-clause-ahead
returns-clause-ahead c =
    let out = c.in_ok-take_tags_of.ensures {u = tt} in
    let put = c.in_ok-put_tag_of.ensures {u = tt} in
    let last = c.add_dated_text.ensures in
    on_ok_both c.add_dated_text.result
    (λ orderly dated_texts c' h. subst (λ o. IsAhead (effect_of c' o) c.add_dated_text.new.self) c.op-op.ensures.op
    (stepped c.op-op.result.now c.args.self.now c.take_tags_of.new.self c.put_tag_of.new.self c.add_dated_text.new.self c.take_tags_of.ensures.folder c.put_tag_of.ensures.folder last.folder
    out.tags out.tag_data out.dated_texts put.tags put.tag_data put.dated_texts last.tags last.tag_data dated_texts (orderly (put.orderly (out.orderly h.orderly))) c' h))
    last.orderly last.dated_texts
