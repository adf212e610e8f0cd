use Rattle.std.proofs.Common.{◌∙◌, ap, sym, subst}
use Rattle.crdt_ops.specs.SortedSets.{IsAscending, id_order}
use Rattle.imap_types.specs.Unions.{united_flags, version_ids}
use Rattle.folder_state.proofs.message_reader.message.Goals as goal

pub ids_of-requires : goal.ids_of-requires
ids_of-requires c = subst (λ vs. IsAscending id_order (version_ids vs)) (sym c.versions_at-list.ensures.list) (c.versions_at-list.ensures.indexed.ascending c.args.origin.now)

pub returns : goal.returns
returns c =
    let list = c.versions_at-list.ensures.list in
    let copied = c.in_ok-date.ensures {u = tt} in
    λ j. record {
      origin = c.args.origin.now;
      versions = (c.in_ok-versions.ensures {u = tt} ∙ ap version_ids list) j;
      flags = (c.in_ok-flags.ensures {u = tt} ∙ ap united_flags (c.new.ensures ∙ list)) j;
      date = copied.date j;
      text = copied.text j;
    }
