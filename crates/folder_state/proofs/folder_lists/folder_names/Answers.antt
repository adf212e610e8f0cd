use Rattle.std.proofs.Common.{◌∷◌, ◌∙◌, ◌≤◌, ◌<◌, inl, inr, sym, subst}
use Rattle.std.specs.List.{filter_map}
use Rattle.std.specs.Option.{IfSome}
use Rattle.std.proofs.lemmas.List.{take_all}
use Rattle.imap_types.specs.Ascending.{octet_order}
use Rattle.imap_types.specs.Names.{inbox}
use Rattle.merge_laws.specs.Orders.{IsIn}
use Rattle.crdt_ops.specs.SortedSets.{sorted_set}
use Rattle.folder_state.specs.FolderTables.{IsIndexedFolder, name_if_tagged}
use Rattle.folder_state.proofs.Listing.{in_taken, names_done, names_drop_next}
use Rattle.folder_state.proofs.folder_lists.folder_names.Goals as goal

pub loop-place-preserved : goal.loop-place-preserved
loop-place-preserved c =
    let es = c.args.by_name.now.entries in
    let at = c.loop-place.place in
    let made = c.in_ok-insert_folder_name.ensures {u = tt} in
    record {
      names =
          names_drop_next es at c.loop-place.names.items c.insert_folder_name.new.names.items (subst (λ n. at < n) c.len-place-end.ensures.len c.loop-place-test.true) made.names
          ∙ c.loop-place.invariant.names;
      known = λ e h. elim (in_taken es at e h) [
        | inl t ↦ c.loop-place.invariant.known e t
        | inr k ↦ subst (λ o. IfSome o (IsIndexedFolder es)) k made.known
      ];
    }

pub returns-clause-names : goal.returns-clause-names
returns-clause-names c =
    let es = c.args.by_name.now.entries in
    names_done es c.loop-place.place c.loop-place.names.items (sorted_set octet_order (inbox ∷ filter_map name_if_tagged es))
    (subst (λ n. n ≤ c.loop-place.place) c.len-place-end.ensures.len c.loop-place-test.false) c.loop-place.invariant.names

pub returns-clause-known : goal.returns-clause-known
returns-clause-known c = λ e h.
    let es = c.args.by_name.now.entries in
    c.loop-place.invariant.known e (subst (IsIn e) (sym (take_all c.loop-place.place es (subst (λ n. n ≤ c.loop-place.place) c.len-place-end.ensures.len c.loop-place-test.false))) h)
