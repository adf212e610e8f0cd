use Rattle.std.proofs.Common.{ℕ, List, not, ◌&&◌, sym, ap, ◌∙◌}
use Rattle.std.specs.List.{list_any}
use Rattle.crdt_ops.specs.declared.kind.Kind.{Kind}
use Rattle.crdt_ops.specs.Tags.{SubscriptionTag, tags_removed_by, same_tag}
use Rattle.crdt_ops.specs.TagLaws.{delete_keeps_subscriptions, old_ids_keep_subscriptions, unsubscribe_removes}
use Rattle.subs_state.specs.Entries.{tag_in}
use Rattle.subs_state.specs.Keys.{is_among}
use Rattle.subs_state.proofs.subs_table.remove_tags_of.Goals as goal

pub returns-in-Unsubscribe-clause-listed : goal.returns-in-Unsubscribe-clause-listed
returns-in-Unsubscribe-clause-listed c = λ n i.
    c.remove_ids.ensures.listed n i
    ∙ ap (λ (name : List ℕ). not (is_among n i name c.as_slice.result.now) && tag_in c.args.tags.now.entries n i) c.as_bytes.ensures
    ∙ ap (λ ids. not (is_among n i c.in-Unsubscribe.name ids) && tag_in c.args.tags.now.entries n i) c.as_slice.ensures.ids
    ∙ ap (λ b. not b && tag_in c.args.tags.now.entries n i)
    (sym (ap (λ (kind : Kind). list_any (same_tag (SubscriptionTag n i)) (tags_removed_by kind)) c.in-Unsubscribe.is ∙ unsubscribe_removes n c.in-Unsubscribe.name i c.in-Unsubscribe.seen))

pub returns-in-Delete-clause-listed : goal.returns-in-Delete-clause-listed
returns-in-Delete-clause-listed c = λ n i.
    ap (λ b. not b && tag_in c.args.tags.now.entries n i)
    (sym (ap (λ (kind : Kind). list_any (same_tag (SubscriptionTag n i)) (tags_removed_by kind)) c.in-Delete.is ∙ delete_keeps_subscriptions n c.in-Delete.folder i c.in-Delete.seen))

pub returns-in-Expunge-clause-listed : goal.returns-in-Expunge-clause-listed
returns-in-Expunge-clause-listed c = λ n i.
    ap (λ b. not b && tag_in c.args.tags.now.entries n i)
    (sym (ap (λ (kind : Kind). list_any (same_tag (SubscriptionTag n i)) (tags_removed_by kind)) c.in-Expunge.is ∙ old_ids_keep_subscriptions n c.in-Expunge.folder i c.in-Expunge.old_ids))

pub returns-in-Store-clause-listed : goal.returns-in-Store-clause-listed
returns-in-Store-clause-listed c = λ n i.
    ap (λ b. not b && tag_in c.args.tags.now.entries n i)
    (sym (ap (λ (kind : Kind). list_any (same_tag (SubscriptionTag n i)) (tags_removed_by kind)) c.in-Store.is ∙ old_ids_keep_subscriptions n c.in-Store.folder i c.in-Store.old_ids))
