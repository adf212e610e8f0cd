use Rattle.std.proofs.Common.{◌≡◌, ◌∙◌, Some, None, sym, subst, rules}
use Rattle.subs_state.specs.Entries.{ids_entry}
use Rattle.subs_state.proofs.TableLemmas.{on_ok, room_preserved, tags_same}
use Rattle.subs_state.proofs.subs_table.put_name.Goals as goal

pub returns-clause-listed : goal.returns-clause-listed
returns-clause-listed c =
    let key = c.in_ok-key.key in
    let e : key.items ≡ c.args.name.now = search rules in
    let post = on_ok c.insert.result (sym c.is_err.ensures.value ∙ c.if-is_err.false) c.insert.ensures.updates in
    let old = c.args.tags.now.entries in
    tags_same key.items old c.insert.new.self.entries None (Some _) post.3 (subst (λ n. ids_entry n old ≡ None) (sym e) c.requires) post.1 (c.reserve.ensures.keys ∙ c.new-ids.ensures.empty)

pub returns-clause-room : goal.returns-clause-room
returns-clause-room c =
    let key = c.in_ok-key.key in
    let e : key.items ≡ c.args.name.now = search rules in
    let post = on_ok c.insert.result (sym c.is_err.ensures.value ∙ c.if-is_err.false) c.insert.ensures.updates in
    let old = c.args.tags.now.entries in
    room_preserved key.items old c.insert.new.self.entries None (Some _) post.3 (subst (λ n. ids_entry n old ≡ None) (sym e) c.requires) post.1 (search rules)
