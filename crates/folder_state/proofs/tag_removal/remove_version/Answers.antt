use Rattle.std.proofs.Common.{◌≡◌, ◌<◌, ◌≤◌, Option, None, Some, length, rules, sym, ap, subst, ◌∙◌}
use Rattle.std.specs.Global.{Vec}
use Rattle.std.specs.Map.{lookup}
use Rattle.std.specs.Vec.{vec_capacity}
use Rattle.std.proofs.lemmas.Bool.{false≢true}
use Rattle.imap_types.specs.declared.version.Version.{Version}
use Rattle.crdt_ops.specs.SortedSets.{same_id}
use Rattle.folder_state.specs.FolderTables.{versions_or_none, versions_at, without_version}
use Rattle.folder_state.proofs.FolderTablesLemmas.{none_left, some_left}
use Rattle.folder_state.proofs.Lenses.{same_turned, some_is}
use Rattle.folder_state.proofs.Versions.{shorter_without}
use Rattle.folder_state.proofs.tag_removal.remove_version.Goals as goal

pub returns-in-Some-clause-here : goal.returns-in-Some-clause-here
returns-in-Some-clause-here c =
    let now = c.forget_version.new.versions in
    let post = (c.get_mut.follows.holds now).3 (search rules) in
    let was = sym (c.in-Some.ensures {u = tt}).value in
    ap versions_or_none post.1 ∙ c.forget_version.ensures.items ∙ ap (without_version c.args.id.now) (sym (ap versions_or_none was))

pub returns-in-Some-clause-none : goal.returns-in-Some-clause-none
returns-in-Some-clause-none c = λ t.
    let now = c.forget_version.new.versions in
    let post = (c.get_mut.follows.holds now).3 (search rules) in
    ap versions_or_none post.1 ∙ none_left now.items (sym c.forget_version.ensures.none ∙ t)

pub returns-in-Some-clause-some : goal.returns-in-Some-clause-some
returns-in-Some-clause-some c = λ f vs e.
    let now = c.forget_version.new.versions in
    let post = (c.get_mut.follows.holds now).3 (search rules) in
    subst (λ (xs : Vec Version). 0 < length xs.items) (some_is now vs (sym post.1 ∙ e)) (some_left now.items (sym c.forget_version.ensures.none ∙ f))

pub returns-in-Some-clause-others : goal.returns-in-Some-clause-others
returns-in-Some-clause-others c = λ o f.
    let now = c.forget_version.new.versions in
    let post = (c.get_mut.follows.holds now).3 (search rules) in
    post.2 o (same_turned c.args.origin.now o ∙ f)

pub returns-in-Some-clause-places : goal.returns-in-Some-clause-places
returns-in-Some-clause-places c = λ vs e.
    let now = c.forget_version.new.versions in
    let old = c.in-Some.versions.now in
    let post = (c.get_mut.follows.holds now).3 (search rules) in
    let was = sym (c.in-Some.ensures {u = tt}).value in
    let same : now ≡ vs = some_is now vs (sym post.1 ∙ e) in
    let short : length now.items ≤ length old.items = subst (λ xs. length xs ≤ length old.items) (sym c.forget_version.ensures.items) (shorter_without c.args.id.now old.items) in
    (old, was, subst (λ (xs : Vec Version). length xs.items ≤ length old.items) same short, subst (λ (xs : Vec Version). vec_capacity xs ≡ vec_capacity old) same c.forget_version.ensures.capacity)

pub returns-in-None-clause-none : goal.returns-in-None-clause-none
returns-in-None-clause-none c = λ t. absurd (false≢true t)

pub returns-in-None-clause-here : goal.returns-in-None-clause-here
returns-in-None-clause-here c =
    let none : lookup (same_id c.args.origin.now) c.args.messages.now.entries ≡ None = sym (c.in-None.ensures {u = tt}).value in
    ap (λ m. versions_at m.entries c.args.origin.now) c.get_mut.follows.holds-at-none ∙ ap versions_or_none none ∙ ap (without_version c.args.id.now) (sym (ap versions_or_none none))

pub returns-in-None-clause-some : goal.returns-in-None-clause-some
returns-in-None-clause-some c = λ f vs e.
    let none : lookup (same_id c.args.origin.now) c.args.messages.now.entries ≡ None = sym (c.in-None.ensures {u = tt}).value in
    let k : ◌≡◌ {A = Option (Vec Version)} None (Some vs) = sym none ∙ sym (ap (λ m. lookup (same_id c.args.origin.now) m.entries) c.get_mut.follows.holds-at-none) ∙ e in
    absurd cc

pub returns-in-None-clause-places : goal.returns-in-None-clause-places
returns-in-None-clause-places c = λ vs e.
    let none : lookup (same_id c.args.origin.now) c.args.messages.now.entries ≡ None = sym (c.in-None.ensures {u = tt}).value in
    let k : ◌≡◌ {A = Option (Vec Version)} None (Some vs) = sym none ∙ sym (ap (λ m. lookup (same_id c.args.origin.now) m.entries) c.get_mut.follows.holds-at-none) ∙ e in
    absurd cc
