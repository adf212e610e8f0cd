use Rattle.std.proofs.Common.{sym, ◌∙◌}
use Rattle.uid_projection.specs.TagChanges.{tag_data_of}
use Rattle.uid_projection.proofs.TagChangesLemmas.{any_version, no_version_id}
use Rattle.uid_projection.proofs.overlay.has_stored_in.Goals as goal

pub returns-in-Some-clause-yes : goal.returns-in-Some-clause-yes
returns-in-Some-clause-yes c = λ t. any_version (λ v. v.id) (tag_data_of c.args.messages.now) c.args.origin.now c.in-Some.versions.now (sym c.has_one_of.ensures ∙ t)

pub returns-in-Some-clause-no : goal.returns-in-Some-clause-no
returns-in-Some-clause-no c = λ f i stored present. no_version_id (tag_data_of c.args.messages.now) c.args.origin.now c.in-Some.versions.now (sym c.has_one_of.ensures ∙ f) i (((c.in-Some.ensures {u = tt}).listed i).1 stored) present
