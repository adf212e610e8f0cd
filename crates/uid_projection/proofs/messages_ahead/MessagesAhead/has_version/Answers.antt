use Rattle.std.proofs.Common.{inl, inr, sym, ap, refl, ◌∙◌}
use Rattle.std.specs.List.{list_any}
use Rattle.std.proofs.lemmas.Bool.{cases_Bool}
use Rattle.uid_projection.specs.TagChanges.{tag_data_of, change_of, ids_listed, is_version, list_of}
use Rattle.uid_projection.proofs.TagChangesLemmas.{any_version, no_version, version_source}
use Rattle.uid_projection.proofs.messages_ahead.MessagesAhead.has_version.Goals as goal

pub returns-then-has_listed : goal.returns-then-has_listed
returns-then-has_listed c = λ whole. (
  λ t. any_version (λ i. i) (tag_data_of c.args.self.now) c.args.origin.now _ (sym c.has_listed.ensures ∙ t),
  λ h. c.if-has_listed.true,
)

pub returns-else-has_listed : goal.returns-else-has_listed
returns-else-has_listed c = λ whole. (
  c.has_stored.ensures.yes,
  λ h. elim (cases_Bool c.has_stored.result) [
    | inl t ↦ t
    | inr f ↦ elim (version_source c.args.self.now c.args.origin.now h.0 whole h.1 (change_of c.args.self.now h.0) refl) [
      | inl p ↦ absurd (c.has_stored.ensures.no f h.0 p.1 h.1)
      | inr p ↦ absurd (no_version (λ i. i) (tag_data_of c.args.self.now) c.args.origin.now (ids_listed (list_of c.args.self.now c.args.origin.now)) (sym (c.has_listed.ensures ∙ ap (λ x. list_any (is_version (tag_data_of c.args.self.now) c.args.origin.now) (ids_listed x)) c.get.ensures.value) ∙ c.if-has_listed.false) h.0 p.3 h.1)
    ]
  ],
)
