use Rattle.std.proofs.Common.{◌≡◌, ◌∙◌, ◌++◌, ◌∷◌, ◌-◌, ap, sym, true, ne_eqb, slice_set}
use Rattle.std.proofs.lemmas.Bool.{and_parts}
use Rattle.imap_query.specs.PatternRows.{is_match}
use Rattle.imap_query.specs.PatternForms.{ends_with_wildcard}
use Rattle.imap_query.proofs.PatternFormLemmas.{percent_left_out, star_appended}
use Rattle.imap_query.proofs.pattern.add.Goals as goal

pub returns-then-octet-eq42 : goal.returns-then-octet-eq42
returns-then-octet-eq42 c rest name =
    let wild = and_parts _ _ (sym c.are_wildcards.ensures ∙ c.if-not-are_wildcards.false) in
    let h : ends_with_wildcard c.args.made.now.items ≡ true = ap ends_with_wildcard (sym c.deref.ensures.value) ∙ wild.0 in
    let n = c.len-last.ensures ∙ c.args.made.now.ok.0 in
    star_appended c.args.made.now.items _ h (ap (λ k. slice_set c.args.made.now.items (k - 1) 42) n) rest name
    ∙ ap (λ o. is_match (c.args.made.now.items ++ o ∷ rest) name) (sym c.if-octet-eq42.true)

pub returns-else-octet-eq42 : goal.returns-else-octet-eq42
returns-else-octet-eq42 c rest name =
    let wild = and_parts _ _ (sym c.are_wildcards.ensures ∙ c.if-not-are_wildcards.false) in
    let h : ends_with_wildcard c.args.made.now.items ≡ true = ap ends_with_wildcard (sym c.deref.ensures.value) ∙ wild.0 in
    percent_left_out c.args.octet c.args.made.now.items h wild.1 (ne_eqb _ _ c.if-octet-eq42.false) rest name
