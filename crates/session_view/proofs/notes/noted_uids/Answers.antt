use Rattle.std.proofs.Common.{List, ℕ, sym, subst, ◌∙◌, arith}
use Rattle.session_view.specs.NoteChanges.{AreAscending}
use Rattle.session_view.specs.Notes.{NameAllDifferences}
use Rattle.session_view.proofs.ChangeLemmas.{covers_all, covers_noted, if_ok, rising_ascending}
use Rattle.session_view.proofs.notes.noted_uids.Goals as goal

pub returns-then-has_ended-clause-ascending : goal.returns-then-has_ended-clause-ascending
returns-then-has_ended-clause-ascending c =
    if_ok c.uids_of.result (λ uids same. subst (AreAscending 0) (sym same) (rising_ascending 0 1 c.args.view.now.items (omega arith) c.requires)) c.uids_of.ensures

pub returns-then-has_ended-clause-covers : goal.returns-then-has_ended-clause-covers
returns-then-has_ended-clause-covers c =
    if_ok c.uids_of.result (λ uids same rows names. subst (λ (us : List ℕ). NameAllDifferences us rows c.args.view.now.items) (sym same) (covers_all rows c.args.view.now.items)) c.uids_of.ensures

pub returns-clause-covers : goal.returns-clause-covers
returns-clause-covers c =
    if_ok c.ascending_uids.result
    (λ uids same rows names. covers_noted c.args.notes.now uids.items rows c.args.view.now.items c.requires (sym c.has_ended.ensures ∙ c.if-has_ended.false) same names)
    c.ascending_uids.ensures.same
