use Rattle.std.proofs.Common.{Bool, List, ℕ, [], Some, true, false, ap, sym, ◌∙◌}
use Rattle.rev1_front.specs.SearchReading.{search_read}
use Rattle.rev1_front.specs.SearchSteps.{shown_arguments}
use Rattle.rev1_front.proofs.ClientLemmas.{days_by, undated_by}
use Rattle.rev1_front.proofs.search_commands.search_without_days.Goals as goal

pub returns-then-asks_sent : goal.returns-then-asks_sent
returns-then-asks_sent c =
    days_by c.ask_days.result c.args.mode c.args.parts.frame.now c.args.by_uid c.args.parts.tag.now c.deref.result.now (search_read [] c.args.parts.rest.now)
    (ap (λ (o : List ℕ). Some (o, true)) c.deref.ensures.value ∙ ap (λ (b : Bool). Some (c.in-Profile.rest.items, b)) (sym c.if-asks_sent.true) ∙ ap shown_arguments (sym c.in-Profile.is) ∙ c.in_ok-search_arguments.ensures)
    c.ask_days.ensures

pub returns-else-asks_sent : goal.returns-else-asks_sent
returns-else-asks_sent c =
    undated_by c.take_keys.result c.args.mode c.args.parts.frame.now c.args.by_uid c.args.parts.tag.now c.deref-in-Profile.result.now (search_read [] c.args.parts.rest.now)
    (ap (λ (o : List ℕ). Some (o, false)) c.deref-in-Profile.ensures.value ∙ ap (λ (b : Bool). Some (c.in-Profile.rest.items, b)) (sym c.if-asks_sent.false) ∙ ap shown_arguments (sym c.in-Profile.is) ∙ c.in_ok-search_arguments.ensures)
    c.take_keys.ensures
