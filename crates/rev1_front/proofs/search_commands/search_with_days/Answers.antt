use Rattle.std.proofs.Common.{List, ℕ, Some, ap, sym, ◌∙◌}
use Rattle.rev1_front.specs.SearchReading.{search_read}
use Rattle.rev1_front.specs.SearchSteps.{shown_arguments}
use Rattle.rev1_front.proofs.ClientLemmas.{dated_by}
use Rattle.rev1_front.proofs.search_commands.search_with_days.Goals as goal

pub returns-in-Profile : goal.returns-in-Profile
returns-in-Profile c =
    dated_by c.take_keys.result c.args.mode c.args.parts.frame.now c.args.by_uid c.args.parts.tag.now c.deref.result.now (search_read c.args.days.now c.args.parts.rest.now) c.args.days.now c.in-Profile._asks_sent
    (ap (λ (o : List ℕ). Some (o, c.in-Profile._asks_sent)) c.deref.ensures.value ∙ ap shown_arguments (sym c.in-Profile.is) ∙ c.in_ok-search_arguments.ensures)
    c.take_keys.ensures
