use Rattle.std.proofs.Common.{◌≡◌, true, false, sym}
use Rattle.rev1_front.proofs.SearchLemmas.{asks_iff, asks_none}
use Rattle.rev1_front.proofs.form.asks_return.Goals as goal

pub returns-in-None : goal.returns-in-None
returns-in-None c = (λ e. absurd (let z : false ≡ true = e in cc), λ a. absurd (asks_none c.args.frame.now (sym c.in-None.ensures) a))

pub returns-in-Some : goal.returns-in-Some
returns-in-Some c = asks_iff c.args.frame.now (c.in-Some._tag.now, c.in-Some.rest.now) c.begins_search_return.result (sym c.in-Some.ensures) c.begins_search_return.ensures
