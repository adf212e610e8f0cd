use Rattle.std.proofs.Common.{List, ℕ, ap}
use Rattle.rev1_front.specs.ClientFrames.{search_word}
use Rattle.rev1_front.specs.FrameForms.{reworded}
use Rattle.rev1_front.proofs.ClientLemmas.{asks_by, asks_none, none_along, spelled_along, spelled_none, spelled_some}
use Rattle.rev1_front.proofs.search_commands.ask_days.Goals as goal

pub returns-in-None : goal.returns-in-None
returns-in-None c =
    let frame = reworded c.args.tag.now c.search_word.result.now c.args.rest.now in
    let given = reworded c.args.tag.now (search_word c.args.by_uid) c.args.rest.now in
    asks_none c.args.by_uid c.args.tag.now c.args.rest.now
    (none_along frame given (ap (λ (w : List ℕ). reworded c.args.tag.now w c.args.rest.now) c.search_word.ensures) (spelled_none frame c.in_ok-parse_parts.field-0 c.in_ok-parse_parts.ensures c.in-None.is))

pub returns-in-Some : goal.returns-in-Some
returns-in-Some c =
    let frame = reworded c.args.tag.now c.search_word.result.now c.args.rest.now in
    let given = reworded c.args.tag.now (search_word c.args.by_uid) c.args.rest.now in
    asks_by c.fetch_texts.result c.args.by_uid c.args.tag.now c.args.rest.now c.in-Some.search
    (spelled_along frame given (ap (λ (w : List ℕ). reworded c.args.tag.now w c.args.rest.now) c.search_word.ensures) c.in-Some.search (spelled_some frame c.in_ok-parse_parts.field-0 c.in_ok-parse_parts.ensures c.in-Some.search c.in-Some.is))
    c.fetch_texts.ensures
