use Rattle.rev1_front.specs.ClientFrames.{IsAuthenticate, IsPlainTaken}
use Rattle.rev1_front.proofs.AuthenticateLemmas.{plain_back, plain_to}
use Rattle.rev1_front.proofs.ResultLemmas.{lifted}
use Rattle.rev1_front.proofs.authentication.take_authenticate.Goals as goal

pub returns-in-None : goal.returns-in-None
returns-in-None c = λ other h. c.in-None.ensures h.0 h.1 h.2 h.3

pub returns-in-Some : goal.returns-in-Some
returns-in-Some c =
    let f = c.in-Some.ensures in
    let tag = c.args.tag.now in
    let rest = c.args.rest.now in
    let response = c.in-Some.response.now in
    lifted (IsPlainTaken tag response) (IsAuthenticate tag rest) c.take_plain.result (plain_to tag rest f.0 response f.1 f.2) (plain_back tag rest f.0 response f.1 f.2) c.take_plain.ensures
