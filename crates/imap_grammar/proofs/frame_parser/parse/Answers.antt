use Rattle.imap_grammar.proofs.FrameLaws.{parse_spelled, parse_only, parse_no_tag, parse_unknown}
use Rattle.imap_grammar.proofs.frame_parser.parse.Goals as goal

pub returns : goal.returns
returns c =
    let answer = c.parse_frame.result in
    let frame = c.args.frame.now in
    let known = c.parse_frame.ensures in
    record {
      spelled = parse_spelled answer frame known;
      only = parse_only answer frame known;
      no_tag = parse_no_tag answer frame known;
      unknown = parse_unknown answer frame known;
    }
