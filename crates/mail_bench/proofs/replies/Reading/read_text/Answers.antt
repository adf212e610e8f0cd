use Rattle.std.proofs.Common.{◌∙◌}
use Rattle.mail_bench.proofs.ReplyLemmas.{scan_all_text, scan_is, scan_text_and_more}
use Rattle.mail_bench.proofs.replies.Reading.read_text.Goals as goal

pub returns-in_ok-push_text-in-Some-clause-scan : goal.returns-in_ok-push_text-in-Some-clause-scan
returns-in_ok-push_text-in-Some-clause-scan c =
    let scan = scan_text_and_more c.args.octets.now c.args.self.now.line.items c.in-Some.at c.in-Some.ensures.0.high c.in-Some.ensures.0.before in
    scan_is c.args.octets.now c.args.self.now.line.items _ _ _ _ _ scan (c.in_ok-push_text-in-Some.ensures.stage ∙ c.line_stage_after.ensures) c.in_ok-push_text-in-Some.ensures.line

pub returns-in_ok-push_text-in-None-clause-scan : goal.returns-in_ok-push_text-in-None-clause-scan
returns-in_ok-push_text-in-None-clause-scan c =
    let scan = scan_all_text c.args.octets.now c.args.self.now.line.items c.in-None.ensures in
    scan_is c.args.octets.now c.args.self.now.line.items _ _ _ _ _ scan c.in_ok-push_text-in-None.ensures.stage c.in_ok-push_text-in-None.ensures.line
