use Rattle.std.proofs.Common.{◌++◌, codes}
use Rattle.imap_answers.specs.AnswerText.{origin_text, section_text}
use Rattle.imap_answers.specs.Strings.{literal_text}
use Rattle.imap_print.proofs.ListsLemmas.{appends_append}
use Rattle.imap_print.proofs.part_printers.push_body.Goals as goal

pub returns : goal.returns
returns c =
    let h5 = rw c.as_bytes.ensures at c.in_ok-push_literal.ensures in
    let second = appends_append c.args.out.now.items _ _ (codes "BODY[") (section_text c.args.part.now.section) c.in_ok-push_text.ensures c.in_ok-push_section.ensures in
    let third = appends_append c.args.out.now.items _ _ (codes "BODY[" ++ section_text c.args.part.now.section) (codes "]") second c.in_ok-push_text-2.ensures in
    let fourth = appends_append c.args.out.now.items _ _ (codes "BODY[" ++ section_text c.args.part.now.section ++ codes "]") (origin_text c.args.part.now.origin) third c.in_ok-push_origin.ensures in
    let fifth = appends_append c.args.out.now.items _ _ (codes "BODY[" ++ section_text c.args.part.now.section ++ codes "]" ++ origin_text c.args.part.now.origin) (codes " ") fourth c.in_ok-push_text-3.ensures in
    appends_append c.args.out.now.items _ _ (codes "BODY[" ++ section_text c.args.part.now.section ++ codes "]" ++ origin_text c.args.part.now.origin ++ codes " ") (literal_text c.args.part.now.octets) fifth h5
