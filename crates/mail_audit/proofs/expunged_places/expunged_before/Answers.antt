use Rattle.std.proofs.Common.{◌+◌, leb, rules}
use Rattle.std.proofs.lemmas.Fn.{always_returns_same}
use Rattle.mail_audit.proofs.ExpungedLemmas.{first_in_front, is_leb, leb_false, leb_true}
use Rattle.mail_audit.proofs.expunged_places.expunged_before.Goals as goal

pub returns : goal.returns
returns c =
    let expunged = c.args.expunged.now in
    let skipped = c.args.skipped in
    let same = always_returns_same _ _ _ (λ a r f called. search (rules, is_leb)) in
    let point = c.partition_point.ensures.point (λ i place. leb place (skipped + i)) same (first_in_front expunged c.requires.0 skipped c.requires.1) in
    record {
      within = c.partition_point.ensures.within;
      front = λ i below. leb_true _ _ (point.pass i 0 below);
      back = λ i from inside. leb_false _ _ (point.fail i 0 from inside);
    }
