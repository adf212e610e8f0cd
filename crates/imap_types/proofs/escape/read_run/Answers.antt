use Rattle.std.proofs.Common.{◌≡◌, ◌++◌, ◌∷◌, ◌∙◌, [], List, None, ℕ, ap, sym, length, take, drop, get_or}
use Rattle.imap_types.specs.Escape.{unescape, with_octets_before}
use Rattle.imap_types.proofs.EscapeLemmas.{fails_on_nothing, front_whole, octet_added, run_added, run_before}
use Rattle.imap_types.proofs.escape.read_run.Goals as goal

pub returns-in_err-octet-in-len1-up-clause-none : goal.returns-in_err-octet-in-len1-up-clause-none
returns-in_err-octet-in-len1-up-clause-none c =
    fails_on_nothing c.from_residual-in_err-octet-in-len1-up.result (unescape c.args.escape c.args.text.now)
    (run_before c.args.escape c.plain_count.result c.args.text.now c.plain_count.ensures.each
    ∙ ap (with_octets_before (take c.plain_count.result c.args.text.now))
    (ap (unescape c.args.escape) (sym c.split_at.ensures.back ∙ sym (front_whole c.split_at.result.1.now c.in-len1-up.len_at_least)) ∙ c.in_err-octet-in-len1-up.ensures.none))

pub returns-in-empty-clause-read : goal.returns-in-empty-clause-read
returns-in-empty-clause-read c =
    ap (λ (others : List ℕ). with_octets_before c.extend_from_slice.new.self.items (unescape c.args.escape others)) c.split_at.ensures.back
    ∙ run_added c.args.escape c.plain_count.result c.args.text.now c.args.octets.now.items c.extend_from_slice.new.self.items c.plain_count.ensures.each
    (c.in_ok-extend_from_slice.ensures.items ∙ ap (λ (run : List ℕ). c.args.octets.now.items ++ run) c.split_at.ensures.front)

pub returns-in_ok-push-in-len1-up-clause-read : goal.returns-in_ok-push-in-len1-up-clause-read
returns-in_ok-push-in-len1-up-clause-read c =
    octet_added c.args.escape (with_octets_before c.args.octets.now.items (unescape c.args.escape c.args.text.now)) c.extend_from_slice.new.self.items c.push.new.self.items c.split_at.result.1.now c.in_ok-octet-in-len1-up.after.now c.in_ok-octet-in-len1-up.octet
    c.in-len1-up.len_at_least
    (ap (λ (others : List ℕ). with_octets_before c.extend_from_slice.new.self.items (unescape c.args.escape others)) c.split_at.ensures.back
    ∙ run_added c.args.escape c.plain_count.result c.args.text.now c.args.octets.now.items c.extend_from_slice.new.self.items c.plain_count.ensures.each
    (c.in_ok-extend_from_slice.ensures.items ∙ ap (λ (run : List ℕ). c.args.octets.now.items ++ run) c.split_at.ensures.front))
    c.in_ok-push-in-len1-up.ensures.items
    c.in_ok-octet-in-len1-up.ensures.spelling.0
