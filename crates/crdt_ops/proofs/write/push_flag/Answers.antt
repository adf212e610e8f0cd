use Rattle.std.proofs.Common.{◌++◌, [], sym, ap, ◌∙◌}
use Rattle.std.proofs.lemmas.List.{append-nil}
use Rattle.crdt_ops.proofs.TextLemmas.{extends_of_append, spaced_append, spaced_none}
use Rattle.crdt_ops.proofs.write.push_flag.Goals as goal

pub returns-then-not-is_set-clause-ok : goal.returns-then-not-is_set-clause-ok
returns-then-not-is_set-clause-ok c = λ before front h. spaced_none before c.args.out.now.items front c.args.flag.now c.args.is_first c.args.is_set h c.if-not-is_set.true

pub returns-then-not-is_set-clause-extended : goal.returns-then-not-is_set-clause-extended
returns-then-not-is_set-clause-extended c = ([], sym (append-nil c.args.out.now.items))

pub returns-in_err-push_separator-clause-extended : goal.returns-in_err-push_separator-clause-extended
returns-in_err-push_separator-clause-extended c = c.push_separator.ensures.extended

pub returns-in_err-push_octets-clause-extended : goal.returns-in_err-push_octets-clause-extended
returns-in_err-push_octets-clause-extended c = extends_of_append _ _ _ _ c.in_ok-push_separator.ensures.ok c.push_octets.ensures.extended

pub returns-clause-ok : goal.returns-clause-ok
returns-clause-ok c = λ before front h.
    spaced_append before c.args.out.now.items c.push_octets.new.out.items front c.args.flag.now c.args.is_first c.args.is_set h c.if-not-is_set.false
    (c.in_ok-push_octets.ensures.ok ∙ ap (λ xs. xs ++ c.args.flag.now) c.in_ok-push_separator.ensures.ok)

pub returns-clause-extended : goal.returns-clause-extended
returns-clause-extended c = extends_of_append _ _ _ _ c.in_ok-push_separator.ensures.ok c.in_ok-push_octets.ensures.extended
