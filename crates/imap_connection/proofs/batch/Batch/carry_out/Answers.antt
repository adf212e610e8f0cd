use Rattle.std.proofs.Common.{◌≡◌, ◌≤◌, ◌∙◌, List, ℕ, inr, refl, sym, ap, subst, length}
use Rattle.imap_node.specs.declared.reply.Reply.{Reply}
use Rattle.imap_syntax.specs.declared.command.Tagged.{Tagged}
use Rattle.imap_connection.specs.Batches.{CarriesCommands, EndsInReply, tags_of}
use Rattle.imap_connection.proofs.BatchLemmas.{carries_fit}
use Rattle.imap_connection.proofs.batch.Batch.carry_out.Goals as goal

pub print_replies-requires : goal.print_replies-requires
print_replies-requires g c =
    let fit = carries_fit g.P.Port.steps c.tags.inside.commands.items c.commands-given.new.replies.items c.commands-given.result c.args.port.now c.commands-given.new.self c.commands-given.ensures in
    let tags = subst (λ (ts : List (List ℕ)). length c.commands-given.new.replies.items ≤ length ts) (sym c.tags.invariant.tags ∙ sym c.deref.ensures.value) fit in
    subst (λ (rs : List Reply). length rs ≤ length c.deref.result.now) (sym c.deref-2.ensures.value) tags

pub returns-in_default-print_replies-clause-err : goal.returns-in_default-print_replies-clause-err
returns-in_default-print_replies-clause-err g c =
    let h = c.in_default-print_replies.ensures.err in
    let whole : c.tags.inside.commands.items ≡ c.args.self.now = c.tags.view_is ∙ c.replace.ensures.value in
    let carries = subst (λ (all : List Tagged). CarriesCommands g.P.Port.steps c.args.port.now all c.commands-given.new.replies.items c.commands-given.result c.commands-given.new.self) whole c.commands-given.ensures in
    let tags = c.deref.ensures.value ∙ c.tags.invariant.tags ∙ ap tags_of whole in
    let of_tags = subst (λ (ts : List (List ℕ)). EndsInReply ts c.deref-2.result.now h.0) tags h.2 in
    let ends = subst (λ (rs : List Reply). EndsInReply (tags_of c.args.self.now) rs h.0) c.deref-2.ensures.value of_tags in (
      h.0,
      inr (c.commands-given.new.replies.items, c.commands-given.result, carries, inr (refl, ends)),
      h.1,
    )
