use Rattle.std.proofs.Common.{◌≡◌, List, ℕ, [], inr, refl, false, subst}
use Rattle.imap_connection.specs.Devices.{IsOutput, TakesAllOrPart}
use Rattle.imap_connection.specs.EndReasons.{bye_text_of}
use Rattle.imap_connection.proofs.ConversationsLemmas.{output_part, takes_part_append}
use Rattle.imap_connection.proofs.conversations.write_last.Goals as goal

pub returns-then-not-write_pending-clause-written : goal.returns-then-not-write_pending-clause-written
returns-then-not-write_pending-clause-written g c z =
    inr (refl, takes_part_append (g.K.Sink.taken c.args.sink.now) (g.K.Sink.taken c.write_pending.new.sink) c.args.text.now.items (bye_text_of c.args.ended) c.if-not-write_pending.ensures.output)

pub returns-then-not-write_bye-clause-written : goal.returns-then-not-write_bye-clause-written
returns-then-not-write_bye-clause-written g c z =
    let first = g.K.Sink.taken c.args.sink.now in
    let mid = g.K.Sink.taken c.write_pending.new.sink in
    let last = g.K.Sink.taken c.write_bye.new.sink in
    let bye = bye_text_of c.args.ended in
    let none : c.write_pending.new.text.items ≡ [] = c.if-not-write_pending.ensures.none in
    let output : IsOutput first c.args.text.now.items [] mid [] = subst (λ (t : List ℕ). IsOutput first c.args.text.now.items [] mid t) none c.if-not-write_pending.ensures.output in
    let lost : TakesAllOrPart false mid bye last = subst (λ (t : List ℕ). TakesAllOrPart false mid t last) c.bye_text_of.ensures c.if-not-write_bye.ensures.octets in
    inr (refl, output_part first mid last c.args.text.now.items [] [] bye output lost)
