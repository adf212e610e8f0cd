use Rattle.std.proofs.Common.{◌≡◌, false, ◌+◌, List, [], ◌∷◌, ◌++◌, Ok, Err, length, refl, sym, ap, ◌∙◌, subst, append_assoc, append-nil, arith, rules}
use Rattle.std.proofs.lemmas.Grind.{common_steps}
use Rattle.std.proofs.lemmas.List.{nil_from_length}
use Rattle.std.specs.Vec.Iter.{into_iter_items}
use Rattle.imap_node.specs.declared.reply.Reply.{Reply}
use Rattle.imap_syntax.specs.declared.command.Tagged.{Tagged}
use Rattle.imap_connection.specs.Batches.{CarriesCommands}
use Rattle.server_runtime.specs.Calls.{StepsOnce}
use Rattle.imap_connection.proofs.CarryLemmas.{carries_append, carries_fault}
use Rattle.server_runtime.proofs.session_port.give_all.Goals as goal

pub loop-tagged-init : goal.loop-tagged-init
loop-tagged-init g c =
    record {
      carried = subst (λ (replies : List Reply). CarriesCommands (StepsOnce false) c.args.pass.now [] replies (Ok tt) c.args.pass.now) (sym c.requires.none) refl;
      session = c.requires.session;
      rest = sym c.into_iter-tagged-iterator.ensures.into_iter_gives.0;
      left = c.into_iter-tagged-iterator.ensures.into_iter_gives.1 ∙ search (rules, c.into_iter-tagged-iterator.ensures.into_iter_gives.0);
      len = search (rules, c.requires.none);
      capacity = refl;
    }

pub returns-in-Err : goal.returns-in-Err
returns-in-Err g c =
    let at = c.loop-tagged.invariant in
    let left = into_iter_items c.next.new.self in
    let split : c.args.commands.items ≡ c.loop-tagged.yielded ++ c.in-Some.tagged ∷ left = at.rest ∙ ap (λ (xs : List Tagged). c.loop-tagged.yielded ++ xs) c.in-Some.ensures.steps.0 in
    subst (λ (all : List Tagged). CarriesCommands (StepsOnce false) c.args.pass.now all c.loop-tagged.replies.items (Err c.in-Err.fault) c.give_command.new.pass) (sym split)
    (carries_fault (StepsOnce false) c.loop-tagged.yielded left c.loop-tagged.replies.items c.args.pass.now c.loop-tagged.pass c.give_command.new.pass c.in-Some.tagged c.in-Err.fault at.carried c.in-Err.ensures.response)

pub push_reserved-requires : goal.push_reserved-requires
push_reserved-requires g c =
    let at = c.loop-tagged.invariant in
    let left = into_iter_items c.next.new.self in
    let split : c.args.commands.items ≡ c.loop-tagged.yielded ++ c.in-Some.tagged ∷ left = at.rest ∙ ap (λ (xs : List Tagged). c.loop-tagged.yielded ++ xs) c.in-Some.ensures.steps.0 in
    let count : length c.args.commands.items ≡ length c.loop-tagged.yielded + (1 + length left) = grind (arith, common_steps, split) in
    omega (arith, count, c.requires.room, at.len, at.capacity)

pub loop-tagged-preserved : goal.loop-tagged-preserved
loop-tagged-preserved g c =
    let at = c.loop-tagged.invariant in
    let left = into_iter_items c.next.new.self in
    let split : c.args.commands.items ≡ c.loop-tagged.yielded ++ c.in-Some.tagged ∷ left = at.rest ∙ ap (λ (xs : List Tagged). c.loop-tagged.yielded ++ xs) c.in-Some.ensures.steps.0 in
    let more = carries_append (StepsOnce false) c.loop-tagged.yielded c.loop-tagged.replies.items c.args.pass.now c.loop-tagged.pass c.give_command.new.pass c.in-Some.tagged c.in-Ok.reply at.carried c.in-Ok.ensures.response in
    record {
      carried = subst (λ (replies : List Reply). CarriesCommands (StepsOnce false) c.args.pass.now (c.loop-tagged.yielded ++ c.in-Some.tagged ∷ []) replies (Ok tt) c.give_command.new.pass) (sym c.push_reserved.ensures.items) more;
      session = c.in-Ok.ensures.session refl;
      rest = split ∙ sym {A = List Tagged} (append_assoc c.loop-tagged.yielded (c.in-Some.tagged ∷ []) left);
      left = grind (arith, common_steps, at.left, c.in-Some.ensures.steps.0, c.in-Some.ensures.steps.1);
      len = grind (arith, common_steps, c.push_reserved.ensures.len, at.len);
      capacity = c.push_reserved.ensures.capacity ∙ at.capacity;
    }

pub returns : goal.returns
returns g c =
    let at = c.loop-tagged.invariant in
    let none : into_iter_items c.loop-tagged.tagged-iterator ≡ [] = nil_from_length (into_iter_items c.loop-tagged.tagged-iterator) (sym at.left ∙ c.in-None.ensures.steps.0) in
    let whole : c.args.commands.items ≡ c.loop-tagged.yielded = at.rest ∙ ap (λ (xs : List Tagged). c.loop-tagged.yielded ++ xs) none ∙ append-nil c.loop-tagged.yielded in
    subst (λ (all : List Tagged). CarriesCommands (StepsOnce false) c.args.pass.now all c.loop-tagged.replies.items (Ok tt) c.loop-tagged.pass) (sym whole) at.carried
