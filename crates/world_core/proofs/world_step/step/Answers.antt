use Rattle.std.proofs.Common.{sym, subst}
use Rattle.world_core.specs.declared.event.Event.{Event}
use Rattle.world_core.specs.declared.event.Event.TheVariants as events
use Rattle.world_core.specs.Replicas.{nodes_by_name, all_without_room}
use Rattle.world_core.specs.Steps.{Steps}
use Rattle.world_core.proofs.StepLemmas.{step_written}
use Rattle.world_core.proofs.world_step.step.Goals as goal

pub returns-in-Open : goal.returns-in-Open
returns-in-Open c = step_written c.args.nodes.now.items c.deref_mut.result.now c.open.new.nodes _ c.args.event (events.Open c.in-Open.at c.in-Open.auth) c.open.result c.in-Open.is c.deref_mut.ensures.value c.open.auto.nodes c.deref_mut.ensures.len c.open.ensures

pub returns-in-Command : goal.returns-in-Command
returns-in-Command c = step_written c.args.nodes.now.items c.deref_mut-in-Command.result.now c.command.new.nodes _ c.args.event (events.Command c.in-Command.at c.in-Command.session c.in-Command.moment c.in-Command.tagged) c.command.result c.in-Command.is c.deref_mut-in-Command.ensures.value c.command.auto.nodes c.deref_mut-in-Command.ensures.len c.command.ensures

pub returns-in-IdleLine : goal.returns-in-IdleLine
returns-in-IdleLine c = step_written c.args.nodes.now.items c.deref_mut-in-IdleLine.result.now c.idle_line.new.nodes _ c.args.event (events.IdleLine c.in-IdleLine.at c.in-IdleLine.session c.in-IdleLine.line) c.idle_line.result c.in-IdleLine.is c.deref_mut-in-IdleLine.ensures.value c.idle_line.auto.nodes c.deref_mut-in-IdleLine.ensures.len c.idle_line.ensures

pub returns-in-Poll : goal.returns-in-Poll
returns-in-Poll c = step_written c.args.nodes.now.items c.deref_mut-in-Poll.result.now c.poll.new.nodes _ c.args.event (events.Poll c.in-Poll.at c.in-Poll.session) c.poll.result c.in-Poll.is c.deref_mut-in-Poll.ensures.value c.poll.auto.nodes c.deref_mut-in-Poll.ensures.len c.poll.ensures

pub returns-in-Deliver : goal.returns-in-Deliver
returns-in-Deliver c = step_written c.args.nodes.now.items c.deref_mut-in-Deliver.result.now c.deliver.new.nodes _ c.args.event (events.Deliver c.in-Deliver.at c.in-Deliver.id) c.deliver.result c.in-Deliver.is c.deref_mut-in-Deliver.ensures.value c.deliver.auto.nodes c.deref_mut-in-Deliver.ensures.len c.deliver.ensures

pub returns-in-Drain : goal.returns-in-Drain
returns-in-Drain c = step_written c.args.nodes.now.items c.deref_mut-in-Drain.result.now c.drain.new.nodes _ c.args.event (events.Drain c.in-Drain.at) c.drain.result c.in-Drain.is c.deref_mut-in-Drain.ensures.value c.drain.auto.nodes c.deref_mut-in-Drain.ensures.len c.drain.ensures

pub returns-in-Close : goal.returns-in-Close
returns-in-Close c = step_written c.args.nodes.now.items c.deref_mut-in-Close.result.now c.close.new.nodes _ c.args.event (events.Close c.in-Close.at c.in-Close.session) c.close.result c.in-Close.is c.deref_mut-in-Close.ensures.value c.close.auto.nodes c.deref_mut-in-Close.ensures.len c.close.ensures

pub returns-in-Join : goal.returns-in-Join
returns-in-Join c = subst (λ (x : Event). Steps (nodes_by_name (all_without_room c.args.nodes.now.items)) x c.join_step.result (nodes_by_name (all_without_room c.join_step.new.nodes.items))) (sym c.in-Join.is) c.join_step.ensures

pub returns-in-Restart : goal.returns-in-Restart
returns-in-Restart c = step_written c.args.nodes.now.items c.deref_mut-in-Restart.result.now c.restart.new.nodes _ c.args.event (events.Restart c.in-Restart.at) c.restart.result c.in-Restart.is c.deref_mut-in-Restart.ensures.value c.restart.auto.nodes c.deref_mut-in-Restart.ensures.len c.restart.ensures
