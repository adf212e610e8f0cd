use Rattle.std.proofs.Common.{List, [], refl, sym, subst}
use Rattle.world_core.specs.declared.event.Event.{Event}
use Rattle.world_core.specs.Headline.{Headline}
use Rattle.world_core.specs.Replicas.{nodes_by_name}
use Rattle.world_core.specs.Steps.{Runs}
use Rattle.world_core.proofs.HeadLemmas.{run_holds, run_length, run_none}
use Rattle.world_core.proofs.RunLemmas.{all_taken, ascending_then, converges_then, determined_then, none_taken, sound_then, stays_lasting}
use Rattle.world_core.proofs.run_events.run.Goals as goal

pub returns-in-Ok-clause-steps : goal.returns-in-Ok-clause-steps
returns-in-Ok-clause-steps c =
    let r = c.run_whole.result in
    subst (λ (es : List Event). Runs (nodes_by_name c.args.world) es r.list.items (nodes_by_name r.world)) (sym (all_taken (nodes_by_name c.args.world) (nodes_by_name r.world) c.args.events.items r.list.items c.run_whole.ensures.steps)) c.run_whole.ensures.steps

pub returns-in-Ok-clause-whole : goal.returns-in-Ok-clause-whole
returns-in-Ok-clause-whole c = λ t. run_length (nodes_by_name c.args.world) (nodes_by_name c.run_whole.result.world) c.args.events.items c.run_whole.result.list.items c.run_whole.ensures.steps

pub returns-in-Ok-clause-headline : goal.returns-in-Ok-clause-headline
returns-in-Ok-clause-headline c =
    let r = c.run_whole.result in
    subst (λ (es : List Event). Headline (nodes_by_name c.args.world) es r.list.items (nodes_by_name r.world)) (sym (all_taken (nodes_by_name c.args.world) (nodes_by_name r.world) c.args.events.items r.list.items c.run_whole.ensures.steps)) c.run_whole.ensures.headline

pub returns-in-Err-clause-headline : goal.returns-in-Err-clause-headline
returns-in-Err-clause-headline c = none_taken c.args.world c.args.events.items c.new.result.items c.new.ensures.items c.nodes-nodes.ensures.fair

pub returns-in-Ok-clause-determined : goal.returns-in-Ok-clause-determined
returns-in-Ok-clause-determined c = determined_then (nodes_by_name c.args.world) (nodes_by_name c.run_whole.result.world) c.args.events.items c.run_whole.result.list.items c.run_whole.ensures.headline

pub returns-in-Err-clause-determined : goal.returns-in-Err-clause-determined
returns-in-Err-clause-determined c = determined_then (nodes_by_name c.args.world) (nodes_by_name c.args.world) [] [] (run_holds (nodes_by_name c.args.world) (nodes_by_name c.args.world) [] [] c.nodes-nodes.ensures.fair (run_none (nodes_by_name c.args.world) (nodes_by_name c.args.world) refl))

pub returns-in-Ok-clause-sound : goal.returns-in-Ok-clause-sound
returns-in-Ok-clause-sound c = sound_then (nodes_by_name c.args.world) (nodes_by_name c.run_whole.result.world) c.args.events.items c.run_whole.result.list.items c.run_whole.ensures.headline

pub returns-in-Err-clause-sound : goal.returns-in-Err-clause-sound
returns-in-Err-clause-sound c = sound_then (nodes_by_name c.args.world) (nodes_by_name c.args.world) [] [] (run_holds (nodes_by_name c.args.world) (nodes_by_name c.args.world) [] [] c.nodes-nodes.ensures.fair (run_none (nodes_by_name c.args.world) (nodes_by_name c.args.world) refl))

pub returns-in-Ok-clause-converges : goal.returns-in-Ok-clause-converges
returns-in-Ok-clause-converges c = converges_then (nodes_by_name c.args.world) (nodes_by_name c.run_whole.result.world) c.args.events.items c.run_whole.result.list.items c.run_whole.ensures.headline

pub returns-in-Err-clause-converges : goal.returns-in-Err-clause-converges
returns-in-Err-clause-converges c = converges_then (nodes_by_name c.args.world) (nodes_by_name c.args.world) [] [] (run_holds (nodes_by_name c.args.world) (nodes_by_name c.args.world) [] [] c.nodes-nodes.ensures.fair (run_none (nodes_by_name c.args.world) (nodes_by_name c.args.world) refl))

pub returns-in-Ok-clause-ascending : goal.returns-in-Ok-clause-ascending
returns-in-Ok-clause-ascending c = ascending_then (nodes_by_name c.args.world) (nodes_by_name c.run_whole.result.world) c.args.events.items c.run_whole.result.list.items c.run_whole.ensures.headline

pub returns-in-Err-clause-ascending : goal.returns-in-Err-clause-ascending
returns-in-Err-clause-ascending c = ascending_then (nodes_by_name c.args.world) (nodes_by_name c.args.world) [] [] (run_holds (nodes_by_name c.args.world) (nodes_by_name c.args.world) [] [] c.nodes-nodes.ensures.fair (run_none (nodes_by_name c.args.world) (nodes_by_name c.args.world) refl))

pub returns-in-Ok-clause-for_good : goal.returns-in-Ok-clause-for_good
returns-in-Ok-clause-for_good c = c.run_whole.ensures.for_good

pub returns-in-Err-clause-for_good : goal.returns-in-Err-clause-for_good
returns-in-Err-clause-for_good c = stays_lasting c.args.world c.nodes-nodes.ensures.fair
