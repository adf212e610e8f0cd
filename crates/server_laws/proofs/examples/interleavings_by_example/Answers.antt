use Rattle.server_laws.proofs.ExampleLemmas.{crossed_not_linked, joined_linked, two_interleavings, unissued_not_linked}
use Rattle.server_laws.proofs.examples.interleavings_by_example.Goals as goal

pub returns-clause-two : goal.returns-clause-two
returns-clause-two c = two_interleavings

pub returns-clause-joined : goal.returns-clause-joined
returns-clause-joined c = joined_linked

pub returns-clause-unissued : goal.returns-clause-unissued
returns-clause-unissued c = unissued_not_linked

pub returns-clause-crossed : goal.returns-clause-crossed
returns-clause-crossed c = crossed_not_linked
