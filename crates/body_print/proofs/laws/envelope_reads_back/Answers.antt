use Rattle.body_print.specs.Envelopes.{envelope_of}
use Rattle.body_print.proofs.BoundLemmas.{envelope_bounded}
use Rattle.body_print.proofs.ReadBackLemmas.{reads_back}
use Rattle.body_print.proofs.laws.envelope_reads_back.Goals as goal

pub returns : goal.returns
returns c = record { bounded = envelope_bounded; reads_back = λ header. reads_back (envelope_of header) }
