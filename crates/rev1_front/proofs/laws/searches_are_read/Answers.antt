use Rattle.rev1_front.proofs.SearchArgLemmas.{search_stays, search_taken}
use Rattle.rev1_front.proofs.laws.searches_are_read.Goals as goal

pub returns : goal.returns
returns c = record {
  replaced = λ days options steps text uids h. search_taken days options steps text uids h;
  stay = λ days options steps text h. search_stays days options steps text h;
}
