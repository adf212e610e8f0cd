use Rattle.imap_lex.proofs.FrameLemmas.{cut_of_fault}
use Rattle.imap_lex.proofs.ReadLemmas.{fault_by_given}
use Rattle.imap_lex.proofs.laws.faults_come_first.Goals as goal

pub returns-clause-at : goal.returns-clause-at
returns-clause-at c = fault_by_given

pub returns-clause-converse : goal.returns-clause-converse
returns-clause-converse c = cut_of_fault
