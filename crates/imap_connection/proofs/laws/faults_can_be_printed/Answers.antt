use Rattle.imap_connection.proofs.PrintableLemmas.{fault_printable, literal_printable}
use Rattle.imap_connection.proofs.laws.faults_can_be_printed.Goals as goal

pub returns : goal.returns
returns c = record {
  faults = λ frame answer. fault_printable frame answer;
  literals = λ front answer. literal_printable front answer;
}
