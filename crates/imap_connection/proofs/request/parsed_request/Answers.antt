use Rattle.imap_connection.proofs.FaultLemmas.{fault_of_result}
use Rattle.imap_connection.proofs.request.parsed_request.Goals as goal

pub returns-in_ok-fault_answer-in-Err : goal.returns-in_ok-fault_answer-in-Err
returns-in_ok-fault_answer-in-Err c =
    fault_of_result c.args.octets.now c.in-Err.why c.in_ok-fault_answer-in-Err.field-0 c.parse.result c.in-Err.is c.parse.ensures.only c.parse.ensures.no_tag c.parse.ensures.unknown
    (c.in_ok-fault_answer-in-Err.ensures {u = tt})
