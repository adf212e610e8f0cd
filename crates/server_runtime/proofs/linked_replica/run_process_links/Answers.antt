use denote.Param.Send.{sendable}
use Rattle.server_runtime.proofs.ThreadLemmas.{linked_sync}
use Rattle.server_runtime.proofs.linked_replica.run_process_links.Goals as goal

pub serve_links-requires-sync-P : goal.serve_links-requires-sync-P
serve_links-requires-sync-P g c κs within = search (linked_sync, sendable) depth 60 fits 20000
