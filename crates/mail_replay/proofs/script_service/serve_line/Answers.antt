use Rattle.mail_replay.proofs.ConversationLemmas.{has_first_uid}
use Rattle.mail_replay.proofs.script_service.serve_line.Goals as goal

pub serve-requires : goal.serve-requires
serve-requires c = has_first_uid _ _ ((c.in_ok-meaning.ensures {u = tt}).ok)
