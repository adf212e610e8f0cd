-- Whether a node's reply carries out its input, and its answers.

use Rattle.std.specs.Prelude.{Bool, List, [], true, false}
use Rattle.imap_answers.specs.declared.answer.Answer.{Answer}
use Rattle.imap_node.specs.declared.reply.Reply.{Reply}
use Rattle.imap_node.specs.declared.reply.Reply.TheVariants.{Done, Refused}

-- The input was carried out.
abbrev pub is_done : Reply → Bool
is_done (Done answers silent issued) = true
is_done (Refused why closed) = false

-- The answers of a reply; a refusal has none.
abbrev pub reply_answers : Reply → List Answer
reply_answers (Done answers silent issued) = answers
reply_answers (Refused why closed) = []
