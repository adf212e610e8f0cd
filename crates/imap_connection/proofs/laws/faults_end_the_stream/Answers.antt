use Rattle.std.proofs.Common.{◌≡◌, List, ◌∷◌, [], ◌++◌, subst, sym, Result}
use Rattle.imap_lex.specs.Framing.{FrameProgress}
use Rattle.imap_lex.specs.declared.fault.FrameFaultKind.{FrameFaultKind}
use Rattle.imap_node.specs.Nodes.{IsActive, NodeState, with_session_closed}
use Rattle.imap_connection.specs.Conversation.{Converses, turns_of_answers}
use Rattle.imap_connection.specs.Streams.{AreTalks, items_of, items_without_moments}
use Rattle.imap_connection.specs.declared.turn.Turn.{Turn}
use Rattle.imap_connection.proofs.EndLemmas.{ends_append, frames_end}
use Rattle.imap_connection.proofs.laws.faults_end_the_stream.Goals as goal

pub returns : goal.returns
returns c = record {
  ends = λ r l why t b. ends_append r.old r.new l.new r.session r.limits r.before r.after r.pieces l.piece r.turns l.turns b.0 why t b.1;
  frames = λ r l items why bye g e t b f.
      let from_start = subst (λ (s : Result FrameProgress FrameFaultKind). AreTalks r.old r.session r.limits s r.pieces r.turns r.new r.after) e t in
      let given = λ (s : Result FrameProgress FrameFaultKind). items_of r.limits s (r.pieces ++ l.piece ∷ []) in
      subst
      (λ (s : Result FrameProgress FrameFaultKind). (before : List Turn) × (last : NodeState) × Converses r.old r.session (given s) before last × (items_without_moments (given s) ≡ items) × IsActive last r.session
      × (r.turns ++ l.turns ≡ before ++ turns_of_answers (bye ∷ [])) × (l.new ≡ with_session_closed last r.session)) (sym e)
      (frames_end r.old r.new l.new r.session r.limits r.after r.pieces l.piece r.turns l.turns items why bye g b.0 from_start f b.1);
}
