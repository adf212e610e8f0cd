use Rattle.std.proofs.Common.{◌≡◌, ◌∷◌, [], ◌++◌, ◌∙◌, ap, List, Result}
use Rattle.imap_lex.specs.Frames.{AreFrames}
use Rattle.imap_lex.specs.Framing.{Cut, FrameProgress, cut_from, start}
use Rattle.imap_lex.specs.declared.fault.FrameFaultKind.{FrameFaultKind}
use Rattle.imap_lex.specs.declared.item.Item.{Item}
use Rattle.imap_lex.specs.declared.limits.Limits.{Limits}
use Rattle.imap_lex.proofs.FrameLemmas.{cut_of_frames}
use Rattle.std.specs.Prelude.{ℕ, Ok}
use Rattle.imap_connection.specs.Streams.{Piece, items_of, octets_in, items_without_moments}
use Rattle.imap_connection.proofs.StreamLemmas.{talks_joined, last_talk_joined, untimed_whole}
use Rattle.imap_connection.proofs.laws.commands_are_answered.Goals as goal

-- the items of pieces whose octets are these frames
just_these : (limits : Limits) (state : Result FrameProgress FrameFaultKind) (pieces : List Piece) (items : List Item) (rest : List ℕ) → state ≡ Ok start → AreFrames limits (octets_in pieces) items rest
    → items_without_moments (items_of limits state pieces) ≡ items
just_these limits state pieces items rest e f =
    untimed_whole limits state pieces ∙ ap (λ (s : Result FrameProgress FrameFaultKind). (cut_from limits s (octets_in pieces)).0) e ∙ ap (λ (c : Cut). c.0) (cut_of_frames limits _ rest items f).1

pub returns : goal.returns
returns c = record {
  runs = λ r items rest e t f. ((talks_joined r.old r.new r.session r.limits r.before r.after r.pieces r.turns t).0, just_these r.limits r.before r.pieces items rest e f);
  last = λ r l items rest e t b f. (
    last_talk_joined r.old r.new l.new r.session r.limits r.before r.after l.after r.pieces l.piece r.turns l.turns b.0 t b.1,
    just_these r.limits r.before (r.pieces ++ l.piece ∷ []) items rest e f,
  );
}
