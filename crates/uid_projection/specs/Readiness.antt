-- Room and readiness for some operations are room and readiness for the first of them.

use Rattle.std.specs.Global.{Vec}
use Rattle.std.specs.Prelude.{ℕ, ◌≤◌, Option, None, Some, List, [], ◌∷◌, ◌++◌, length}
use Rattle.std.proofs.Common.{arith, ap, sym, subst, append_assoc, ◌∙◌}
use Rattle.merge_laws.proofs.Causal.{causal_front}
use Rattle.merge_laws.proofs.Lists.{in_front}
use Rattle.tags_clocks.specs.declared.id.OpId.{OpId}
use Rattle.crdt_ops.specs.declared.op.Op.{Op}
use Rattle.crdt_ops.specs.Tags.{name_of}
use Rattle.uid_projection.specs.declared.charts.Charts.{Charts}
use Rattle.uid_projection.specs.declared.chart.Chart.{Chart}
use Rattle.uid_projection.specs.Applied.{IsApplied}
use Rattle.uid_projection.specs.Following.{IsReadyFor}
use Rattle.uid_projection.specs.EntryMoves.{added_origin}
use Rattle.uid_projection.specs.ChartTable.{HasRooms, HasRoomsIn, chart_at, modseqs_of}

-- Room for more operations is room for fewer.
pub less_room : (origin : Option OpId) (m n i j : ℕ) (folder : List ℕ)
    (charts : List (Vec ℕ × Chart))
    → m ≤ n
    → i ≤ j
    → HasRooms origin n j folder charts
    → HasRooms origin m i folder charts
less_room origin m n i j folder charts l k r = fewer (chart_at folder charts) r
  where
    fewer : (c : Option Chart) → HasRoomsIn origin n j c → HasRoomsIn origin m i c
    fewer None h = h
    fewer (Some c) h = record {
      places = λ g e. let p = h.places g e in omega (arith, p, l);
      version_places = λ g e. let v = h.version_places g e in omega (arith, v, l);
      modseq_places = let s = h.modseq_places in omega (arith, s, k);
      highest = let q = h.highest in omega (arith, q, l);
      uidnext = h.uidnext;
    }

-- Charts that are ready for some operations are ready for the first of them.
pub ready_first : (x : Charts) (list : List Op) (o : Op) (os : List Op)
    → IsReadyFor x list (o ∷ os)
    → IsReadyFor x list (o ∷ [])
ready_first x list o os r = record {
  applied =
      let whole : IsApplied ((list ++ o ∷ []) ++ os) = subst IsApplied
      (sym (append_assoc list (o ∷ []) os)) r.applied in
      record {
        sound = λ p h. whole.sound p (in_front p (list ++ o ∷ []) os h);
        causal = causal_front (λ (p : Op). p.id) (λ p. p.clock) (list ++ o ∷ []) os whole.causal;
      };
  not_exhausted =
      λ e. let (front, p, back, k, h) = e in
      r.not_exhausted
      (front, p, back ++ os, ap (λ xs. xs ++ os) k ∙ append_assoc front (p ∷ back) os, h);
  rooms =
      λ p i about. less_room (added_origin p) 1 (length (o ∷ os)) (modseqs_of (o ∷ []))
      (modseqs_of (o ∷ os)) (name_of p.kind) x.charts.entries (omega arith) (omega arith)
      (r.rooms p (in_front p (o ∷ []) os i) about);
}
