use Rattle.std.proofs.Common.{◌≤◌, List, inl, inr, length, sym, subst, arith}
use Rattle.session_view.specs.declared.view_entry.ViewEntry.{ViewEntry}
use Rattle.session_view.proofs.WalkLemmas.{gone_shorter}
use Rattle.session_view.proofs.sync_plan.patch_in.Goals as goal

pub append_in_room-requires : goal.append_in_room-requires
append_in_room-requires c =
    let view = c.args.entries.now.items in
    let fewer : length c.take_all_out.new.entries.items ≤ length view =
    subst (λ (es : List ViewEntry). length es ≤ length view) (sym c.take_all_out.ensures) (gone_shorter c.deref.result.now view) in
    elim c.requires [
      | inl none ↦ inl none
      | inr room ↦ inr (let most : length view ≤ c.args.patch.place.most = room.0 in omega arith, room.1)
    ]
