use Rattle.std.proofs.Common.{◌∙◌, ◌≤◌, arith, sym, subst}
use Rattle.folder_state.specs.FolderTables.{FolderTables}
use Rattle.folder_state.specs.OpRoom.{AreRoomierLists}
use Rattle.folder_state.proofs.MoreRoomLemmas.{filed_roomier, roomier_lists}
use Rattle.folder_state.proofs.folder.Folder.reserve.Goals as goal

pub invariant_of-self : goal.invariant_of-self
invariant_of-self c = filed_roomier c.self.inside.messages.entries c.reserve_versions.new.messages.entries c.reserve_versions.ensures.roomier c.self.inside.origins.entries c.self.invariant

pub returns-in-Some-clause-roomier : goal.returns-in-Some-clause-roomier
returns-in-Some-clause-roomier c =
    let same = c.reserve_places.ensures.same in
    let grown = c.reserve_places.ensures.grown in
    record {
      tags = (λ j. (c.self.view_is j).tags) ∙ same.0;
      origins = (λ j. (c.self.view_is j).origins) ∙ same.2;
      versions = subst (λ m. AreRoomierLists m c.reserve_versions.new.messages.entries) ((λ j. (c.self.view_is j).messages) ∙ same.1) c.reserve_versions.ensures.roomier;
      spare_tags = subst (λ (k : FolderTables). c.args.self.now.spare_tags ≤ k.spare_tags) (sym c.self.view_is) grown.0;
      spare_messages =
          let a = subst (λ (k : FolderTables). c.args.self.now.spare_messages ≤ k.spare_messages) (sym c.self.view_is) grown.1 in
          let b = c.reserve_versions.ensures.spare in
          omega (arith, a, b);
      spare_origins = subst (λ (k : FolderTables). c.args.self.now.spare_origins ≤ k.spare_origins) (sym c.self.view_is) grown.2;
    }

pub returns-in-None-clause-roomier : goal.returns-in-None-clause-roomier
returns-in-None-clause-roomier c =
    let same = c.reserve_places.ensures.same in
    let grown = c.reserve_places.ensures.grown in
    record {
      tags = same.0;
      origins = same.2;
      versions = subst (λ m. AreRoomierLists m c.reserve_places.new.self.messages) same.1 (roomier_lists c.reserve_places.new.self.messages);
      spare_tags = grown.0;
      spare_messages = grown.1;
      spare_origins = grown.2;
    }
