use Rattle.std.proofs.Common.{◌∙◌, ◌∷◌, ◌++◌, [], ◌+◌, ◌≤◌, List, Bool, true, false, cond, Option, None, Some, inl, inr, ap, sym, subst, arith}
use Rattle.std.specs.Global.{Vec}
use Rattle.tags_clocks.specs.declared.id.OpId.{OpId}
use Rattle.imap_types.specs.declared.version.Version.{Version}
use Rattle.crdt_ops.specs.declared.op.Op.{Op}
use Rattle.crdt_ops.specs.SortedSets.{is_some_id}
use Rattle.folder_state.specs.FolderTables.{find_folder}
use Rattle.folder_state.specs.OpRoom.{HasRoomFor, HaveLists, origin_of_op, added_version_count, counts_of}
use Rattle.folder_state.proofs.folders.Folders.prepare_one.Goals as goal

at_most_one : (b : Bool) → cond b 1 0 + 0 ≤ 1
at_most_one true = omega arith
at_most_one false = omega arith

-- one operation adds at most one version
at_most_one_version : (op : Op) (x : Option OpId) → counts_of (added_version_count (op ∷ [])) x ≤ 1
at_most_one_version op None = omega arith
at_most_one_version op (Some o) = at_most_one (is_some_id o (origin_of_op op.id op.kind))

pub returns-clause-prepared : goal.returns-clause-prepared
returns-clause-prepared c =
    let op = c.args.op.now in
    let folders = c.reserve_one.new.by_name.entries in
    let list = c.in_ok-list.list in
    let low = at_most_one_version op (origin_of_op op.id op.kind) in
    let places = (c.in_ok-list.ensures {u = tt}).exact in
    let has_room : HasRoomFor (op ∷ []) op (λ n. find_folder n folders) =
    subst (λ (o : Op). HasRoomFor (o ∷ []) o (λ n. find_folder n folders)) c.op.ensures.op (c.in_ok-reserve_one.ensures {u = tt}).room in
    record {
      copies = ([], (c.in_ok-push_back-2.ensures {u = tt}).items ∙ (λ k. c.clear-2.ensures.items k ++ c.in_ok-copy.ensures {u = tt} k ∷ []));
      lists = subst (HaveLists (op ∷ [])) (sym ((c.in_ok-push_back.ensures {u = tt}).items ∙ ap (λ (ls : List (Vec Version)). ls ++ list ∷ []) c.clear.ensures.items)) ((c.in_ok-list.ensures {u = tt}).items, omega (arith, low, places), tt);
      rooms = λ o h. elim h [
        | inl e ↦ subst (λ (p : Op). HasRoomFor (op ∷ []) p (λ n. find_folder n folders)) e has_room
        | inr n ↦ absurd n
      ];
      dated_texts = (c.in_ok-reserve.ensures {u = tt}).ok;
    }
