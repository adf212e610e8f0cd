use Rattle.std.proofs.Common.{[], append-nil, ◌∙◌, sym}
use Rattle.folder_state.proofs.folders.Folders.prepare_all.Goals as goal

pub returns-clause-prepared : goal.returns-clause-prepared
returns-clause-prepared c = record {
  copies = ([], c.in_ok-copies.ensures {u = tt} ∙ sym (append-nil c.args.ops.now));
  lists = c.in_ok-lists.ensures {u = tt};
  rooms = (c.in_ok-reserve_folders.ensures {u = tt}).rooms;
  dated_texts = (c.in_ok-reserve.ensures {u = tt}).ok;
}
