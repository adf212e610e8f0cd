use Rattle.std.proofs.Common.{rules, ◌≡◌, ◌∙◌, ◌+◌, cond, ap}
use Rattle.std.specs.Str.{bytes_eq}
use Rattle.folder_state.specs.OpRoom.{count_of_name}
use Rattle.folder_state.proofs.Counting.{counted_more, on_ok_by}
use Rattle.folder_state.proofs.Lenses.{same_name}
use Rattle.folder_state.proofs.tag_counts.count_name.Goals as goal

pub returns-in-Some : goal.returns-in-Some
returns-in-Some c =
    let old = c.args.counts.now.entries in
    let name = c.args.name.now in
    let more : c.in-Some.more ≡ count_of_name name old + 1 = search rules in
    on_ok_by c.put_name.result (λ h n. h n ∙ ap (λ m. cond (bytes_eq n name) m (count_of_name n old)) more ∙ counted_more (bytes_eq n name) (count_of_name name old) (count_of_name n old) (λ t. ap (λ m. count_of_name m old) (same_name n name t))) c.put_name.ensures
