use Rattle.std.proofs.Common.{refl}
use Rattle.op_log.specs.Entries.{committed_entries}
use Rattle.op_log.proofs.ReaderLemmas.{contents_at_end}
use Rattle.op_log.proofs.reader.LogReader.finish.Goals as goal

pub returns : goal.returns
returns c = λ replica log h. (committed_entries h.lines.all, contents_at_end replica log c.args.self _ h c.truncate.ensures.items refl refl refl refl refl refl)
