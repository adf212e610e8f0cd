-- The workloads' words on the command line.

use Rattle.std.specs.Prelude.{◌≢◌, ℕ, List, codes}
use Rattle.mail_bench.specs.declared.workload.Workload.{Workload}
use Rattle.mail_bench.specs.declared.workload.Workload.TheVariants as workloads

-- A workload's word on the command line.
abbrev pub word_of : Workload → List ℕ
word_of workloads.Noop = codes "noop"
word_of workloads.NoopPipelined = codes "noop-pipelined"
word_of workloads.AppendSmall = codes "append-1k"
word_of workloads.AppendLarge = codes "append-64k"
word_of workloads.FetchFlags = codes "fetch-flags"
word_of workloads.FetchBody = codes "fetch-body"
word_of workloads.Store = codes "store"
word_of workloads.SearchUnseen = codes "search-unseen"
word_of workloads.SearchSubject = codes "search-subject"
word_of workloads.Mixed = codes "mixed"
word_of workloads.Login = codes "login"
word_of workloads.IdleFanOut = codes "idle-fan-out"
word_of workloads.NoopBesideIdle = codes "noop-beside-idle"

-- No workload has this word.
abbrev pub NamesNone : List ℕ → Type 0
NamesNone word = (workload : Workload) → word_of workload ≢ word
