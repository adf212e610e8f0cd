use Rattle.std.proofs.Common.{◌≢◌, ◌<◌, ℕ, List, [], ◌∷◌, arith, get_or}
use Rattle.mail_bench.specs.Workloads.{NamesNone, word_of}
use Rattle.mail_bench.specs.declared.workload.Workload.{Workload}
use Rattle.mail_bench.specs.declared.workload.Workload.TheVariants as workloads

-- all workloads, in the order of the code
abbrev pub all : List Workload
all = workloads.Noop ∷ workloads.NoopPipelined ∷ workloads.AppendSmall ∷ workloads.AppendLarge ∷ workloads.FetchFlags ∷ workloads.FetchBody ∷ workloads.Store ∷ workloads.SearchUnseen ∷ workloads.SearchSubject ∷ workloads.Mixed ∷ workloads.Login ∷ workloads.IdleFanOut ∷ workloads.NoopBesideIdle ∷ []

-- a word that differs from the word at each place names none of them
pub none_named : (word : List ℕ) → ((k : ℕ) → k < 13 → word_of (get_or all k workloads.Noop) ≢ word) → NamesNone word
none_named word h workloads.Noop = h 0 (omega arith)
none_named word h workloads.NoopPipelined = h 1 (omega arith)
none_named word h workloads.AppendSmall = h 2 (omega arith)
none_named word h workloads.AppendLarge = h 3 (omega arith)
none_named word h workloads.FetchFlags = h 4 (omega arith)
none_named word h workloads.FetchBody = h 5 (omega arith)
none_named word h workloads.Store = h 6 (omega arith)
none_named word h workloads.SearchUnseen = h 7 (omega arith)
none_named word h workloads.SearchSubject = h 8 (omega arith)
none_named word h workloads.Mixed = h 9 (omega arith)
none_named word h workloads.Login = h 10 (omega arith)
none_named word h workloads.IdleFanOut = h 11 (omega arith)
none_named word h workloads.NoopBesideIdle = h 12 (omega arith)
