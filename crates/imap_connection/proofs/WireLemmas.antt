use Rattle.std.proofs.Common.{◌≡◌, ◌≤◌, ◌-◌, ℕ, List, Option, None, Some, false, ap, sym, subst, arith, length, take, drop, length-drop, take-append-drop, take_all}
use Rattle.std.specs.Io.KnownBytes.{Appends}
use Rattle.imap_connection.specs.Devices.{TakesOctets, TakesAllOrPart}

-- a slice from a place to the end
pub slice-end : (xs : List ℕ) (s : ℕ) → take (length xs - s) (drop s xs) ≡ drop s xs
slice-end xs s = let len = length-drop s xs in take_all (length xs - s) (drop s xs) (omega arith)

-- the octets of a device of std, if they are known
took_appended : (old new : Option (List ℕ)) (octets : List ℕ) → Appends old new octets → TakesOctets old octets new
took_appended None new octets a = tt
took_appended (Some x) None octets a = absurd a
took_appended (Some x) (Some y) octets a = ap Some a

pub took_all : (old new : Option (List ℕ)) (octets : List ℕ) (sent : ℕ) → length octets ≤ sent → Appends old new (take sent octets) → TakesOctets old octets new
took_all old new octets sent l a = took_appended old new octets (subst (Appends old new) (take_all sent octets l) a)

pub took_some : (old new : Option (List ℕ)) (octets : List ℕ) (sent : ℕ) → Appends old new (take sent octets) → TakesAllOrPart false old octets new
took_some old new octets sent a = (take sent octets, drop sent octets, sym (take-append-drop sent octets), took_appended old new (take sent octets) a)
