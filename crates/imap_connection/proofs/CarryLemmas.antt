use Rattle.std.proofs.Common.{List, [], ◌∷◌, ◌++◌, Result, Ok, Err, refl, subst}
use Rattle.imap_node.specs.declared.reply.Reply.{Reply}
use Rattle.imap_syntax.specs.declared.command.Tagged.{Tagged}
use Rattle.imap_connection.specs.PortCalls.{PortCall}
use Rattle.imap_connection.specs.PortCalls as asked
use Rattle.imap_connection.specs.Batches.{CarriesCommands}
use Rattle.imap_connection.specs.declared.fault.PortFault.{PortFault}

-- ---- commands given to a port, one after another

module _ {S : Type 0} (steps : S → PortCall → Result Reply PortFault → S → Type 0) where
  -- one further command
  pub carries_append : (all : List Tagged) (replies : List Reply) (old mid new : S) (one : Tagged) (reply : Reply) → CarriesCommands steps old all replies (Ok tt) mid → steps mid (asked.Command one) (Ok reply) new
      → CarriesCommands steps old (all ++ one ∷ []) (replies ++ reply ∷ []) (Ok tt) new
  carries_append [] [] old mid new one reply c s = (new, subst (λ (from : S). steps from (asked.Command one) (Ok reply) new) c s, refl)
  carries_append [] (r ∷ replies) old mid new one reply c s = absurd c
  carries_append (a ∷ all) [] old mid new one reply c s = absurd c
  carries_append (a ∷ all) (r ∷ replies) old mid new one reply c s = (c.0, c.1, carries_append all replies c.0 mid new one reply c.2 s)

  -- a fault at the next command
  pub carries_fault : (all rest : List Tagged) (replies : List Reply) (old mid new : S) (one : Tagged) (fault : PortFault) → CarriesCommands steps old all replies (Ok tt) mid → steps mid (asked.Command one) (Err fault) new
      → CarriesCommands steps old (all ++ one ∷ rest) replies (Err fault) new
  carries_fault [] rest [] old mid new one fault c s = subst (λ (from : S). steps from (asked.Command one) (Err fault) new) c s
  carries_fault [] rest (r ∷ replies) old mid new one fault c s = absurd c
  carries_fault (a ∷ all) rest [] old mid new one fault c s = absurd c
  carries_fault (a ∷ all) rest (r ∷ replies) old mid new one fault c s = (c.0, c.1, carries_fault all rest replies c.0 mid new one fault c.2 s)
