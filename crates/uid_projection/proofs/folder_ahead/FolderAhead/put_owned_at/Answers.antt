use Rattle.std.proofs.Common.{ap, subst}
use Rattle.std.specs.Option.{option_map}
use Rattle.uid_projection.specs.FolderAhead.{IsOwnedAt}
use Rattle.uid_projection.proofs.IdLemmas.{on_ok_with}
use Rattle.uid_projection.proofs.folder_ahead.FolderAhead.put_owned_at.Goals as goal

pub returns-in_ok-owned_message-in-Some : goal.returns-in_ok-owned_message-in-Some
returns-in_ok-owned_message-in-Some c =
    on_ok_with c.put_owned.result
    (λ is. subst (λ x. IsOwnedAt c.args.self.now x c.args.fresh.now.entries c.put_owned.new.fresh.entries) (ap (option_map (λ e. e.0)) (c.in-Some.ensures {u = tt}).entry) (c.in_ok-owned_message-in-Some.field-0, c.in_ok-owned_message-in-Some.ensures {u = tt}, is))
    c.put_owned.ensures
