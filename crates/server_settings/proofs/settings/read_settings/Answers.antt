use Rattle.std.proofs.Common.{◌∙◌, ◌++◌, ℕ, List, ap, rules}
use Rattle.clap.specs.Words.{found_of}
use Rattle.server_settings.specs.Settings.{join_names_of}
use Rattle.server_settings.proofs.LinkLemmas.{linked_is}
use Rattle.server_settings.proofs.WordLemmas.{journal_is_named, store_is_named}
use Rattle.server_settings.proofs.settings.read_settings.Goals as goal

pub returns : goal.returns
returns c =
    record {
      access = search rules;
      limits = search rules;
      journal = journal_is_named (found_of c.in-Ok.matches) _ c.get_str.result _ c.in-Ok.ensures c.get_str.ensures c.in-Ok-journal_bound.ensures;
      store = store_is_named (found_of c.in-Ok.matches) _ c.get_str-store.result c.in-Ok.ensures c.get_str-store.ensures;
      replicas = search rules;
      joins = search rules;
      rev1 = search rules;
      links = search rules;
      names = search rules;
      peers = search rules;
      among = search rules;
      linked =
          linked_is c.in-Ok-links_of.links c.may_be_linked-is_linkable.result c.in-Ok-replicas_in.places.items c.in-Ok-joins_in.joins.items c.get_str-store.result _ c.in-Ok-links_of.ensures.linkable
          (λ yes. let m = c.may_be_linked-is_linkable.ensures yes in (search rules, search rules, m.2))
          (c.in-Ok-joins_in.ensures.more ∙ ap (λ (xs : List ℕ). xs ++ join_names_of c.in-Ok-joins_in.joins.items) c.in-Ok-replicas_in.ensures.same) c.in-Ok-links_of.ensures.names;
    }
