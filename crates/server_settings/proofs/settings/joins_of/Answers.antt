use Rattle.std.proofs.Common.{◌≡◌, ◌∙◌, ◌∷◌, ◌++◌, ◌+◌, [], true, ℕ, List, ap, append_assoc, map, sym, subst, take}
use Rattle.server_settings.specs.Settings.{AreTexts, HavePeers, IsJoinText, is_named, join_names_of}
use Rattle.server_settings.specs.declared.settings.Join.{Join}
use Rattle.server_settings.proofs.LinkLemmas.{texts_more}
use Rattle.server_settings.proofs.NameLemmas.{join_names_append, peers_append}
use Rattle.server_settings.proofs.settings.joins_of.Goals as goal

pub loop-text-preserved : goal.loop-text-preserved
loop-text-preserved c =
    let first = c.args.names.now.items in
    let joins = c.loop-text.joins.items in
    let more = c.in-Ok.ensures.more in
    let join = more.0 in
    let name = join.place.replica in
    let named : is_named join.peer (first ++ join_names_of joins) ≡ true = subst (λ (xs : List ℕ). is_named join.peer xs ≡ true) c.loop-text.invariant.same more.2 in
    record {
      names = c.in-Ok.ensures.names;
      same = more.1 ∙ ap (λ (xs : List ℕ). xs ++ name ∷ []) c.loop-text.invariant.same ∙ append_assoc first (join_names_of joins) (name ∷ [])
          ∙ ap (λ (xs : List ℕ). first ++ xs) (sym (join_names_append joins join)) ∙ ap (λ (js : List Join). first ++ join_names_of js) (sym more.4);
      peers = subst (HavePeers first) (sym more.4) (peers_append first joins join c.loop-text.invariant.peers named);
      texts = subst (AreTexts IsJoinText (map (λ text. text.now) (take (c.loop-text.text-index + 1) c.args.texts.now))) (sym more.4)
          (texts_more IsJoinText c.args.texts.now joins c.loop-text.text-index (record { ref_ptr = (0, 0); now = [] }) join c.loop-text-test.true c.loop-text.invariant.texts more.3);
    }
