use Rattle.std.proofs.Common.{◌∙◌, ◌∷◌, ◌++◌, ◌+◌, [], ℕ, List, ap, append_assoc, map, sym, subst, take}
use Rattle.server_settings.specs.Links.{IsPeerText}
use Rattle.server_settings.specs.Settings.{AreTexts, names_of}
use Rattle.server_settings.specs.declared.settings.Place.{Place}
use Rattle.server_settings.proofs.LinkLemmas.{peer_names_append, texts_more}
use Rattle.server_settings.proofs.link_words.peers_of.Goals as goal

pub loop-text-preserved : goal.loop-text-preserved
loop-text-preserved c =
    let first = c.args.names.now.items in
    let peers = c.loop-text.peers.items in
    let more = c.in-Ok.ensures.more in
    let peer = more.0 in
    let name = peer.replica in
    record {
      names = c.in-Ok.ensures.names;
      same = more.1 ∙ ap (λ (xs : List ℕ). xs ++ name ∷ []) c.loop-text.invariant.same ∙ append_assoc first (names_of peers) (name ∷ [])
          ∙ ap (λ (xs : List ℕ). first ++ xs) (sym (peer_names_append peers peer)) ∙ ap (λ (ps : List Place). first ++ names_of ps) (sym more.3);
      texts = subst (AreTexts IsPeerText (map (λ text. text.now) (take (c.loop-text.text-index + 1) c.args.texts.now))) (sym more.3)
          (texts_more IsPeerText c.args.texts.now peers c.loop-text.text-index (record { ref_ptr = (0, 0); now = [] }) peer c.loop-text-test.true c.loop-text.invariant.texts more.2);
    }
