use Rattle.std.proofs.Common.{◌+◌, [], map, sym, subst, take}
use Rattle.server_settings.specs.Settings.{AreTexts, IsPlaceText}
use Rattle.server_settings.proofs.LinkLemmas.{texts_more}
use Rattle.server_settings.proofs.settings.places_of.Goals as goal

pub loop-text-preserved : goal.loop-text-preserved
loop-text-preserved c =
    let more = c.in-Ok.ensures.more in
    record {
      names = c.in-Ok.ensures.names;
      same = c.in-Ok.ensures.same;
      texts = subst (AreTexts IsPlaceText (map (λ text. text.now) (take (c.loop-text.text-index + 1) c.args.texts.now))) (sym more.2)
          (texts_more IsPlaceText c.args.texts.now c.loop-text.places.items c.loop-text.text-index (record { ref_ptr = (0, 0); now = [] }) more.0 c.loop-text-test.true c.loop-text.invariant.texts more.1);
    }
