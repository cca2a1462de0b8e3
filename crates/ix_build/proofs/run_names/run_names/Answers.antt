use Rattle.std.proofs.Common.{◌≡◌, ◌++◌, ◌∷◌, [], length, map, sym, ap, subst, ◌∙◌, arith}
use Rattle.std.proofs.lemmas.List.{length-map, map_push}
use Rattle.ix_files.specs.Locations.{place_of}
use Rattle.ix_build.specs.RunNames.{AreRunNames, run_place}
use Rattle.ix_build.proofs.RunNameLemmas.{one_more_named}
use Rattle.ix_build.proofs.run_names.run_names.Goals as goal

pub loop-place-preserved : goal.loop-place-preserved
loop-place-preserved c =
    let inv = c.loop-place.invariant in
    let folder = c.args.folder.now in
    let old = c.loop-place.names.items in
    let at = c.in_ok-new.field-0 in
    let here = c.in_ok-new.ensures in
    let counted : c.loop-place.place ≡ length (map place_of old) = omega (arith, length-map old place_of, c.loop-place.names.ok.0, inv.counted) in
    let in_folder = here.folder ∙ c.in_ok-folder.ensures.ok in
    let named = here.name ∙ c.in_ok-name.ensures in
    let is : place_of at ≡ run_place folder c.loop-place.place = (λ i. record { folder = in_folder i; name = named i }) in
    let more = one_more_named folder (map place_of old) (place_of at) inv.named (is ∙ ap (run_place folder) counted) in
    let all : map place_of c.push_reserved.new.self.items ≡ map place_of old ++ place_of at ∷ [] = ap (map place_of) c.push_reserved.ensures.items ∙ map_push place_of old at in
    record {
      named = subst (AreRunNames folder) (sym all) more;
      counted = omega (arith, inv.counted, c.push_reserved.ensures.len);
      room = omega (arith, inv.room, c.push_reserved.ensures.capacity);
    }
