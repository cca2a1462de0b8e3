use Rattle.std.proofs.Common.{map, sym, subst}
use Rattle.ix_files.specs.Locations.{place_of}
use Rattle.ix_files.specs.Slots.{IsAmong}
use Rattle.ix_build.proofs.run_names.is_run_of.Goals as goal

pub returns-in-Ok-clause-is_not : goal.returns-in-Ok-clause-is_not
returns-in-Ok-clause-is_not g c = λ honest false is.
    let view = g.F.Files.view c.args.files.now in
    let names = c.in_ok-names.names.items in
    let among = (c.in_ok-names.ensures.runs honest (view.place c.args.path.now)).1 is in
    let here = subst (IsAmong (map place_of names)) (sym (c.in-Ok.ensures.located honest)) among in
    c.is_among.ensures.is_not false (subst (λ l. IsAmong (map place_of l) (place_of c.in-Ok.location)) (sym c.as_slice.ensures.value) here)
