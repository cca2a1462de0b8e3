use Rattle.std.proofs.Common.{arith}
use Rattle.std.proofs.lemmas.Option.{slice_get_within}
use Rattle.ix_board.proofs.Closings.{got-map}
use Rattle.ix_files.specs.Locations.{place_of}
use Rattle.ix_build.proofs.run_names.is_among.Goals as goal

pub returns-clause-is_not : goal.returns-clause-is_not
returns-clause-is_not c = λ none among.
    let names = c.args.names.now in
    let name = got-map place_of names among.0 (place_of c.args.at.now) among.1 in
    let within = slice_get_within names among.0 name.0 name.1 in
    c.loop-index.invariant among.0 name.0 (omega (arith, within, c.loop-index-test.false)) name.1 name.2
