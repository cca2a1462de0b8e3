-- What was read of the file is all of it.
use Rattle.std.proofs.Common.{◌<◌, length, arith}
use Rattle.ix_command.proofs.IndexLemmas.{index_room, opened_whole, refused_whole}
use Rattle.ix_files.specs.Reading.{held_in}
use Rattle.ix_command.proofs.index_file.open_index.Goals as goal

pub returns-in-Ok-open_beside-clause-opened : goal.returns-in-Ok-open_beside-clause-opened
returns-in-Ok-open_beside-clause-opened g c =
    let bytes = c.in-Ok.bytes in
    let short : length bytes.items < index_room = omega (arith, bytes.ok.0, bytes.ok.1, bytes.small) in
    opened_whole (held_in (g.F.Files.view c.args.files.now)) c.args.path.now bytes.items c.in-Ok-open_beside.volume c.in-Ok.ensures.front short c.in-Ok-open_beside.ensures.found

pub returns-in-Err-open_beside-clause-refused : goal.returns-in-Err-open_beside-clause-refused
returns-in-Err-open_beside-clause-refused g c =
    let bytes = c.in-Ok.bytes in
    let short : length bytes.items < index_room = omega (arith, bytes.ok.0, bytes.ok.1, bytes.small) in
    refused_whole (held_in (g.F.Files.view c.args.files.now)) c.args.path.now bytes.items c.in-Err-open_beside.error c.in-Ok.ensures.front short c.in-Err-open_beside.ensures.exact
