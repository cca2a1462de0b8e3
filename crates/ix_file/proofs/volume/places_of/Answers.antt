use Rattle.std.proofs.Common.{◌-◌, length, arith}
use Rattle.ix_file.specs.Frames.{texts_in}
use Rattle.ix_file.proofs.Placing.{AreLengths, framed_size, placed, texts_placed}
use Rattle.ix_file.proofs.volume.places_of.Goals as goal

pub overflow_sub-end : goal.overflow_sub-end
overflow_sub-end c = omega (arith, framed_size c.args.bytes.now (texts_in c.args.sections) c.requires)

pub overflow_sub-grams : goal.overflow_sub-grams
overflow_sub-grams c = omega (arith, framed_size c.args.bytes.now (texts_in c.args.sections) c.requires)

pub overflow_sub-dictionary : goal.overflow_sub-dictionary
overflow_sub-dictionary c = omega (arith, framed_size c.args.bytes.now (texts_in c.args.sections) c.requires)

pub overflow_sub-documents : goal.overflow_sub-documents
overflow_sub-documents c = omega (arith, framed_size c.args.bytes.now (texts_in c.args.sections) c.requires)

pub overflow_sub-stop : goal.overflow_sub-stop
overflow_sub-stop c = omega (arith, framed_size c.args.bytes.now (texts_in c.args.sections) c.requires)

pub returns : goal.returns
returns c =
    let bytes = c.args.bytes.now in
    let texts = texts_in c.args.sections in
    let size = framed_size bytes texts c.requires in
    let end = length bytes - 56 in
    let grams = end - length texts.grams in
    let dictionary = grams - length texts.dictionary in
    let documents = dictionary - length texts.documents in
    let stop = documents - length texts.stop in
    let are : AreLengths texts stop documents dictionary grams end = record { stop_is = omega (arith, size); documents_is = omega (arith, size); dictionary_is = omega (arith, size); grams_is = omega (arith, size); end_is = omega (arith, size) } in
    record { placed = placed bytes texts stop documents dictionary grams end c.requires are; texts = texts_placed bytes texts stop documents dictionary grams end c.requires are }
