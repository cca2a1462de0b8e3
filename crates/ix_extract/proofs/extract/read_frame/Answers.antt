use Rattle.std.proofs.Common.{arith, inr, refl}
use Rattle.ix_extract.specs.ErrorsHandedUp.{IsOfOpen}
use Rattle.ix_extract.specs.Refusals.{IsReadFault}
use Rattle.ix_extract.proofs.EndLemmas.{ends_appended, no_trailer, too_short, trailer_told}
use Rattle.ix_extract.proofs.ErrorLemmas.{handed_up, open_fault}
use Rattle.ix_extract.proofs.Projecting.{no_text}
use Rattle.ix_extract.proofs.extract.read_frame.Goals as goal

pub returns-then-size-lt-FRAME_BYTES-clause-refused : goal.returns-then-size-lt-FRAME_BYTES-clause-refused
returns-then-size-lt-FRAME_BYTES-clause-refused g c =
    let contents = g.S.ReadAt.contents c.args.source.now in
    inr ((_, refl), no_text contents (too_short contents c.in_ok-size.size c.in_ok-size.ensures.told (omega (arith, c.if-size-lt-FRAME_BYTES.true))))

pub returns-in_err-trailer-clause-refused : goal.returns-in_err-trailer-clause-refused
returns-in_err-trailer-clause-refused g c =
    let contents = g.S.ReadAt.contents c.args.source.now in
    let size = c.in_ok-size.size in
    let given = c.in_err-trailer.field-0.0 in
    let frame = c.as_slice.result.now in
    let ends = ends_appended contents size c.new-frame.result.items c.append_at.new.out.items c.append_at-2.new.out.items frame c.new-frame.ensures.items c.in_ok-append_at.ensures.told c.in_ok-append_at-2.ensures.told c.as_slice.ensures.value in
    handed_up (IsOfOpen given) (IsReadFault contents) c.from_residual-in_err-trailer.result c.from_residual-in_err-trailer.ensures.1
    (λ error of. open_fault contents given error of (λ _. no_text contents (no_trailer contents size frame c.in_ok-size.ensures.told ends c.in_err-trailer.ensures.found)))

pub returns-clause-trailer : goal.returns-clause-trailer
returns-clause-trailer g c =
    let contents = g.S.ReadAt.contents c.args.source.now in
    let size = c.in_ok-size.size in
    let frame = c.as_slice.result.now in
    let ends = ends_appended contents size c.new-frame.result.items c.append_at.new.out.items c.append_at-2.new.out.items frame c.new-frame.ensures.items c.in_ok-append_at.ensures.told c.in_ok-append_at-2.ensures.told c.as_slice.ensures.value in
    trailer_told contents size frame c.in_ok-trailer.trailer c.in_ok-size.ensures.told ends c.in_ok-trailer.ensures.found
