use Rattle.std.proofs.Common.{length, sym, ap, ◌∙◌, arith}
use Rattle.std.proofs.lemmas.Result.{err_from_is_err_and}
use Rattle.ix_file.specs.Frames.{texts_in, version_in}
use Rattle.ix_index_text.specs.IndexText.{end_mark}
use Rattle.ix_file.proofs.FrameReading.{length-framed, frame_of, framed_from, one_mark, counts_apart}
use Rattle.ix_file.proofs.open.frame.cut.Goals as goal

pub returns-then-bytes-lt-FRAME_BYTES-clause-refused : goal.returns-then-bytes-lt-FRAME_BYTES-clause-refused
returns-then-bytes-lt-FRAME_BYTES-clause-refused c version texts documents terms few small e =
    let short = c.if-bytes-lt-FRAME_BYTES.true in
    omega (arith, short, ap length e, length-framed version texts documents terms)

pub returns-in_default-clause-refused : goal.returns-in_default-clause-refused
returns-in_default-clause-refused c version texts documents terms few small e =
    c.in_default.ensures version (frame_of _ _ _ _ _ _ c.split_frame-parts.ensures version texts documents terms e).mark_is

pub returns-then-not-is_end_mark-clause-refused : goal.returns-then-not-is_end_mark-clause-refused
returns-then-not-is_end_mark-clause-refused c version texts documents terms few small e =
    let is = frame_of _ _ _ _ _ _ c.split_frame-parts.ensures version texts documents terms e in
    let same = one_mark version (version_in c.in-Some.version) (sym is.mark_is ∙ c.in-Some.ensures) in
    let ends = c.is_end_mark.ensures.1 (is.final_is ∙ ap end_mark same) in
    cc (ends, c.if-not-is_end_mark.true)

pub returns-in_err-sections-clause-refused : goal.returns-in_err-sections-clause-refused
returns-in_err-sections-clause-refused c =
    let p = err_from_is_err_and c.from_residual.result c.from_residual.ensures.1 in
    rw p.1
    (λ version texts documents terms few small e.
    let is = frame_of _ _ _ _ _ _ c.split_frame-parts.ensures version texts documents terms e in
    c.in_err-sections.ensures.refused texts is.body_is is.sizes_are)

pub returns-then-documents-gt-MAX_DOCUMENTS-clause-refused : goal.returns-then-documents-gt-MAX_DOCUMENTS-clause-refused
returns-then-documents-gt-MAX_DOCUMENTS-clause-refused c version texts documents terms few small e =
    let is = frame_of _ _ _ _ _ _ c.split_frame-parts.ensures version texts documents terms e in
    let many = c.if-documents-gt-MAX_DOCUMENTS.true in
    let same = counts_apart _ _ documents terms (omega arith) (omega arith) (sym c.read_counts-documents.ensures ∙ is.numbers_are) in
    omega (arith, many, same)

pub returns-clause-found : goal.returns-clause-found
returns-clause-found c =
    framed_from _ _ _ _ _ _ c.split_frame-parts.ensures (version_in c.in-Some.version) (texts_in c.in_ok-sections.sections) _ _
    (record {
      mark_is = c.in-Some.ensures;
      body_is = c.in_ok-sections.ensures.found.0;
      sizes_are = c.in_ok-sections.ensures.found.1;
      numbers_are = c.read_counts-documents.ensures;
      final_is = c.is_end_mark.ensures.0 c.if-not-is_end_mark.false;
    })
