-- The head, the segments and the removals are read, each from what is left behind the part before it.
use Rattle.std.proofs.Common.{◌∙◌, refl}
use Rattle.std.proofs.lemmas.Result.{err_from_is_err_and}
use Rattle.ix_manifest.specs.ManifestText.{body_text}
use Rattle.ix_manifest.proofs.ReadingLemmas.{behind_segments, end_behind, manifest_parts, same_view, segments_there}
use Rattle.ix_manifest.proofs.reading.read_lines.Goals as goal

pub returns-in_err-next : goal.returns-in_err-next
returns-in_err-next c = λ view lawful is. absurd (c.in_err-next.ensures view.next _ lawful.bound (is ∙ manifest_parts view))

pub returns-in_err-segments : goal.returns-in_err-segments
returns-in_err-segments c = λ view lawful is.
    let head = c.in_ok-next.ensures view.next _ lawful.bound (is ∙ manifest_parts view) in
    let p = err_from_is_err_and c.from_residual-in_err-segments.result c.from_residual-in_err-segments.ensures.1 in
    rw (p.1, p.2) (c.in_err-segments.ensures view.next view.segments (behind_segments view) (segments_there view c.in_ok-next.left.now lawful head.1))

pub returns-in_err-removals : goal.returns-in_err-removals
returns-in_err-removals c = λ view lawful is.
    let head = c.in_ok-next.ensures view.next _ lawful.bound (is ∙ manifest_parts view) in
    let middle = c.in_ok-segments.ensures view.next view.segments (behind_segments view) (segments_there view c.in_ok-next.left.now lawful head.1) in
    let last = c.in_err-removals.ensures view.next view.segments view.removals _ lawful.bound lawful.removals middle.1 (end_behind (body_text view)) in
    cc last

pub returns : goal.returns
returns c = λ view lawful is.
    let head = c.in_ok-next.ensures view.next _ lawful.bound (is ∙ manifest_parts view) in
    let middle = c.in_ok-segments.ensures view.next view.segments (behind_segments view) (segments_there view c.in_ok-next.left.now lawful head.1) in
    let last = c.in_ok-removals.ensures view.next view.segments view.removals _ lawful.bound lawful.removals middle.1 (end_behind (body_text view)) in
    same_view c.in_ok-next.next c.in_ok-segments.segments.items c.in_ok-removals.removals view _ head.0 middle.0 refl last
