use Rattle.std.proofs.Common.{◌+◌, ◌*◌, ◌≤◌, Global, Vec, ℕ, get_or, subst, sym, arith}
use Rattle.std.proofs.lemmas.Grind.{div_ceil_times}
use Rattle.ix_run.proofs.StretchMarks.{AreMarkedTo, kept_marks, marks_resized}
use Rattle.ix_run.proofs.span.mark_stretches.Goals as goal
use Rattle.ix_run.proofs.span.mark_stretches.Goals.{then-len-stretches+in_ok-resize, else-len-stretches}

pub loop-document-preserved : goal.loop-document-preserved
loop-document-preserved c =
    let ends = c.args.ends.now in
    let marks = c.loop-document.marks.items in
    let document = c.loop-document.document in
    let low : get_or ends document 0 ≤ 32 * c.div_ceil-stretches.result = let times = (div_ceil_times (get_or ends document 0) 32 (omega arith)).0 in omega (arith, times) in
    let P : Vec ℕ Global → Type 0 = λ v. AreMarkedTo ends v.items (document + 1) in
    elim c.if-len-stretches.branch [
      | then-len-stretches+in_ok-resize w ↦
          subst P (sym w.marks-is)
          (marks_resized ends marks _ document c.div_ceil-stretches.result _ (omega arith) (omega arith) (omega arith) w.in_ok-resize.ensures.items low c.loop-document.invariant)
      | else-len-stretches w ↦ subst P (sym w.marks-is) (kept_marks ends marks document (omega (arith, low)) c.loop-document.invariant)
    ]
