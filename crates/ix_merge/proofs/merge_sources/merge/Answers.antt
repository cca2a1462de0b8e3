-- From what the sources say of themselves to what was told of them.
use Rattle.std.proofs.Common.{◌≡◌, ◌≢◌, ℕ, Option, ◌≤◌, ◌<◌, ◌^◌, List, length, map, All, Ok, Err, refl, sym, ap, ◌∙◌, subst, arith, rules, inl, inr}
use Rattle.std.proofs.lemmas.List.{length-map}
use Rattle.std.specs.Io.KnownBytes.{Keeps}
use Rattle.std.proofs.lemmas.Result.{err_from_is_err_and}
use Rattle.ix_file.specs.Rows.{document_row}
use Rattle.ix_file.specs.Told.{told_first}
use Rattle.ix_file.specs.Writers.{sink}
use Rattle.ix_file.specs.DocRow.{DocRow}
use Rattle.ix_run.specs.Heads.{IsLawfulHeading}
use Rattle.ix_merge.specs.Merging.{AreApart}
use Rattle.ix_merge.specs.Pieces.{LeavesFront, LeavesYieldedPart, WritesConcatenation, WritesFront, WritesYieldedPart}
use Rattle.ix_merge.specs.Refusals.{AreMergeable, HaveOneStop, IsRefusal, TellsFault}
use Rattle.ix_merge.specs.Rows.{AreRowsOf}
use Rattle.ix_merge.specs.Unfinished.{LeavesMergedFront}
use Rattle.ix_merge.specs.declared.merge_error.MergeError.TheVariants.{Write}
use Rattle.ix_merge.proofs.Closing.{written_some}
use Rattle.ix_merge.proofs.Faulting.{headings_tell_none, tells_fault, writer_tells_none}
use Rattle.ix_merge.proofs.Refused.{gap_told, overlap_told, difference_told, size_told}
use Rattle.ix_merge.proofs.WholeMerge.{begun, covered_apart, front_written, if_err, last_part, late_refusal, lawful_headings, left_yielded, on_err, short_names, whole_written, writer_refusal, yielded_written}
use Rattle.ix_merge.proofs.merge_sources.merge.Goals as goal

pub collect_rows-requires : goal.collect_rows-requires
collect_rows-requires g c =
    let P : List g.row.S.Denot → Type 0 = λ sources. All IsLawfulHeading (map g.S.Source.heading sources) in
    subst P (sym c.as_slice.ensures.value) (lawful_headings g.S.Source.heading g.S.Source.gives g.met.S.Source.given_lawfully c.args.sources.items c.requires.unread)

pub returns-in_err-rows-clause-gap : goal.returns-in_err-rows-clause-gap
returns-in_err-rows-clause-gap g c =
    let hs = map g.S.Source.heading c.args.sources.items in
    let p = err_from_is_err_and c.from_residual.result c.from_residual.ensures.1 in
    let error = c.in_err-rows.field-0.0 in
    let P : List g.row.S.Denot → Type 0 = λ sources. IsRefusal (map g.S.Source.heading sources) error in
    rw (p.1, p.2) (gap_told hs (Err error) tt (subst P c.as_slice.ensures.value c.in_err-rows.ensures.refused))

pub returns-in_err-rows-clause-overlap : goal.returns-in_err-rows-clause-overlap
returns-in_err-rows-clause-overlap g c =
    let hs = map g.S.Source.heading c.args.sources.items in
    let p = err_from_is_err_and c.from_residual.result c.from_residual.ensures.1 in
    let error = c.in_err-rows.field-0.0 in
    let P : List g.row.S.Denot → Type 0 = λ sources. IsRefusal (map g.S.Source.heading sources) error in
    rw (p.1, p.2) (overlap_told hs (Err error) tt (subst P c.as_slice.ensures.value c.in_err-rows.ensures.refused))

pub returns-in_err-rows-clause-stop_differs : goal.returns-in_err-rows-clause-stop_differs
returns-in_err-rows-clause-stop_differs g c =
    let hs = map g.S.Source.heading c.args.sources.items in
    let p = err_from_is_err_and c.from_residual.result c.from_residual.ensures.1 in
    let error = c.in_err-rows.field-0.0 in
    let P : List g.row.S.Denot → Type 0 = λ sources. IsRefusal (map g.S.Source.heading sources) error in
    rw (p.1, p.2) (difference_told hs (Err error) tt (subst P c.as_slice.ensures.value c.in_err-rows.ensures.refused))

pub returns-in_err-rows-clause-too_large : goal.returns-in_err-rows-clause-too_large
returns-in_err-rows-clause-too_large g c =
    let hs = map g.S.Source.heading c.args.sources.items in
    let p = err_from_is_err_and c.from_residual.result c.from_residual.ensures.1 in
    let error = c.in_err-rows.field-0.0 in
    let P : List g.row.S.Denot → Type 0 = λ sources. IsRefusal (map g.S.Source.heading sources) error in
    rw (p.1, p.2) (size_told hs (Err error) tt (subst P c.as_slice.ensures.value c.in_err-rows.ensures.refused))

pub begin-writer-requires-clause-names : goal.begin-writer-requires-clause-names
begin-writer-requires-clause-names g c =
    let P : List DocRow → Type 0 = λ rows. All (λ row. length row.name.now < 2 ^ 32) rows in
    subst P (sym c.as_slice-3.ensures.value) (short_names c.in_ok-rows.rows.items c.in_ok-rows.ensures.names)

pub begin-writer-requires-clause-stop : goal.begin-writer-requires-clause-stop
begin-writer-requires-clause-stop g c =
    let P : List g.row.S.Denot → Type 0 = λ sources. HaveOneStop (map g.S.Source.heading sources) in
    subst P (c.as_slice.ensures.value ∙ sym c.as_slice-2.ensures.value) c.in_ok-rows.ensures.mergeable.compatible.stop

pub merge_terms-requires-clause-apart : goal.merge_terms-requires-clause-apart
merge_terms-requires-clause-apart g c =
    let P : List g.row.S.Denot → Type 0 = λ sources. AreApart (map g.S.Source.heading sources) in
    let compatible = c.in_ok-rows.ensures.mergeable.compatible in
    subst P (c.as_slice.ensures.value ∙ sym c.as_mut_slice.ensures.value)
    (covered_apart (map g.S.Source.heading c.as_slice.result.now) compatible.count compatible.cover)

pub returns-in_err-merge_terms-clause-gap : goal.returns-in_err-merge_terms-clause-gap
returns-in_err-merge_terms-clause-gap g c =
    let hs = map g.S.Source.heading c.args.sources.items in
    let p = err_from_is_err_and c.from_residual-in_err-merge_terms.result c.from_residual-in_err-merge_terms.ensures.1 in
    let error = c.in_err-merge_terms.field-0.0 in
    let P : List g.row.S.Denot → Type 0 = λ sources. AreMergeable (map g.S.Source.heading sources) in
    let mergeable = subst P c.as_slice.ensures.value c.in_ok-rows.ensures.mergeable in
    let few : length c.as_mut_slice.result.now ≤ length hs = omega (arith, ap length c.as_mut_slice.ensures.value, length-map c.args.sources.items g.S.Source.heading) in
    rw (p.1, p.2) (gap_told hs (Err error) tt (late_refusal hs g.S.Source.faults c.as_mut_slice.result.now error mergeable few c.in_err-merge_terms.ensures.refused))

pub returns-in_err-merge_terms-clause-overlap : goal.returns-in_err-merge_terms-clause-overlap
returns-in_err-merge_terms-clause-overlap g c =
    let hs = map g.S.Source.heading c.args.sources.items in
    let p = err_from_is_err_and c.from_residual-in_err-merge_terms.result c.from_residual-in_err-merge_terms.ensures.1 in
    let error = c.in_err-merge_terms.field-0.0 in
    let P : List g.row.S.Denot → Type 0 = λ sources. AreMergeable (map g.S.Source.heading sources) in
    let mergeable = subst P c.as_slice.ensures.value c.in_ok-rows.ensures.mergeable in
    let few : length c.as_mut_slice.result.now ≤ length hs = omega (arith, ap length c.as_mut_slice.ensures.value, length-map c.args.sources.items g.S.Source.heading) in
    rw (p.1, p.2) (overlap_told hs (Err error) tt (late_refusal hs g.S.Source.faults c.as_mut_slice.result.now error mergeable few c.in_err-merge_terms.ensures.refused))

pub returns-in_err-merge_terms-clause-front : goal.returns-in_err-merge_terms-clause-front
returns-in_err-merge_terms-clause-front g c =
    let heading = g.S.Source.heading in
    let contents = g.W.Write.contents in
    let before = contents c.args.out.now in
    let sources = c.as_mut_slice.result.now in
    let rows = map document_row c.as_slice-3.result.now in
    let ready = (c.is_ready.ensures).0 c.if-not-is_ready.false in
    let begins = c.begin-writer.ensures.told ready in
    let told = told_first begins.stop rows in
    let some = c.in_err-merge_terms.ensures.some before told begins.was refl in
    let R : List DocRow → Type 0 = λ xs. AreRowsOf (map heading c.as_slice.result.now) (map document_row xs) in
    let begun_now =
    begun heading contents before c.begin-writer.result c.args.sources.items c.as_slice.result.now c.as_slice-2.result.now sources rows c.as_slice.ensures.value c.as_slice-2.ensures.value c.as_mut_slice.ensures.value
    begins (subst R (sym c.as_slice-3.ensures.value) c.in_ok-rows.ensures.rows) c.in_ok-rows.ensures.mergeable in
    let some_written = written_some (map heading sources) begins.stop rows before (contents (sink c.merge_terms.new.writer)) begun_now some in
    let F : List g.row.S.Denot → Type 0 = λ xs. WritesFront (map heading xs) before (contents (sink c.merge_terms.new.writer)) in
    let L : g.row.W.Denot → Type 0 = λ w. WritesFront (map heading c.args.sources.items) before (contents w) in
    let left : WritesFront (map heading c.args.sources.items) before (contents c.drop-writer-in_err-merge_terms.new.self.0) =
    subst L (sym c.drop-writer-in_err-merge_terms.ensures) (subst F c.as_mut_slice.ensures.value some_written) in
    let moved : (w : g.row.W.Denot) → w ≡ c.drop-writer-in_err-merge_terms.new.self.0 → LeavesFront (map heading c.args.sources.items) before (contents w) =
    λ w same. inr (subst L (sym same) left) in
    on_err c.from_residual-in_err-merge_terms.result (moved _ (search rules))

pub finish-requires : goal.finish-requires
finish-requires g c =
    let heading = g.S.Source.heading in
    let contents = g.W.Write.contents in
    let before = contents c.args.out.now in
    let sources = c.as_mut_slice.result.now in
    let rows = map document_row c.as_slice-3.result.now in
    let ready = (c.is_ready.ensures).0 c.if-not-is_ready.false in
    let begins = c.begin-writer.ensures.told ready in
    let told = told_first begins.stop rows in
    let tells = c.in_ok-merge_terms.ensures.merged before told begins.was refl in
    record { may = λ ready. record { told = tells.now; kept = tells.was.kept; may = tells.closable } }

pub returns-in-Ok-clause-written : goal.returns-in-Ok-clause-written
returns-in-Ok-clause-written g c =
    let heading = g.S.Source.heading in
    let contents = g.W.Write.contents in
    let before = contents c.args.out.now in
    let sources = c.as_mut_slice.result.now in
    let rows = map document_row c.as_slice-3.result.now in
    let ready = (c.is_ready.ensures).0 c.if-not-is_ready.false in
    let begins = c.begin-writer.ensures.told ready in
    let told = told_first begins.stop rows in
    let tells = c.in_ok-merge_terms.ensures.merged before told begins.was refl in
    let R : List DocRow → Type 0 = λ xs. AreRowsOf (map heading c.as_slice.result.now) (map document_row xs) in
    let begun_now =
    begun heading contents before c.begin-writer.result c.args.sources.items c.as_slice.result.now c.as_slice-2.result.now sources rows c.as_slice.ensures.value c.as_slice-2.ensures.value c.as_mut_slice.ensures.value
    begins (subst R (sym c.as_slice-3.ensures.value) c.in_ok-rows.ensures.rows) c.in_ok-rows.ensures.mergeable in
    let written = whole_written g.S.Source.yields heading contents sources before told c.merge_terms.new.writer tells begun_now (contents c.finish.new.self.0)
    (λ collection lawful of. c.in-Ok.ensures.index_text before tells.now collection tells.was tells.closable lawful of) in
    let F : List g.row.S.Denot → Type 0 = λ xs. WritesConcatenation g.S.Source.yields heading xs before (contents c.finish.new.self.0) in
    let L : g.row.W.Denot → Type 0 = λ w. WritesConcatenation g.S.Source.yields heading c.args.sources.items before (contents w) in
    let moved : (w : g.row.W.Denot) → w ≡ c.finish.new.self.0 → WritesConcatenation g.S.Source.yields heading c.args.sources.items before (contents w) =
    λ w same. subst L (sym same) (subst F c.as_mut_slice.ensures.value written) in
    moved _ (search rules)

pub returns-in-Ok-clause-gap : goal.returns-in-Ok-clause-gap
returns-in-Ok-clause-gap g c =
    let hs = map g.S.Source.heading c.args.sources.items in
    let P : List g.row.S.Denot → Type 0 = λ sources. AreMergeable (map g.S.Source.heading sources) in
    gap_told hs (Ok tt) (subst P c.as_slice.ensures.value c.in_ok-rows.ensures.mergeable) tt

pub returns-in-Ok-clause-overlap : goal.returns-in-Ok-clause-overlap
returns-in-Ok-clause-overlap g c =
    let hs = map g.S.Source.heading c.args.sources.items in
    let P : List g.row.S.Denot → Type 0 = λ sources. AreMergeable (map g.S.Source.heading sources) in
    overlap_told hs (Ok tt) (subst P c.as_slice.ensures.value c.in_ok-rows.ensures.mergeable) tt

pub put_error-requires : goal.put_error-requires
put_error-requires g c =
    let heading = g.S.Source.heading in
    let contents = g.W.Write.contents in
    let before = contents c.args.out.now in
    let sources = c.as_mut_slice.result.now in
    let rows = map document_row c.as_slice-3.result.now in
    let ready = (c.is_ready.ensures).0 c.if-not-is_ready.false in
    let begins = c.begin-writer.ensures.told ready in
    let told = told_first begins.stop rows in
    let tells = c.in_ok-merge_terms.ensures.merged before told begins.was refl in
    λ failed. elim (c.in-Err.ensures.error tells.was.ready) [ inl is ↦ cc (is, failed) | inr is ↦ cc (is, failed) ]

pub returns-clause-gap : goal.returns-clause-gap
returns-clause-gap g c =
    let hs = map g.S.Source.heading c.args.sources.items in
    let P : List g.row.S.Denot → Type 0 = λ sources. AreMergeable (map g.S.Source.heading sources) in
    let mergeable = subst P c.as_slice.ensures.value c.in_ok-rows.ensures.mergeable in
    gap_told hs (Err c.put_error.result) tt (writer_refusal hs c.put_error.result mergeable c.put_error.ensures.of_writer)

pub returns-clause-overlap : goal.returns-clause-overlap
returns-clause-overlap g c =
    let hs = map g.S.Source.heading c.args.sources.items in
    let P : List g.row.S.Denot → Type 0 = λ sources. AreMergeable (map g.S.Source.heading sources) in
    let mergeable = subst P c.as_slice.ensures.value c.in_ok-rows.ensures.mergeable in
    overlap_told hs (Err c.put_error.result) tt (writer_refusal hs c.put_error.result mergeable c.put_error.ensures.of_writer)

pub returns-clause-front : goal.returns-clause-front
returns-clause-front g c =
    let heading = g.S.Source.heading in
    let contents = g.W.Write.contents in
    let before = contents c.args.out.now in
    let sources = c.as_mut_slice.result.now in
    let rows = map document_row c.as_slice-3.result.now in
    let ready = (c.is_ready.ensures).0 c.if-not-is_ready.false in
    let begins = c.begin-writer.ensures.told ready in
    let told = told_first begins.stop rows in
    let tells = c.in_ok-merge_terms.ensures.merged before told begins.was refl in
    let R : List DocRow → Type 0 = λ xs. AreRowsOf (map heading c.as_slice.result.now) (map document_row xs) in
    let begun_now =
    begun heading contents before c.begin-writer.result c.args.sources.items c.as_slice.result.now c.as_slice-2.result.now sources rows c.as_slice.ensures.value c.as_slice-2.ensures.value c.as_mut_slice.ensures.value
    begins (subst R (sym c.as_slice-3.ensures.value) c.in_ok-rows.ensures.rows) c.in_ok-rows.ensures.mergeable in
    let written = front_written g.S.Source.yields heading contents sources before told c.merge_terms.new.writer tells begun_now (contents c.finish.new.self.0)
    (λ grams of. c.in-Err.ensures.front before tells.now tells.was tells.closable grams of) in
    let F : List g.row.S.Denot → Type 0 = λ xs. WritesFront (map heading xs) before (contents c.finish.new.self.0) in
    let L : g.row.W.Denot → Type 0 = λ w. WritesFront (map heading c.args.sources.items) before (contents w) in
    let moved : (w : g.row.W.Denot) → w ≡ c.finish.new.self.0 → LeavesFront (map heading c.args.sources.items) before (contents w) =
    λ w same. inr (subst L (sym same) (subst F c.as_mut_slice.ensures.value written)) in
    moved _ (search rules)

pub returns-in_err-merge_terms-clause-fault : goal.returns-in_err-merge_terms-clause-fault
returns-in_err-merge_terms-clause-fault g c =
    let p = err_from_is_err_and c.from_residual-in_err-merge_terms.result c.from_residual-in_err-merge_terms.ensures.1 in
    let error = c.in_err-merge_terms.field-0.0 in
    let P : List g.row.S.Denot → Type 0 = λ sources. TellsFault g.S.Source.faults sources error in
    rw (p.1, p.2) (subst P c.as_mut_slice.ensures.value (tells_fault g.S.Source.faults c.as_mut_slice.result.now error c.in_err-merge_terms.ensures.refused))

pub returns-clause-fault : goal.returns-clause-fault
returns-clause-fault g c = writer_tells_none g.S.Source.faults c.args.sources.items c.put_error.result c.put_error.ensures.of_writer

pub returns-in_err-rows-clause-fault : goal.returns-in_err-rows-clause-fault
returns-in_err-rows-clause-fault g c =
    let p = err_from_is_err_and c.from_residual.result c.from_residual.ensures.1 in
    rw (p.1, p.2) (headings_tell_none g.S.Source.faults c.args.sources.items c.in_err-rows.field-0.0 c.in_err-rows.ensures.of_headings)

pub returns-in_err-merge_terms-clause-unfinished : goal.returns-in_err-merge_terms-clause-unfinished
returns-in_err-merge_terms-clause-unfinished g c sure =
    let heading = g.S.Source.heading in
    let contents = g.W.Write.contents in
    let before = contents c.args.out.now in
    let sources = c.as_mut_slice.result.now in
    let rows = map document_row c.as_slice-3.result.now in
    let ready = (c.is_ready.ensures).0 c.if-not-is_ready.false in
    let begins = c.begin-writer.ensures.told ready in
    let told = told_first begins.stop rows in
    let R : List DocRow → Type 0 = λ xs. AreRowsOf (map heading c.as_slice.result.now) (map document_row xs) in
    let begun_now =
    begun heading contents before c.begin-writer.result c.args.sources.items c.as_slice.result.now c.as_slice-2.result.now sources rows c.as_slice.ensures.value c.as_slice-2.ensures.value c.as_mut_slice.ensures.value
    begins (subst R (sym c.as_slice-3.ensures.value) c.in_ok-rows.ensures.rows) c.in_ok-rows.ensures.mergeable in
    let old : contents (sink c.begin-writer.result) ≡ before = ap contents c.begin-writer.ensures.nothing_written in
    let some = c.in_err-merge_terms.ensures.unfinished (subst (All g.S.Source.sure) (sym c.as_mut_slice.ensures.value) sure) before told begins.was refl in
    let M : Option (List ℕ) → Type 0 = λ known. LeavesMergedFront g.S.Source.yields heading contents sources known c.begin-writer.result c.merge_terms.new.writer in
    let left : (if_whole : Type 0) → LeavesYieldedPart g.S.Source.yields heading sources (contents (sink c.begin-writer.result)) (contents (sink c.merge_terms.new.writer)) if_whole =
    λ if_whole. left_yielded g.S.Source.yields heading contents sources begins.stop rows c.begin-writer.result c.merge_terms.new.writer if_whole begun_now (subst M (sym old) some) in
    let moved : (if_whole : Type 0) (w : g.row.W.Denot) → w ≡ c.drop-writer-in_err-merge_terms.new.self.0 → LeavesYieldedPart g.S.Source.yields heading c.args.sources.items before (contents w) if_whole =
    λ if_whole w same.
    let F : List g.row.S.Denot → Type 0 = λ xs. LeavesYieldedPart g.S.Source.yields heading xs (contents (sink c.begin-writer.result)) (contents (sink c.merge_terms.new.writer)) if_whole in
    let K : Option (List ℕ) → Type 0 = λ known. LeavesYieldedPart g.S.Source.yields heading c.args.sources.items known (contents (sink c.merge_terms.new.writer)) if_whole in
    let L : g.row.W.Denot → Type 0 = λ w. LeavesYieldedPart g.S.Source.yields heading c.args.sources.items before (contents w) if_whole in
    subst L (sym (same ∙ c.drop-writer-in_err-merge_terms.ensures)) (subst K old (subst F c.as_mut_slice.ensures.value (left if_whole))) in
    if_err c.from_residual-in_err-merge_terms.result _ (λ error. moved _ _ (search rules))

pub returns-clause-unfinished : goal.returns-clause-unfinished
returns-clause-unfinished g c sure =
    let heading = g.S.Source.heading in
    let contents = g.W.Write.contents in
    let before = contents c.args.out.now in
    let sources = c.as_mut_slice.result.now in
    let rows = map document_row c.as_slice-3.result.now in
    let ready = (c.is_ready.ensures).0 c.if-not-is_ready.false in
    let begins = c.begin-writer.ensures.told ready in
    let told = told_first begins.stop rows in
    let tells = c.in_ok-merge_terms.ensures.merged before told begins.was refl in
    let R : List DocRow → Type 0 = λ xs. AreRowsOf (map heading c.as_slice.result.now) (map document_row xs) in
    let begun_now =
    begun heading contents before c.begin-writer.result c.args.sources.items c.as_slice.result.now c.as_slice-2.result.now sources rows c.as_slice.ensures.value c.as_slice-2.ensures.value c.as_mut_slice.ensures.value
    begins (subst R (sym c.as_slice-3.ensures.value) c.in_ok-rows.ensures.rows) c.in_ok-rows.ensures.mergeable in
    let error = c.put_error.result in
    let memory : error ≢ Write → Keeps (contents (sink c.merge_terms.new.writer)) (contents c.finish.new.self.0) = λ other. c.in-Err.ensures.memory (c.put_error.ensures.memory other) in
    let written = yielded_written g.S.Source.yields heading contents sources before told c.merge_terms.new.writer tells begun_now (contents c.finish.new.self.0) (error ≡ Write)
    (λ grams of. last_part contents before c.merge_terms.new.writer tells.now c.finish.new.self.0 error grams tells.was c.put_error.ensures.of_writer (c.in-Err.ensures.front before tells.now tells.was tells.closable grams of) memory) in
    let F : List g.row.S.Denot → Type 0 = λ xs. WritesYieldedPart g.S.Source.yields heading xs before (contents c.finish.new.self.0) (error ≡ Write) in
    let L : g.row.W.Denot → Type 0 = λ w. WritesYieldedPart g.S.Source.yields heading c.args.sources.items before (contents w) (error ≡ Write) in
    let moved : (w : g.row.W.Denot) → w ≡ c.finish.new.self.0 → LeavesYieldedPart g.S.Source.yields heading c.args.sources.items before (contents w) (error ≡ Write) =
    λ w same. inr (subst L (sym same) (subst F c.as_mut_slice.ensures.value written)) in
    moved _ (search rules)
