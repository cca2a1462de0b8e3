use Rattle.std.proofs.Common.{◌≡◌, ◌∙◌, List, [], ◌∷◌, ◌++◌, Some, ap, sym, subst, length}
use Rattle.std.proofs.lemmas.List.{length-map}
use Rattle.ix_text.specs.Parts.{ArePartsOf, row_of}
use Rattle.ix_file.specs.Opened.{Opened}
use Rattle.ix_merge.specs.RunSources.{HasLeft, SourceValue}
use Rattle.ix_scan.specs.ScansWithout.{of_documents}
use Rattle.ix_live.proofs.PairMerging.{text_of_all, written_of_two}
use Rattle.ix_live.proofs.volumes.merge_bytes.Goals as goal

pub returns-in-Ok : goal.returns-in-Ok
returns-in-Ok c = λ stop first second is other.
    let one = c.in_ok-first.first in
    let two = c.in_ok-second.second in
    let of_first : ArePartsOf (of_documents stop first) c.index-one.result.parts = subst (λ (opened : Opened). ArePartsOf (of_documents stop first) opened.parts) (sym c.index-one.ensures) is.parts in
    let of_second : ArePartsOf (of_documents stop second) c.index-other.result.parts = subst (λ (opened : Opened). ArePartsOf (of_documents stop second) opened.parts) (sym c.index-other.ensures) other.parts in
    let count : c.doc_count.result ≡ length first = c.doc_count.ensures.count ∙ ap length of_first.rows ∙ length-map first row_of in
    let from = ap (λ (s : SourceValue). s.heading.first) c.in_ok-first.ensures.value in
    let next = ap (λ (s : SourceValue). s.heading.first) c.in_ok-second.ensures.value ∙ count in
    let items : c.push_reserved-2.new.self.items ≡ one ∷ two ∷ [] =
    c.push_reserved-2.ensures.items ∙ ap (λ (l : List SourceValue). l ++ two ∷ []) (c.push_reserved.ensures.items ∙ ap (λ (l : List SourceValue). l ++ one ∷ []) c.in_ok-sources.ensures.items) in
    let writes = rw (items, c.new-bytes.ensures.items) at c.in-Ok.ensures.written in
    text_of_all c.merge.new.out.items (of_documents stop (first ++ second))
    (written_of_two HasLeft (λ (s : SourceValue). s.heading) one two stop first second (Some []) (Some c.merge.new.out.items) from next
    (c.in_ok-first.ensures.yields (of_documents stop first) of_first) (c.in_ok-second.ensures.yields (of_documents stop second) of_second) writes)
