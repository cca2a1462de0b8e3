use Rattle.std.proofs.Common.{◌≡◌, ◌++◌, ◌∷◌, [], List, map, get_or, string_bytes, ap, ap₂, sym, ◌∙◌}
use Rattle.std.proofs.lemmas.List.{map-append, take_more}
use Rattle.ix_text.specs.Parts.{DocumentRow}
use Rattle.ix_text.proofs.PartsLemmas.{same_row_fields}
use Rattle.ix_run.specs.Heads.{row_of_doc}
use Rattle.ix_merge.proofs.IndexSources.{row_at}
use Rattle.ix_merge.proofs.index_head.documents.Goals as goal

pub loop-document-preserved : goal.loop-document-preserved
loop-document-preserved c =
    let rows : List DocumentRow = c.args.index.now.parts.rows in
    let none : DocumentRow = record { name = []; tokens = 0 } in
    let at = row_at rows c.loop-document.document c.name.result.now c.token_count-tokens.result none c.name.ensures c.token_count-tokens.ensures in
    let row : DocumentRow = record { name = string_bytes c.in_ok-name.name; tokens = c.token_count-tokens.result } in
    let same : row ≡ get_or rows c.loop-document.document none =
    same_row_fields row (get_or rows c.loop-document.document none) (c.in_ok-name.ensures.ok ∙ sym (ap (λ (r : DocumentRow). r.name) at.1)) (sym (ap (λ (r : DocumentRow). r.tokens) at.1)) in
    ap (map row_of_doc) c.in_ok-push.ensures.items
    ∙ map-append row_of_doc c.loop-document.docs.items (record { name = c.in_ok-name.name; tokens = c.token_count-tokens.result } ∷ [])
    ∙ ap₂ (λ (rs : List DocumentRow) (r : DocumentRow). rs ++ r ∷ []) c.loop-document.invariant same
    ∙ sym (take_more rows c.loop-document.document none at.0)
