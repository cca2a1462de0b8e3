use Rattle.std.proofs.Common.{◌≡◌, codes, ◌++◌, flat_map, length, map, string_bytes, All, sym, subst, ap, ◌∙◌, arith}
use Rattle.std.proofs.lemmas.List.{length-map}
use Rattle.std.proofs.lemmas.List.Elements.{All-weaker}
use Rattle.std.specs.Int.{to_le_bytes, w32}
use Rattle.ix_text.specs.Parts.{row_bytes}
use Rattle.ix_text.specs.Terms.{IsTerm}
use Rattle.ix_vbyte.specs.Code.{code_of}
use Rattle.ix_vbyte.specs.Texts.{counted}
use Rattle.ix_run_text.specs.Heads.{row_of_doc}
use Rattle.ix_run.specs.Runs.{IsShort}
use Rattle.ix_output.proofs.SinkLemmas.{appends_then}
use Rattle.ix_run.proofs.Writing.{All-from_map, front_more, front_then, writes_refused, writes_then}
use Rattle.ix_run.proofs.write.put_head.Goals as goal

pub put_texts-requires : goal.put_texts-requires
put_texts-requires g c =
    All-from_map IsShort string_bytes c.terms-stop.result.now
    (subst (All IsShort) (sym c.terms-stop.ensures.value) (All-weaker IsTerm IsShort (λ text is. let short = is.short in omega arith) c.args.head.now.stop c.terms-stop.ensures.lawful.terms))

pub returns-in_err-put_numbers : goal.returns-in_err-put_numbers
returns-in_err-put_numbers g c =
    let numbers = codes "PIIXRUN1" ++ to_le_bytes w32 c.args.head.now.first ++ to_le_bytes w32 (length (map row_of_doc c.args.head.now.docs.items)) in
    let count = code_of (length c.args.head.now.stop) in
    let stop = flat_map counted c.args.head.now.stop in
    let rows = flat_map (row_bytes code_of) (map row_of_doc c.args.head.now.docs.items) in
    let size : length c.as_slice-docs.result.now ≡ length (map row_of_doc c.args.head.now.docs.items) = ap length c.as_slice-docs.ensures.value ∙ sym (length-map c.args.head.now.docs.items row_of_doc) in
    writes_refused _ _ _ _ c.from_residual.ensures.0
    (front_more _ _ (numbers ++ count ++ stop) rows (front_more _ _ (numbers ++ count) stop (front_more _ _ numbers count (rw size at c.in_err-put_numbers.ensures))))

pub returns-in_err-put_code : goal.returns-in_err-put_code
returns-in_err-put_code g c =
    let numbers = codes "PIIXRUN1" ++ to_le_bytes w32 c.args.head.now.first ++ to_le_bytes w32 (length (map row_of_doc c.args.head.now.docs.items)) in
    let count = code_of (length c.args.head.now.stop) in
    let stop = flat_map counted c.args.head.now.stop in
    let rows = flat_map (row_bytes code_of) (map row_of_doc c.args.head.now.docs.items) in
    let size : length c.as_slice-docs.result.now ≡ length (map row_of_doc c.args.head.now.docs.items) = ap length c.as_slice-docs.ensures.value ∙ sym (length-map c.args.head.now.docs.items row_of_doc) in
    let counts : length c.terms-stop.result.now ≡ length c.args.head.now.stop = sym (length-map c.terms-stop.result.now string_bytes) ∙ ap length c.terms-stop.ensures.value in
    writes_refused _ _ _ _ c.from_residual-in_err-put_code.ensures.0
    (front_more _ _ (numbers ++ count ++ stop) rows (front_more _ _ (numbers ++ count) stop (front_then _ _ _ numbers count (rw size at c.in_ok-put_numbers.ensures) (rw counts at c.in_err-put_code.ensures))))

pub returns-in_err-put_texts : goal.returns-in_err-put_texts
returns-in_err-put_texts g c =
    let numbers = codes "PIIXRUN1" ++ to_le_bytes w32 c.args.head.now.first ++ to_le_bytes w32 (length (map row_of_doc c.args.head.now.docs.items)) in
    let count = code_of (length c.args.head.now.stop) in
    let stop = flat_map counted c.args.head.now.stop in
    let rows = flat_map (row_bytes code_of) (map row_of_doc c.args.head.now.docs.items) in
    let size : length c.as_slice-docs.result.now ≡ length (map row_of_doc c.args.head.now.docs.items) = ap length c.as_slice-docs.ensures.value ∙ sym (length-map c.args.head.now.docs.items row_of_doc) in
    let counts : length c.terms-stop.result.now ≡ length c.args.head.now.stop = sym (length-map c.terms-stop.result.now string_bytes) ∙ ap length c.terms-stop.ensures.value in
    writes_refused _ _ _ _ c.from_residual-in_err-put_texts.ensures.0
    (front_more _ _ (numbers ++ count ++ stop) rows
    (front_then _ _ _ (numbers ++ count) stop (appends_then _ _ _ numbers count (rw size at c.in_ok-put_numbers.ensures) (rw counts at c.in_ok-put_code.ensures)) (rw c.terms-stop.ensures.value at c.in_err-put_texts.ensures)))

pub returns : goal.returns
returns g c =
    let numbers = codes "PIIXRUN1" ++ to_le_bytes w32 c.args.head.now.first ++ to_le_bytes w32 (length (map row_of_doc c.args.head.now.docs.items)) in
    let count = code_of (length c.args.head.now.stop) in
    let stop = flat_map counted c.args.head.now.stop in
    let rows = flat_map (row_bytes code_of) (map row_of_doc c.args.head.now.docs.items) in
    let size : length c.as_slice-docs.result.now ≡ length (map row_of_doc c.args.head.now.docs.items) = ap length c.as_slice-docs.ensures.value ∙ sym (length-map c.args.head.now.docs.items row_of_doc) in
    let counts : length c.terms-stop.result.now ≡ length c.args.head.now.stop = sym (length-map c.terms-stop.result.now string_bytes) ∙ ap length c.terms-stop.ensures.value in
    writes_then c.put_rows.result _ _ _ (numbers ++ count ++ stop) rows
    (appends_then _ _ _ (numbers ++ count) stop (appends_then _ _ _ numbers count (rw size at c.in_ok-put_numbers.ensures) (rw counts at c.in_ok-put_code.ensures)) (rw c.terms-stop.ensures.value at c.in_ok-put_texts.ensures))
    (rw c.as_slice-docs.ensures.value at c.put_rows.ensures)
