use Rattle.std.proofs.Common.{◌≡◌, ◌<◌, ◌≤◌, ◌^◌, [], ◌∷◌, ◌++◌, length, map, inl, inr, arith, ◌∙◌, ap, Ok}
use Rattle.std.proofs.lemmas.Bool.Decides.{nat_tests}
use Rattle.std.proofs.lemmas.List.{map-append}
use Rattle.std.proofs.lemmas.Result.{err_from_is_err_and}
use Rattle.ix_text.specs.Docs.{named_text}
use Rattle.ix_text.proofs.CollectionLaws.{one_list, refused}
use Rattle.ix_text.proofs.CollectionLemmas.{fault_from_line, read_all, next_text, read_line_more}
use Rattle.ix_text.proofs.SizeLemmas.{AreSmall-from_lines}
use Rattle.ix_text.proofs.collection.Collection.read.Goals as goal

pub returns-in_err-doc-clause-fault : goal.returns-in_err-doc-clause-fault
returns-in_err-doc-clause-fault c =
    let p = err_from_is_err_and c.from_residual-in_err-doc.result c.from_residual-in_err-doc.ensures.1 in
    let small : length c.args.bytes.now ≤ 2 ^ 28 = c.if-bytes-gt-MAX_TEXT_BYTES.false in
    let some_byte : 0 < length c.loop-left.left.now = grind (arith, nat_tests, c.is_empty.ensures, c.loop-left-test.true) in
    let fault = rw c.len.ensures at c.in_err-doc.ensures.fault in
    rw (p.1, p.2) (inr (fault_from_line c.args.bytes.now _ _ c.loop-left.left.now c.in_err-doc.field-0.0 small c.loop-left.invariant.characters c.loop-left.invariant.read some_byte fault))

pub returns-in_err-doc-clause-accepted : goal.returns-in_err-doc-clause-accepted
returns-in_err-doc-clause-accepted c documents read =
    let small : length c.args.bytes.now ≤ 2 ^ 28 = c.if-bytes-gt-MAX_TEXT_BYTES.false in
    let some_byte : 0 < length c.loop-left.left.now = grind (arith, nat_tests, c.is_empty.ensures, c.loop-left-test.true) in
    let fault = rw c.len.ensures at c.in_err-doc.ensures.fault in
    absurd (refused c.args.bytes.now documents c.in_err-doc.field-0.0
    (fault_from_line c.args.bytes.now _ _ c.loop-left.left.now c.in_err-doc.field-0.0 small c.loop-left.invariant.characters c.loop-left.invariant.read some_byte fault) read)

pub returns-clause-accepted : goal.returns-clause-accepted
returns-clause-accepted c documents read =
    let small : length c.args.bytes.now ≤ 2 ^ 28 = c.if-bytes-gt-MAX_TEXT_BYTES.false in
    let nothing : length c.loop-left.left.now ≡ 0 = grind (arith, nat_tests, c.is_empty.ensures, c.loop-left-test.false) in
    let mine = read_all c.args.bytes.now _ _ c.loop-left.left.now small c.loop-left.invariant.characters c.loop-left.invariant.read nothing in
    inl (ap Ok (one_list c.args.bytes.now _ documents mine read))

pub loop-left-preserved : goal.loop-left-preserved
loop-left-preserved c =
    let h = c.in_ok-doc.ensures.document in
    let items : map named_text c.push.new.self.items ≡ map named_text c.loop-left.docs.items ++ named_text c.in_ok-doc.doc ∷ [] =
    ap (map named_text) c.in_ok-push.ensures.items ∙ map-append named_text c.loop-left.docs.items (c.in_ok-doc.doc ∷ []) in
    record {
      text = next_text c.loop-left.left.now (named_text c.in_ok-doc.doc) c.in_ok-doc.next.now h c.loop-left.invariant.text;
      characters = c.loop-left.invariant.characters;
      read = rw (items, c.in_ok-push.ensures.len) (read_line_more _ _ _ _ (named_text c.in_ok-doc.doc) _ c.loop-left.invariant.read h c.in_ok-doc.doc.lawful_name c.in_ok-doc.doc.one_line);
    }

pub invariant_of-result : goal.invariant_of-result
invariant_of-result c =
    let small : length c.args.bytes.now ≤ 2 ^ 28 = c.if-bytes-gt-MAX_TEXT_BYTES.false in
    (AreSmall-from_lines c.args.bytes.now _ _ c.loop-left.left.now small c.loop-left.invariant.read, tt)
