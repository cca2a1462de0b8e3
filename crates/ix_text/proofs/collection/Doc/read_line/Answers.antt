use Rattle.std.proofs.Common.{◌<◌, length, refl, arith}
use Rattle.std.proofs.lemmas.Bool.Decides.{nat_tests}
use Rattle.ix_text.specs.CollectionFaults.{IsNameSize}
use Rattle.ix_text.proofs.CollectionLemmas.{IsFirstLine-from_cut, IsName-from_line, text_of_line_unbroken}
use Rattle.ix_text.proofs.collection.Doc.read_line.Goals as goal
use Rattle.ix_text.proofs.collection.Doc.read_line.Goals.{then-is_empty-via-then-is_empty, then-is_empty-via-else-is_empty+then-name}

pub returns-in_default-clause-fault : goal.returns-in_default-clause-fault
returns-in_default-clause-fault c = (refl, (_, IsFirstLine-from_cut _ _ _ c.first_line.ensures, c.in_default.ensures.none))

pub returns-then-is_empty-clause-fault : goal.returns-then-is_empty-clause-fault
returns-then-is_empty-clause-fault c = (
  refl,
  (
    _,
    _,
    _,
    IsFirstLine-from_cut _ _ _ c.first_line.ensures,
    c.in-Some.ensures.some,
    λ size. elim c.then-is_empty.branch [
      | then-is_empty-via-then-is_empty w ↦ grind (arith, nat_tests, c.is_empty.ensures, w.if-is_empty.true, size.0)
      | then-is_empty-via-else-is_empty+then-name w ↦ omega (arith, w.if-name.true, size.1)
    ],
  ),
)

pub invariant_of-result : goal.invariant_of-result
invariant_of-result c =
    let first = IsFirstLine-from_cut _ _ _ c.first_line.ensures in
    let some_byte : 0 < length c.in-Some.name.now = grind (arith, nat_tests, c.is_empty.ensures, c.if-is_empty.false) in
    let size : IsNameSize c.in-Some.name.now = (some_byte, c.if-name.false) in
    record {
      lawful_name = IsName-from_line _ _ _ _ c.utf8.left first c.in-Some.ensures.some size;
      one_line = text_of_line_unbroken _ _ _ _ first c.in-Some.ensures.some;
    }
