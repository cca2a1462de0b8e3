use Rattle.std.proofs.Common.{◌≡◌, ◌++◌, ◌∷◌, [], List, Some, ap, arith, length, refl, subst, sym, ◌∙◌}
use Rattle.std.specs.Prelude.{Option}
use Rattle.ix_live.specs.declared.segment.Segment.{Segment}
use Rattle.ix_live.specs.Pieces.{piece_at}
use Rattle.ix_live.specs.Segments.{rows_in}
use Rattle.ix_live.specs.Tables.{AreIndexed, Merges}
use Rattle.ix_live.proofs.TableLemmas.{indexed_last, last_is_some, merges_last, merges_none, ok_of_both, pieces_alike, rows_merged, rows_push}
use Rattle.ix_live.proofs.merge_alike.+merge_alike.Goals as goal

pub unreachable-requires : goal.unreachable-requires
unreachable-requires t c =
    let parted = c.in-Some.ensures.cases.0 ∙ ap (λ (p : Option Segment). c.in-Some.earlier.now ++ p ∷ []) c.in_default-segment.ensures in
    last_is_some c.in-Some.earlier.now c.args.segment.volume (subst (λ (l : List (Option Segment)). AreIndexed l c.args.segment.volume) parted c.requires.indexed)

pub returns-then-last-segment-clause-merges : goal.returns-then-last-segment-clause-merges
returns-then-last-segment-clause-merges t c = merges_none c.args.table.now (length c.args.table.now) c.args.segment.volume refl

pub merge_alike-requires : goal.merge_alike-requires
merge_alike-requires t c =
    let earlier = c.in-Some.earlier.now in
    let last = c.in-Some-segment.last.now in
    let parted : c.args.table.now ≡ earlier ++ Some last ∷ [] = c.in-Some.ensures.cases.0 ∙ ap (λ (p : Option Segment). earlier ++ p ∷ []) c.in-Some-segment.ensures in
    let whole = subst (λ (l : List (Option Segment)). AreIndexed l c.args.segment.volume) parted c.requires.indexed in
    let rows = rows_merged earlier last c.args.segment.volume c.in_ok-volume.volume c.in_ok-volume.ensures whole in (
      omega (arith, c.in-Some.ensures.cases.1),
      (
        omega (arith, rows, rows_push earlier last, ap (λ (l : List (Option Segment)). length (rows_in l)) parted, c.requires.few),
        (omega (arith, c.requires.low, c.in-Some.ensures.cases.1), indexed_last earlier last c.args.segment.volume c.in_ok-volume.volume c.in_ok-volume.ensures whole),
      ),
    )

pub returns-clause-pieces : goal.returns-clause-pieces
returns-clause-pieces t c =
    let earlier = c.in-Some.earlier.now in
    let last = c.in-Some-segment.last.now in
    let parted : c.args.table.now ≡ earlier ++ Some last ∷ [] = c.in-Some.ensures.cases.0 ∙ ap (λ (p : Option Segment). earlier ++ p ∷ []) c.in-Some-segment.ensures in
    let whole = subst (λ (l : List (Option Segment)). AreIndexed l c.args.segment.volume) parted c.requires.indexed in
    let rows = rows_merged earlier last c.args.segment.volume c.in_ok-volume.volume c.in_ok-volume.ensures whole in
    let alike : last.generation ≡ c.args.segment.generation = omega (arith, c.if-last-segment.false) in
    ok_of_both c.merge_alike.result _ _ _
    (λ r within is. pieces_alike c.args.table.now earlier last parted (piece_at (Some c.args.segment)) r.0 (length c.in_ok-volume.volume.parts.rows) (piece_at (Some r.1)) alike within rows is) c.merge_alike.ensures.left
    c.merge_alike.ensures.pieces

pub returns-clause-merges : goal.returns-clause-merges
returns-clause-merges t c =
    let earlier = c.in-Some.earlier.now in
    let last = c.in-Some-segment.last.now in
    let parted : c.args.table.now ≡ earlier ++ Some last ∷ [] = c.in-Some.ensures.cases.0 ∙ ap (λ (p : Option Segment). earlier ++ p ∷ []) c.in-Some-segment.ensures in
    ok_of_both c.merge_alike.result _ _ _
    (λ r within merges. subst (λ (l : List (Option Segment)). Merges l r.0 c.args.segment.volume r.1.volume) (sym parted)
    (merges_last earlier last c.args.segment.volume c.in_ok-volume.volume c.in_ok-volume.ensures r.0 r.1.volume within merges)) c.merge_alike.ensures.left c.merge_alike.ensures.merges
